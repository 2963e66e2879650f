-- Lemmas on lists that are joined of parts.
use Rattle.std.proofs.Common.{◌≡◌, ℕ, ◌+◌, ◌<◌, zero, suc, List, [], ◌∷◌, ◌++◌, length, refl, ap, subst, arith, ◌⊎◌, inl, inr, length-append}
use Rattle.std.specs.List.{AllPairs, AllZip, AllByRecursion, Contains, range_with_len}
use Rattle.std.proofs.lemmas.List.{get_or_append_left}
use Rattle.std.proofs.Math.Seq.{get_or-append_seam}
use Rattle.std.proofs.lemmas.List.Elements.{Contains-append_right, All-from_recursion, All-contains}
use Rattle.fk_trace.proofs.Lists.{Contains-head, Contains-tail, Contains-cases}

-- a place of a joined list lies in its first part or behind it
pub cases_joined : {X : Type 0} (a b before : List X) (x : X) (after : List X) → a ++ b ≡ before ++ x ∷ after
    → ((rest : List X) × (a ≡ before ++ x ∷ rest)) ⊎ ((front : List X) × (before ≡ a ++ front) × (b ≡ front ++ x ∷ after))
cases_joined [] b before x after e = inr (before, refl, e)
cases_joined (y ∷ a) b [] x after e = inl (a, cc)
cases_joined (y ∷ a) b (z ∷ before) x after e =
    elim (cases_joined a b before x after cc) [
      | inl s ↦ inl (s.0, let f = s.1 in cc)
      | inr s ↦ inr (s.0, let f = s.1 in cc, s.2)
    ]

pub none_before : {X : Type 0} (before : List X) (x : X) (after : List X) → [] ≡ before ++ x ∷ after → ⊥
none_before [] x after e = cc
none_before (y ∷ before) x after e = cc

pub Contains-place : {X : Type 0} (xs before : List X) (x : X) (after : List X) → xs ≡ before ++ x ∷ after → Contains xs x
Contains-place xs before x after e = rw e (Contains-append_right before (x ∷ after) x (Contains-head x after))

-- what is contained has a place
pub place_of : {X : Type 0} (xs : List X) (x : X) → Contains xs x → (before : List X) × (after : List X) × (xs ≡ before ++ x ∷ after)
place_of [] x m = absurd (omega (arith, m.1))
place_of (y ∷ xs) x m =
    elim (Contains-cases y xs x m) [
      | inl e ↦ ([], xs, cc)
      | inr n ↦ let ih = place_of xs x n in (y ∷ ih.0, ih.1, let f = ih.2 in cc)
    ]

pub Contains-recursion : {X : Type 0} (P : X → Type 0) (xs : List X) (x : X) → AllByRecursion P xs → Contains xs x → P x
Contains-recursion P xs x h m = All-contains P xs x (All-from_recursion P xs h) m

pub recursion-behind : {X : Type 0} (P : X → Type 0) (xs ys : List X) → AllByRecursion P (xs ++ ys) → AllByRecursion P ys
recursion-behind P [] ys h = h
recursion-behind P (x ∷ xs) ys h = recursion-behind P xs ys h.1

pub recursion-front : {X : Type 0} (P : X → Type 0) (xs ys : List X) → AllByRecursion P (xs ++ ys) → AllByRecursion P xs
recursion-front P [] ys h = tt
recursion-front P (x ∷ xs) ys h = (h.0, recursion-front P xs ys h.1)

pub recursion-joined : {X : Type 0} (P : X → Type 0) (xs ys : List X) → AllByRecursion P xs → AllByRecursion P ys → AllByRecursion P (xs ++ ys)
recursion-joined P [] ys h g = g
recursion-joined P (x ∷ xs) ys h g = (h.0, recursion-joined P xs ys h.1 g)

module _ {A B : Type 0} (R : A → B → Type 0) where
  -- what follows of the second elements
  pub second_of_zip : (P : B → Type 0) → ((a : A) (b : B) → R a b → P b) → (xs : List A) (ys : List B) → AllZip R xs ys → AllByRecursion P ys
  second_of_zip P h [] [] z = tt
  second_of_zip P h [] (b ∷ ys) z = absurd z
  second_of_zip P h (a ∷ xs) [] z = absurd z
  second_of_zip P h (a ∷ xs) (b ∷ ys) z = (h a b z.0, second_of_zip P h xs ys z.1)

  -- the first element at the place of a second one
  pub first_of_zip : (xs : List A) (ys : List B) (b : B) → AllZip R xs ys → Contains ys b → (a : A) × Contains xs a × R a b
  first_of_zip [] [] b z m = absurd (omega (arith, m.1))
  first_of_zip [] (c ∷ ys) b z m = absurd z
  first_of_zip (a ∷ xs) [] b z m = absurd z
  first_of_zip (a ∷ xs) (c ∷ ys) b z m =
      elim (Contains-cases c ys b m) [
        | inl e ↦ (a, Contains-head a xs, subst (λ (d : B). R a d) e z.0)
        | inr n ↦ let ih = first_of_zip xs ys b z.1 n in (ih.0, Contains-tail a xs ih.0 ih.1, ih.2)
      ]

  -- where a second element stands, so does a first one
  pub split_zip : (xs : List A) (front : List B) (b : B) (rest : List B) → AllZip R xs (front ++ b ∷ rest)
      → (before : List A) × (a : A) × (after : List A) × (xs ≡ before ++ a ∷ after) × AllZip R before front × R a b
  split_zip [] [] b rest z = absurd z
  split_zip [] (c ∷ front) b rest z = absurd z
  split_zip (a ∷ xs) [] b rest z = ([], a, xs, refl, tt, z.0)
  split_zip (a ∷ xs) (c ∷ front) b rest z =
      let ih = split_zip xs front b rest z.1 in
      (a ∷ ih.0, ih.1, ih.2, ap (λ others. a ∷ others) ih.3, (z.0, ih.4), ih.5)

  -- the second element at the place of a first one
  pub second_at_zip : (xs : List A) (ys : List B) (a : A) → AllZip R xs ys → Contains xs a → (b : B) × Contains ys b × R a b
  second_at_zip [] ys a z m = absurd (omega (arith, m.1))
  second_at_zip (x ∷ xs) [] a z m = absurd z
  second_at_zip (x ∷ xs) (b ∷ ys) a z m =
      elim (Contains-cases x xs a m) [
        | inl e ↦ (b, Contains-head b ys, subst (λ (y : A). R y b) e z.0)
        | inr n ↦ let ih = second_at_zip xs ys a z.1 n in (ih.0, Contains-tail b ys ih.0 ih.1, ih.2)
      ]

-- what holds of each pair of a list holds of each pair of its beginning
pub AllPairs-front : {X : Type 0} (R : X → X → Type 0) (xs ys : List X) → AllPairs R (xs ++ ys) → AllPairs R xs
AllPairs-front R xs ys h = λ i j d l k.
    let low : i < length xs = omega arith in
    let all : j < length (xs ++ ys) = omega (arith, length-append xs ys) in
    let held = h i j d l all in
    rw (get_or_append_left xs ys d i low, get_or_append_left xs ys d j k) at held

-- and of an element and each before it
pub pair-before : {X : Type 0} (R : X → X → Type 0) (xs : List X) (y : X) (ys : List X) (x : X) → AllPairs R (xs ++ y ∷ ys) → Contains xs x → R x y
pair-before R xs y ys x h m =
    let held = h m.0 (length xs) x m.1 (omega (arith, length-append xs (y ∷ ys))) in
    rw (get_or_append_left xs (y ∷ ys) x m.0 m.1, m.2, get_or-append_seam xs y ys x) at held

-- two ranges, one on from the other, are one
pub range-joined : (a m n k b : ℕ) → m + n ≡ k → a + m ≡ b → range_with_len a m ++ range_with_len b n ≡ range_with_len a k
range-joined a zero n k b e f =
    let same : k ≡ n = omega arith in
    let start : b ≡ a = omega arith in
    rw (same, start) refl
range-joined a (suc m) n zero b e f = absurd (omega arith)
range-joined a (suc m) n (suc k) b e f = ap (λ ns. a ∷ ns) (range-joined (a + 1) m n k b (omega arith) (omega arith))

-- the beginning of a range is one
pub range-front : (xs ys : List ℕ) (a n : ℕ) → xs ++ ys ≡ range_with_len a n → xs ≡ range_with_len a (length xs)
range-front [] ys a n e = refl
range-front (x ∷ xs) ys a zero e = absurd cc
range-front (x ∷ xs) ys a (suc n) e =
    let rest = range-front xs ys (a + 1) n cc in
    let same : x ≡ a = cc in
    cc
