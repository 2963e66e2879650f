-- Fronts of right texts, and of right texts that follow one another.
use Rattle.std.proofs.Common.{◌≡◌, ℕ, suc, ◌+◌, ◌-◌, ◌<◌, ◌≤◌, List, [], ◌∷◌, ◌++◌, length, take, drop, inl, inr, refl, sym, ◌∙◌, ap, subst, arith, length-append, append_assoc}
use Rattle.std.proofs.lemmas.Bool.{cases_lt}
use Rattle.std.proofs.lemmas.List.{append_cancel_left, append-nil, take-append-drop, take-take, length-take-le, take_all, take_rest}
use Rattle.fk_base.specs.Shape.{CanBegin, IsLongestFront}
use Rattle.fk_base.specs.Private.{IsPartFault, IsRestFault}

-- of two fronts of one text the shorter is a front of the longer
pub split_longer : (xs ys u w : List ℕ) → xs ++ u ≡ ys ++ w → length xs ≤ length ys →
    (d : List ℕ) × (ys ≡ xs ++ d) × (u ≡ d ++ w)
split_longer [] ys u w same fits = (ys, refl, same)
split_longer (x ∷ xs) [] u w same fits = absurd (omega arith)
split_longer (x ∷ xs) (y ∷ ys) u w same fits =
    let heads : x ≡ y = cc in
    let tails : xs ++ u ≡ ys ++ w = cc in
    let rest = split_longer xs ys u w tails (omega arith) in
    (rest.0, (let e = rest.1 in cc), rest.2)

pub take-append-add : (a t : List ℕ) (k : ℕ) → take (length a + k) (a ++ t) ≡ a ++ take k t
take-append-add [] t k = ap (λ n. take n t) (omega arith)
take-append-add (x ∷ a) t k =
    let more : suc (length a) + k ≡ suc (length a + k) = omega arith in
    rw more (ap (λ (r : List ℕ). x ∷ r) (take-append-add a t k))

pub CanBegin-nil : (R : List ℕ → Type 0) (t : List ℕ) → R t → CanBegin R []
CanBegin-nil R t r = (t, r)

pub CanBegin-append : (R : List ℕ → Type 0) (f g : List ℕ) → CanBegin R (f ++ g) → CanBegin R f
CanBegin-append R f g c = (g ++ c.0, subst R (append_assoc f g c.0) c.1)

-- a front of a front that can begin a right text can too
pub CanBegin-take : (R : List ℕ → Type 0) (t : List ℕ) (n m : ℕ) → n ≤ m → CanBegin R (take m t) → CanBegin R (take n t)
CanBegin-take R t n m le c =
    let whole : take m t ≡ take n t ++ drop n (take m t) =
    sym (take-append-drop n (take m t)) ∙ ap (λ f. f ++ drop n (take m t)) (take-take n m t le) in
    CanBegin-append R (take n t) (drop n (take m t)) (subst (CanBegin R) whole c)

-- no text of this length or more can begin a right one, so the longest front is shorter
pub longest_from_dead : (R : List ℕ → Type 0) (t : List ℕ) (len : ℕ) → (CanBegin R (take (len + 1) t) → ⊥) →
    (more : ℕ) → more ≤ length t → CanBegin R (take more t) → more ≤ len
longest_from_dead R t len dead more within c = elim (cases_lt len more) [
  | inl longer ↦ absurd (dead (CanBegin-take R t (len + 1) more (omega arith) c))
  | inr fits ↦ fits
]

pub IsLongestFront-same : (R S : List ℕ → Type 0) (t : List ℕ) (len : ℕ) →
    ((x : List ℕ) → R x → S x) → ((x : List ℕ) → S x → R x) → IsLongestFront R t len → IsLongestFront S t len
IsLongestFront-same R S t len to back f = record {
  inside = f.inside;
  begins = (f.begins.0, to (take len t ++ f.begins.0) f.begins.1);
  longest = λ more within c. f.longest more within (c.0, back (take more t ++ c.0) c.1);
}

-- a right text of one kind, and behind it one of another
pub record Then (A B : List ℕ → Type 0) (text : List ℕ) : Type 0 where
  pub first : List ℕ
  pub second : List ℕ
  pub is_first : A first
  pub is_second : B second
  pub whole : text ≡ first ++ second

-- no right text is a front of another
abbrev pub IsPrefixFree : (List ℕ → Type 0) → Type 0
IsPrefixFree A = (a b u v : List ℕ) → A a → A b → a ++ u ≡ b ++ v → a ≡ b

stop_longest : (A B : List ℕ → Type 0) (t : List ℕ) (len : ℕ) → IsLongestFront A t len →
    ((part rest : List ℕ) → A part → t ≡ part ++ rest → ⊥) →
    (more : ℕ) → more ≤ length t → CanBegin (Then A B) (take more t) → more ≤ len
stop_longest A B t len f none more within c =
    let th = c.1 in
    let size : length (take more t) ≡ more = length-take-le more t within in
    elim (cases_lt (length th.first) more) [
      | inl shorter ↦ absurd (
          let d = split_longer th.first (take more t) th.second c.0 (sym th.whole) (omega arith) in
          none th.first (d.0 ++ drop more t) th.is_first
          (sym (take-append-drop more t) ∙ ap (λ f. f ++ drop more t) d.1 ∙ append_assoc th.first d.0 (drop more t)))
      | inr fits ↦
          let d = split_longer (take more t) th.first c.0 th.second th.whole (omega arith) in
          f.longest more within (d.0, subst A d.1 th.is_first)
    ]

-- where the first part fails, the whole fails there
pub Then-stop : (A B : List ℕ → Type 0) (b : List ℕ) → B b → (t : List ℕ) (from place : ℕ) →
    IsPartFault A t from place → IsRestFault (Then A B) t from place
Then-stop A B b is_b t from place f = record {
  past = f.past;
  front = record {
    inside = f.front.inside;
    begins = (
      f.front.begins.0 ++ b,
      record {
        first = take (place - from) (drop from t) ++ f.front.begins.0;
        second = b;
        is_first = f.front.begins.1;
        is_second = is_b;
        whole = sym (append_assoc (take (place - from) (drop from t)) f.front.begins.0 b);
      },
    );
    longest = stop_longest A B (drop from t) (place - from) f.front f.none;
  };
  wrong = λ th. f.none th.first th.second th.is_first th.whole;
}

go_longest : (A B : List ℕ → Type 0) → IsPrefixFree A → (a t : List ℕ) → A a → (len : ℕ) → IsLongestFront B t len →
    (more : ℕ) → more ≤ length (a ++ t) → CanBegin (Then A B) (take more (a ++ t)) → more ≤ length a + len
go_longest A B free a t is_a len f more within c = elim (cases_lt (length a) more) [
  | inr short ↦ omega arith
  | inl past ↦
      let th = c.1 in
      let parts : more ≡ length a + (more - length a) = omega arith in
      let front : take more (a ++ t) ≡ a ++ take (more - length a) t =
      ap (λ n. take n (a ++ t)) parts ∙ take-append-add a t (more - length a) in
      let whole : a ++ (take (more - length a) t ++ c.0) ≡ th.first ++ th.second =
      sym (append_assoc a (take (more - length a) t) c.0) ∙ ap (λ f. f ++ c.0) (sym front) ∙ th.whole in
      let same : a ≡ th.first = free a th.first (take (more - length a) t ++ c.0) th.second is_a th.is_first whole in
      let rest : take (more - length a) t ++ c.0 ≡ th.second =
      append_cancel_left a (take (more - length a) t ++ c.0) th.second (whole ∙ ap (λ f. f ++ th.second) (sym same)) in
      let size = length-append a t in
      let fits : more - length a ≤ len =
      f.longest (more - length a) (omega arith) (c.0, subst B (sym rest) th.is_second) in
      omega arith
]

-- where the first part stands, the whole fails where what is behind it does
pub Then-go : (A B : List ℕ → Type 0) → IsPrefixFree A → (a t : List ℕ) → A a → (from next place : ℕ) →
    next ≤ length t → drop from t ≡ a ++ drop next t → next ≡ from + length a →
    IsRestFault B t next place → IsRestFault (Then A B) t from place
Then-go A B free a t is_a from next place within split size f =
    let parts : place - from ≡ length a + (place - next) = (let past = f.past in omega arith) in
    record {
      past = (let past = f.past in omega arith);
      front = subst (λ (x : List ℕ). IsLongestFront (Then A B) x (place - from)) (sym split)
          (subst (λ (n : ℕ). IsLongestFront (Then A B) (a ++ drop next t) n) (sym parts)
          (record {
            inside = (let inside = f.front.inside in let both = length-append a (drop next t) in omega arith);
            begins = (
              f.front.begins.0,
              record {
                first = a;
                second = take (place - next) (drop next t) ++ f.front.begins.0;
                is_first = is_a;
                is_second = f.front.begins.1;
                whole = ap (λ x. x ++ f.front.begins.0) (take-append-add a (drop next t) (place - next)) ∙
                    append_assoc a (take (place - next) (drop next t)) f.front.begins.0;
              },
            );
            longest = go_longest A B free a (drop next t) is_a (place - next) f.front;
          }));
      wrong = λ th.
          let whole : a ++ drop next t ≡ th.first ++ th.second = sym split ∙ th.whole in
          let same : a ≡ th.first = free a th.first (drop next t) th.second is_a th.is_first whole in
          f.wrong (subst B (sym (append_cancel_left a (drop next t) th.second (whole ∙ ap (λ f. f ++ th.second) (sym same)))) th.is_second);
    }

-- a text that is longer than its longest front is not right
pub wrong_from_longest : (R : List ℕ → Type 0) (t : List ℕ) (len : ℕ) → IsLongestFront R t len → len < length t → R t → ⊥
wrong_from_longest R t len f short r =
    let whole : take (length t) t ≡ t = take_all (length t) t (omega arith) in
    let fits : length t ≤ len = f.longest (length t) (omega arith) ([], subst R (sym (append-nil (take (length t) t) ∙ whole)) r) in
    omega arith

-- what stops in the slice from a place on
pub IsRestFault-slice : (R : List ℕ → Type 0) (t : List ℕ) (from len : ℕ) →
    IsLongestFront R (take (length t - from) (drop from t)) len → (R (drop from t) → ⊥) → IsRestFault R t from (from + len)
IsRestFault-slice R t from len f wrong =
    let rest : take (length t - from) (drop from t) ≡ drop from t = take_rest t from in
    let size : from + len - from ≡ len = omega arith in
    record {
      past = omega arith;
      front = subst (λ (n : ℕ). IsLongestFront R (drop from t) n) (sym size) (subst (λ (x : List ℕ). IsLongestFront R x len) rest f);
      wrong = wrong;
    }
