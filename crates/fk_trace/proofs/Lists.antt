-- Lemmas on `find`, `filter`, `list_any` and `Contains`.
use Rattle.std.proofs.Common.{◌≡◌, ◌≢◌, ℕ, ◌<◌, zero, suc, Bool, true, false, ◌||◌, cond, List, [], ◌∷◌, length, map, Some, None, refl, sym, ap, ◌∙◌, arith, ◌⊎◌, inl, inr, get_or}
use Rattle.std.specs.Prelude.{is_some}
use Rattle.std.specs.List.{find, filter, list_any, All, AllPairs, Contains}
use Rattle.std.specs.Option.{option_map}
use Rattle.std.proofs.lemmas.List.{get_or_default}
use Rattle.std.proofs.lemmas.List.Elements.{All-contains, All-filter, All-contains_itself, Contains-get_or}
use Rattle.std.proofs.lemmas.Bool.{cases_order, false_from_ne_true}

pub Contains-head : {Y : Type 0} (x : Y) (xs : List Y) → Contains (x ∷ xs) x
Contains-head x xs = (0, omega arith, refl)

pub Contains-tail : {Y : Type 0} (y : Y) (xs : List Y) (x : Y) → Contains xs x → Contains (y ∷ xs) x
Contains-tail y xs x h = (suc h.0, omega arith, h.2)

cases_at : {Y : Type 0} (x : Y) (xs : List Y) (c : Y) (k : ℕ) → k < length (x ∷ xs) → get_or (x ∷ xs) k c ≡ c → (x ≡ c) ⊎ Contains xs c
cases_at x xs c zero l e = inl e
cases_at x xs c (suc k) l e = inr (k, omega arith, e)

pub Contains-cases : {Y : Type 0} (x : Y) (xs : List Y) (c : Y) → Contains (x ∷ xs) c → (x ≡ c) ⊎ Contains xs c
Contains-cases x xs c h = cases_at x xs c h.0 h.1 h.2

module _ {X : Type 0} where
  pub Contains-filter : (q : X → Bool) (xs : List X) (x : X) → Contains (filter q xs) x → Contains xs x
  Contains-filter q xs x h = All-contains (Contains xs) (filter q xs) x (All-filter q (Contains xs) xs (All-contains_itself xs)) h

  pub list_any-find : (p : X → Bool) (xs : List X) → list_any p xs ≡ is_some (find p xs)
  list_any-find p [] = refl
  list_any-find p (x ∷ xs) =
      let ih = list_any-find p xs in
      elim (p x) as (λ b. (b || list_any p xs) ≡ is_some (cond b (Some x) (find p xs))) [ true ↦ refl | false ↦ ih ]

  -- an element that passes
  pub list_any-at : (p : X → Bool) (xs : List X) → list_any p xs ≡ true → (x : X) × Contains xs x × (p x ≡ true)
  list_any-at p [] h = absurd cc
  list_any-at p (x ∷ xs) h =
      let rest : list_any p xs ≡ true → (y : X) × Contains (x ∷ xs) y × (p y ≡ true) =
      λ r. let ih = list_any-at p xs r in (ih.0, Contains-tail x xs ih.0 ih.1, ih.2) in
      (elim (p x) as (λ b. p x ≡ b → (b || list_any p xs) ≡ true → (y : X) × Contains (x ∷ xs) y × (p y ≡ true))
      [ true ↦ λ e t. (x, Contains-head x xs, e) | false ↦ λ e t. rest t ]) refl h

  pub list_any-from : (p : X → Bool) (xs : List X) (x : X) → Contains xs x → p x ≡ true → list_any p xs ≡ true
  list_any-from p [] x h t = absurd (omega (arith, h.1))
  list_any-from p (y ∷ ys) x h t =
      elim (Contains-cases y ys x h) [
        | inl e ↦ rw (ap p e ∙ t) refl
        | inr m ↦ let ih = list_any-from p ys x m t in elim (p y) as (λ b. (b || list_any p ys) ≡ true) [ true ↦ refl | false ↦ ih ]
      ]

  pub find-congr : {Y : Type 0} (f g : X → Y) (p : X → Bool) (xs : List X) → ((x : X) → Contains xs x → p x ≡ true → f x ≡ g x) → option_map f (find p xs) ≡ option_map g (find p xs)
  find-congr f g p [] h = refl
  find-congr f g p (x ∷ xs) h =
      let ih = find-congr f g p xs (λ y m t. h y (Contains-tail x xs y m) t) in
      (elim (p x) as (λ b. (b ≡ true → f x ≡ g x) → option_map f (cond b (Some x) (find p xs)) ≡ option_map g (cond b (Some x) (find p xs)))
      [ true ↦ λ e. ap Some (e refl) | false ↦ λ e. ih ]) (h x (Contains-head x xs))

  -- a filter that keeps what passes finds the same
  pub find-filter_kept : (p q : X → Bool) (xs : List X) → ((x : X) → Contains xs x → p x ≡ true → q x ≡ true) → find p (filter q xs) ≡ find p xs
  find-filter_kept p q [] h = refl
  find-filter_kept p q (x ∷ xs) h =
      let ih = find-filter_kept p q xs (λ y m t. h y (Contains-tail x xs y m) t) in
      (elim (q x) as (λ c. (p x ≡ true → c ≡ true) → find p (cond c (x ∷ filter q xs) (filter q xs)) ≡ cond (p x) (Some x) (find p xs)) [
        | true ↦ λ e. ap (λ o. cond (p x) (Some x) o) ih
        | false ↦ λ e. let n : p x ≡ false = false_from_ne_true (p x) (λ t. absurd (let w = e t in cc)) in rw n ih
      ]) (h x (Contains-head x xs))

  -- a filter that takes out all that passes leaves nothing to find
  pub find-filter_none : (p q : X → Bool) (xs : List X) → ((x : X) → Contains xs x → p x ≡ true → q x ≡ false) → find p (filter q xs) ≡ None
  find-filter_none p q [] h = refl
  find-filter_none p q (x ∷ xs) h =
      let ih = find-filter_none p q xs (λ y m t. h y (Contains-tail x xs y m) t) in
      (elim (q x) as (λ c. (p x ≡ true → c ≡ false) → find p (cond c (x ∷ filter q xs) (filter q xs)) ≡ None) [
        | true ↦ λ e. let n : p x ≡ false = false_from_ne_true (p x) (λ t. absurd (let w = e t in cc)) in rw n ih
        | false ↦ λ e. ih
      ]) (h x (Contains-head x xs))

  pub find-only : (p : X → Bool) (xs : List X) (c : X) → Contains xs c → p c ≡ true → ((x : X) → Contains xs x → p x ≡ true → x ≡ c) → find p xs ≡ Some c
  find-only p [] c h t u = absurd (omega (arith, h.1))
  find-only p (x ∷ xs) c h t u =
      let rest : p x ≡ false → find p xs ≡ Some c =
      λ n. elim (Contains-cases x xs c h) [
        | inl e ↦ absurd (let w = ap p e in cc)
        | inr m ↦ find-only p xs c m t (λ y k s. u y (Contains-tail x xs y k) s)
      ] in
      (elim (p x) as (λ b. p x ≡ b → cond b (Some x) (find p xs) ≡ Some c)
      [ true ↦ λ e. ap Some (u x (Contains-head x xs) e) | false ↦ λ e. rest e ]) refl

  -- what differs pairwise by a key is one element where the keys agree
  pub same_by_key : {Y : Type 0} (f : X → Y) (xs : List X) → AllPairs (λ a b. f a ≢ f b) xs → (a b : X) → Contains xs a → Contains xs b → f a ≡ f b → a ≡ b
  same_by_key f xs apart a b m n e =
      elim (cases_order m.0 n.0) [
        | inl s ↦
            let u : get_or xs m.0 b ≡ a = get_or_default xs m.0 b a m.1 ∙ m.2 in
            sym u ∙ rw s n.2
        | inr o ↦ elim o [
          | inl l ↦ absurd (apart m.0 n.0 a l n.1 (ap f m.2 ∙ e ∙ sym (ap f (get_or_default xs n.0 a b n.1 ∙ n.2))))
          | inr l ↦ absurd (apart n.0 m.0 b l m.1 (ap f n.2 ∙ sym e ∙ sym (ap f (get_or_default xs m.0 b a m.1 ∙ m.2))))
        ]
      ]

  pub map-step : {Y : Type 0} (f g : X → Y) (h : Y → Y) (xs : List X) → ((x : X) → Contains xs x → f x ≡ h (g x)) → map f xs ≡ map h (map g xs)
  map-step f g h [] e = refl
  map-step f g h (x ∷ xs) e =
      let ih = map-step f g h xs (λ y m. e y (Contains-tail x xs y m)) in
      let here = e x (Contains-head x xs) in cc

  pub All-by : (P : X → Type 0) (xs : List X) → ((x : X) → Contains xs x → P x) → All P xs
  All-by P xs h = λ k d l. h (get_or xs k d) (Contains-get_or xs k d l)

  pub Contains-map : {Y : Type 0} (f : X → Y) (xs : List X) (x : X) → Contains xs x → Contains (map f xs) (f x)
  Contains-map f [] x h = absurd (omega (arith, h.1))
  Contains-map f (y ∷ ys) x h =
      elim (Contains-cases y ys x h) [
        | inl e ↦ rw (← e) (Contains-head (f y) (map f ys))
        | inr m ↦ Contains-tail (f y) (map f ys) (f x) (Contains-map f ys x m)
      ]

  pub list_any-map : {Y : Type 0} (f : X → Y) (p : Y → Bool) (xs : List X) → list_any p (map f xs) ≡ list_any (λ x. p (f x)) xs
  list_any-map f p [] = refl
  list_any-map f p (x ∷ xs) = ap (λ b. p (f x) || b) (list_any-map f p xs)

  pub find-map : {Y : Type 0} (f : X → Y) (p : Y → Bool) (xs : List X) → find p (map f xs) ≡ option_map f (find (λ x. p (f x)) xs)
  find-map f p [] = refl
  find-map f p (x ∷ xs) =
      let ih = find-map f p xs in
      elim (p (f x)) as (λ b. cond b (Some (f x)) (find p (map f xs)) ≡ option_map f (cond b (Some x) (find (λ y. p (f y)) xs))) [ true ↦ refl | false ↦ ih ]

  pub filter-map : {Y : Type 0} (f : X → Y) (p : Y → Bool) (xs : List X) → filter p (map f xs) ≡ map f (filter (λ x. p (f x)) xs)
  filter-map f p [] = refl
  filter-map f p (x ∷ xs) =
      let ih = filter-map f p xs in
      elim (p (f x)) as (λ b. cond b (f x ∷ filter p (map f xs)) (filter p (map f xs)) ≡ map f (cond b (x ∷ filter (λ y. p (f y)) xs) (filter (λ y. p (f y)) xs))) [ true ↦ ap (λ ys. f x ∷ ys) ih | false ↦ ih ]

  pub list_any-none : (p : X → Bool) (xs : List X) → list_any p xs ≡ false → (x : X) → Contains xs x → p x ≡ false
  list_any-none p xs h x m = false_from_ne_true (p x) (λ t. absurd (let w = list_any-from p xs x m t in cc))

  -- the test of each element decides
  pub list_any-agree : (p q : X → Bool) (xs : List X) → ((x : X) → Contains xs x → p x ≡ q x) → list_any p xs ≡ list_any q xs
  list_any-agree p q [] h = refl
  list_any-agree p q (x ∷ xs) h =
      let ih = list_any-agree p q xs (λ y m. h y (Contains-tail x xs y m)) in
      let here = h x (Contains-head x xs) in
      rw (here, ih) refl

  pub find-at : (p : X → Bool) (xs : List X) → list_any p xs ≡ true → (x : X) × Contains xs x × (p x ≡ true) × (find p xs ≡ Some x)
  find-at p [] h = absurd cc
  find-at p (x ∷ xs) h =
      let rest : p x ≡ false → list_any p xs ≡ true → (y : X) × Contains (x ∷ xs) y × (p y ≡ true) × (find p (x ∷ xs) ≡ Some y) =
      λ n r. let ih = find-at p xs r in (ih.0, Contains-tail x xs ih.0 ih.1, ih.2, rw n ih.3) in
      (elim (p x) as (λ b. p x ≡ b → (b || list_any p xs) ≡ true → (y : X) × Contains (x ∷ xs) y × (p y ≡ true) × (find p (x ∷ xs) ≡ Some y))
      [ true ↦ λ e t. (x, Contains-head x xs, e, rw e refl) | false ↦ λ e t. rest e t ]) refl h

  pub Contains-unmap : {Y : Type 0} (f : X → Y) (xs : List X) (y : Y) → Contains (map f xs) y → (x : X) × Contains xs x × (f x ≡ y)
  Contains-unmap f [] y h = absurd (omega (arith, h.1))
  Contains-unmap f (x ∷ xs) y h =
      elim (Contains-cases (f x) (map f xs) y h) [
        | inl e ↦ (x, Contains-head x xs, e)
        | inr m ↦ let ih = Contains-unmap f xs y m in (ih.0, Contains-tail x xs ih.0 ih.1, ih.2)
      ]
