-- A list that rises by a strict order is the only one with its elements.
use Rattle.std.proofs.Common.{◌≡◌, suc, ◌<◌, ◌↔◌, List, [], ◌∷◌, refl, sym, ap, ◌∙◌, subst, inl, inr, arith}
use Rattle.std.specs.List.{AllPairs, Contains}
use Rattle.std.proofs.lemmas.List.Elements.{All-contains}
use Rattle.fk_trace.specs.declared.change.OpenRecord.{OpenRecord}
use Rattle.fk_trace.specs.Trace.{Child}
use Rattle.fk_trace.specs.Attempts.{Precedes}
use Rattle.fk_trace.proofs.Lists.{Contains-head, Contains-tail, Contains-cases}

module _ {X : Type 0} (R : X → X → Type 0) (strict : (x : X) → R x x → ⊥) (one_way : (x y : X) → R x y → R y x → ⊥) where
  head : (x : X) (xs : List X) → AllPairs R (x ∷ xs) → (y : X) → Contains xs y → R x y
  head x xs pairs y m = All-contains (R x) xs y (λ k d l. pairs 0 (suc k) d (omega arith) (omega arith)) m

  tail : (x : X) (xs : List X) → AllPairs R (x ∷ xs) → AllPairs R xs
  tail x xs pairs = λ i j d l m. pairs (suc i) (suc j) d (omega arith) (omega arith)

  none : (x : X) → Contains [] x → ⊥
  none x m = let below = m.1 in omega arith

  -- what stands in one tail stands in the other
  within : (x y : X) (xs ys : List X) → AllPairs R (x ∷ xs) → x ≡ y → ((z : X) → Contains (x ∷ xs) z → Contains (y ∷ ys) z) → (z : X) → Contains xs z → Contains ys z
  within x y xs ys pairs same each z m =
      elim (Contains-cases y ys z (each z (Contains-tail x xs z m))) [
        | inl first ↦ absurd (strict x (subst (R x) (sym (same ∙ first)) (head x xs pairs z m)))
        | inr later ↦ later
      ]

  pub same-order : (xs ys : List X) → AllPairs R xs → AllPairs R ys → ((z : X) → Contains xs z ↔ Contains ys z) → xs ≡ ys
  same-order [] [] rises others each = refl
  same-order [] (y ∷ ys) rises others each = absurd (none y ((each y).1 (Contains-head y ys)))
  same-order (x ∷ xs) [] rises others each = absurd (none x ((each x).0 (Contains-head x xs)))
  same-order (x ∷ xs) (y ∷ ys) rises others each =
      let same : x ≡ y = elim (Contains-cases y ys x ((each x).0 (Contains-head x xs))) [
        | inl first ↦ sym first
        | inr later ↦ elim (Contains-cases x xs y ((each y).1 (Contains-head y ys))) [
          | inl first ↦ first
          | inr behind ↦ absurd (one_way x y (head x xs rises y behind) (head y ys others x later))
        ]
      ] in
      let rest : xs ≡ ys = same-order xs ys (tail x xs rises) (tail y ys others)
      (λ z. (within x y xs ys rises same (λ w. (each w).0) z, within y x ys xs others (sym same) (λ w. (each w).1) z)) in
      ap (λ (w : X). w ∷ xs) same ∙ ap (λ (ws : List X). y ∷ ws) rest

-- children by number
pub same-polls : (xs ys : List Child) → AllPairs (λ earlier later. earlier.number < later.number) xs → AllPairs (λ earlier later. earlier.number < later.number) ys
    → ((child : Child) → Contains xs child ↔ Contains ys child) → xs ≡ ys
same-polls = same-order (λ (earlier later : Child). earlier.number < later.number) (λ x below. omega arith) (λ x y below above. omega arith)

after-itself : (x : OpenRecord) → Precedes x x → ⊥
after-itself x (inl due) = omega arith
after-itself x (inr same) = let id = same.1 in omega arith

both-ways : (x y : OpenRecord) → Precedes x y → Precedes y x → ⊥
both-ways x y (inl a) (inl b) = omega arith
both-ways x y (inl a) (inr b) = let same = b.0 in omega arith
both-ways x y (inr a) (inl b) = let same = a.0 in omega arith
both-ways x y (inr a) (inr b) = let first = a.1 in let second = b.1 in omega arith

-- records by due and number
pub same-closes : (xs ys : List OpenRecord) → AllPairs Precedes xs → AllPairs Precedes ys → ((item : OpenRecord) → Contains xs item ↔ Contains ys item) → xs ≡ ys
same-closes = same-order Precedes after-itself both-ways
