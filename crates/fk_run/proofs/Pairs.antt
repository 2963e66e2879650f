-- Lemmas on the pairs of joined lists.
use Rattle.std.proofs.Common.{suc, List, [], ◌∷◌, ◌++◌, arith, inl, inr, append_assoc, sym, subst}
use Rattle.std.specs.List.{AllPairs, Contains}
use Rattle.std.proofs.lemmas.List.Elements.{Contains-append_left, Contains-append_cases}
use Rattle.std.proofs.lemmas.List.Kept.{AllPairs-cons}
use Rattle.fk_trace.proofs.Lists.{Contains-head, Contains-tail, All-by}
use Rattle.fk_trace.proofs.Splits.{place_of, pair-before}

module _ {X : Type 0} (R : X → X → Type 0) where
  pairs-tail : (x : X) (xs : List X) → AllPairs R (x ∷ xs) → AllPairs R xs
  pairs-tail x xs h = λ i j d l k. h (suc i) (suc j) d (omega arith) (omega arith)

  pairs-head : (x : X) (xs : List X) (y : X) → AllPairs R (x ∷ xs) → Contains xs y → R x y
  pairs-head x xs y h m = subst (λ (z : X). R x z) m.2 (h 0 (suc m.0) y (omega arith) (let l = m.1 in omega arith))

  -- what holds of each pair of a joined list holds of each pair of its end
  pub pairs-behind : (xs ys : List X) → AllPairs R (xs ++ ys) → AllPairs R ys
  pairs-behind [] ys h = h
  pairs-behind (x ∷ xs) ys h = pairs-behind xs ys (pairs-tail x (xs ++ ys) h)

  -- and of an element of the one part and one of the other
  pub pair-across : (xs ys : List X) (x y : X) → AllPairs R (xs ++ ys) → Contains xs x → Contains ys y → R x y
  pair-across xs ys x y h m n =
      let at = place_of ys y n in
      let joined : AllPairs R (xs ++ (at.0 ++ y ∷ at.1)) = subst (λ (zs : List X). AllPairs R (xs ++ zs)) at.2 h in
      pair-before R (xs ++ at.0) y at.1 x (subst (λ (zs : List X). AllPairs R zs) (sym (append_assoc xs at.0 (y ∷ at.1))) joined) (Contains-append_left xs at.0 x m)

  -- what holds of the pairs of two lists and of those across them holds of the pairs of both together
  pub pairs-joined : (xs ys : List X) → AllPairs R xs → AllPairs R ys → ((x y : X) → Contains xs x → Contains ys y → R x y) → AllPairs R (xs ++ ys)
  pairs-joined [] ys h g across = g
  pairs-joined (x ∷ xs) ys h g across =
      AllPairs-cons R x (xs ++ ys)
      (All-by (R x) (xs ++ ys) (λ y m. elim (Contains-append_cases xs ys y m) [
        | inl n ↦ pairs-head x xs y h n
        | inr n ↦ across x y (Contains-head x xs) n
      ]))
      (pairs-joined xs ys (pairs-tail x xs h) g (λ a b m n. across a b (Contains-tail x xs a m) n))
