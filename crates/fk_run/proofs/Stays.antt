-- What is said of once, over runs of any kind that follow one another over the same areas.
use Rattle.std.proofs.Common.{◌≡◌, List, [], ◌∷◌, sym, subst, inl, inr, arith}
use Rattle.std.specs.List.{flat_map, AllPairs, AllByRecursion, Contains}
use Rattle.std.proofs.lemmas.List.Elements.{Contains-append_cases}
use Rattle.fk_trace.specs.Ledger.{Key, State, Bars, IsLater}
use Rattle.fk_trace.proofs.Made.{later-unbarred}
use Rattle.fk_run.proofs.Pairs.{pairs-joined}

-- A run, as far as it is asked which keys it attempted.
pub record Stay : Type 0 where
  -- the State of the ledger that it found, and of the one that it left
  pub found : State
  pub left : State
  -- the keys of the records whose open it attempted, one for each attempt
  pub attempted : List Key

-- Of the keys that were attempted no two are one, none is barred by what was found, and each is by what was left. What was barred is barred
-- still.
pub record IsStay (stay : Stay) : Type 0 where
  pub apart : AllPairs IsLater stay.attempted
  pub fresh : (key : Key) → Contains stay.attempted key → Bars stay.found key → ⊥
  pub barred : (key : Key) → Contains stay.attempted key → Bars stay.left key
  pub kept : (key : Key) → Bars stay.found key → Bars stay.left key

-- each found what the one before it left, and the first of them this
abbrev pub StaysFollow : State → List Stay → Type 0
StaysFollow found [] = Unit {0}
StaysFollow found (stay ∷ later) = (stay.found ≡ found) × StaysFollow stay.left later

abbrev pub all_attempted : List Stay → List Key
all_attempted stays = flat_map (λ stay. stay.attempted) stays

-- none of these keys was barred at the beginning
pub stays-fresh : (found : State) (stays : List Stay) → AllByRecursion IsStay stays → StaysFollow found stays → (key : Key) → Contains (all_attempted stays) key → Bars found key → ⊥
stays-fresh found [] are follow key m barred = absurd (omega (arith, m.1))
stays-fresh found (stay ∷ later) are follow key m barred =
    let here : Bars stay.found key = subst (λ (state : State). Bars state key) (sym follow.0) barred in
    elim (Contains-append_cases stay.attempted (all_attempted later) key m) [
      | inl n ↦ are.0.fresh key n here
      | inr n ↦ stays-fresh stay.left later are.1 follow.1 key n (are.0.kept key here)
    ]

-- and no two of them are one
pub stays-apart : (found : State) (stays : List Stay) → AllByRecursion IsStay stays → StaysFollow found stays → AllPairs IsLater (all_attempted stays)
stays-apart found [] are follow = λ i j d l k. absurd (omega arith)
stays-apart found (stay ∷ later) are follow =
    pairs-joined IsLater stay.attempted (all_attempted later) are.0.apart (stays-apart stay.left later are.1 follow.1)
    (λ a b m n. later-unbarred stay.left a b (are.0.barred a m) (stays-fresh stay.left later are.1 follow.1 b n))
