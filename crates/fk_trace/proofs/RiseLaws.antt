-- A ledger that begins anew is a ledger.
use Rattle.std.proofs.Common.{◌≡◌, ℕ, ◌+◌, ◌<◌, Bool, true, false, cond, List, [], ◌∷◌, ◌++◌, Some, None, refl, ◌∙◌, subst, arith, inl, append-nil}
use Rattle.std.specs.Prelude.{nat_le}
use Rattle.std.specs.List.{cons_option, Contains}
use Rattle.std.proofs.lemmas.List.Elements.{filter_map-append, All-contains}
use Rattle.fk_trace.specs.declared.change.Change.{Change}
use Rattle.fk_trace.specs.declared.change.Change.TheVariants.{Open, Done, Settled, Floor}
use Rattle.fk_trace.specs.Ledger.{Key, is_open, seen, numbers, next_id, kept_by, after_one, IsNumber, IsSeen, IsLedgerFrom, IsLedger}
use Rattle.fk_trace.proofs.Lists.{Contains-head, Contains-tail, Contains-map, Contains-unmap, All-by}
use Rattle.fk_trace.proofs.Ledgers.{kept_in, numbers-kept, seen-kept, number-below}

-- what may stand behind a ledger may stand behind what is kept of it
kept-one : (floor : ℕ) (ledger before : List Change) (id first next : ℕ) (digest : List ℕ) → IsNumber before id → (IsSeen digest before → ⊥) → id < next
    → IsNumber (Floor floor next ∷ kept_in floor ledger before) id × (IsSeen digest (Floor floor next ∷ kept_in floor ledger before) → ⊥)
kept-one floor ledger before id first next digest number fresh low = (
  record {
    above = All-by (λ other. other < id) (numbers (kept_in floor ledger before)) (λ other m. All-contains (λ n. n < id) (numbers before) other number.above (numbers-kept floor ledger before other m));
    next = inl low;
  },
  λ known.
      let at = Contains-unmap (λ (key : Key). key.digest) (seen (kept_in floor ledger before)) digest known in
      fresh (subst (λ (d : List ℕ). IsSeen d before) at.2 (Contains-map (λ (key : Key). key.digest) (seen before) at.0 (seen-kept floor ledger before at.0 at.1))),
)

module _ (floor next : ℕ) (ledger : List Change) where
  kept-push : (before : List Change) (change : Change) → kept_in floor ledger (before ++ change ∷ []) ≡ kept_in floor ledger before ++ kept_in floor ledger (change ∷ [])
  kept-push before change = filter_map-append (kept_by floor ledger) before (change ∷ [])

  kept-follow : (before changes : List Change) → IsLedgerFrom before changes → ((id : ℕ) → Contains (numbers changes) id → id < next)
      → IsLedgerFrom (Floor floor next ∷ kept_in floor ledger before) (kept_in floor ledger changes)
  kept-follow before [] is below = tt
  kept-follow before (Open item ∷ changes) is below =
      let rest = kept-follow (before ++ Open item ∷ []) changes is.1 (λ id m. below id (Contains-tail item.id (numbers changes) id m)) in
      let may = kept-one floor ledger before item.id 0 next item.digest.0 is.0.0 is.0.1 (below item.id (Contains-head item.id (numbers changes))) in
      let more : IsLedgerFrom (Floor floor next ∷ (kept_in floor ledger before ++ kept_in floor ledger (Open item ∷ []))) (kept_in floor ledger changes) =
      subst (λ (behind : List Change). IsLedgerFrom (Floor floor next ∷ behind) (kept_in floor ledger changes)) (kept-push before (Open item)) rest in
      (elim (is_open ledger item) as (λ b. IsLedgerFrom (Floor floor next ∷ (kept_in floor ledger before ++ cons_option (cond b (Some (Open item)) (cond (nat_le floor item.stamp) (Some (Settled item.id item.stamp item.digest)) None)) []))
      (kept_in floor ledger changes)
      → IsLedgerFrom (Floor floor next ∷ kept_in floor ledger before) (cons_option (cond b (Some (Open item)) (cond (nat_le floor item.stamp) (Some (Settled item.id item.stamp item.digest)) None)) (kept_in floor ledger changes))) [
        | true ↦ λ h. (may, h)
        | false ↦ elim (nat_le floor item.stamp) as (λ c. IsLedgerFrom (Floor floor next ∷ (kept_in floor ledger before ++ cons_option (cond c (Some (Settled item.id item.stamp item.digest)) None) [])) (kept_in floor ledger changes)
            → IsLedgerFrom (Floor floor next ∷ kept_in floor ledger before) (cons_option (cond c (Some (Settled item.id item.stamp item.digest)) None) (kept_in floor ledger changes))) [
              | true ↦ λ h. (may, h)
              | false ↦ λ h. subst (λ (behind : List Change). IsLedgerFrom (Floor floor next ∷ behind) (kept_in floor ledger changes)) (append-nil (kept_in floor ledger before)) h
            ]
      ]) more
  kept-follow before (Done id ∷ changes) is below =
      subst (λ (behind : List Change). IsLedgerFrom (Floor floor next ∷ behind) (kept_in floor ledger changes)) (kept-push before (Done id) ∙ append-nil (kept_in floor ledger before))
      (kept-follow (before ++ Done id ∷ []) changes is.1 below)
  kept-follow before (Settled id stamp digest ∷ changes) is below =
      let rest = kept-follow (before ++ Settled id stamp digest ∷ []) changes is.1 (λ other m. below other (Contains-tail id (numbers changes) other m)) in
      let may = kept-one floor ledger before id 0 next digest.0 is.0.0 is.0.1 (below id (Contains-head id (numbers changes))) in
      let more : IsLedgerFrom (Floor floor next ∷ (kept_in floor ledger before ++ kept_in floor ledger (Settled id stamp digest ∷ []))) (kept_in floor ledger changes) =
      subst (λ (behind : List Change). IsLedgerFrom (Floor floor next ∷ behind) (kept_in floor ledger changes)) (kept-push before (Settled id stamp digest)) rest in
      (elim (nat_le floor stamp) as (λ c. IsLedgerFrom (Floor floor next ∷ (kept_in floor ledger before ++ cons_option (cond c (Some (Settled id stamp digest)) None) [])) (kept_in floor ledger changes)
      → IsLedgerFrom (Floor floor next ∷ kept_in floor ledger before) (cons_option (cond c (Some (Settled id stamp digest)) None) (kept_in floor ledger changes))) [
        | true ↦ λ h. (may, h)
        | false ↦ λ h. subst (λ (behind : List Change). IsLedgerFrom (Floor floor next ∷ behind) (kept_in floor ledger changes)) (append-nil (kept_in floor ledger before)) h
      ]) more
  kept-follow before (Floor lower first ∷ changes) is below =
      subst (λ (behind : List Change). IsLedgerFrom (Floor floor next ∷ behind) (kept_in floor ledger changes)) (kept-push before (Floor lower first) ∙ append-nil (kept_in floor ledger before))
      (kept-follow (before ++ Floor lower first ∷ []) changes is.1 below)

pub ledger-rise : (floor next : ℕ) (ledger : List Change) → next ≡ next_id ledger → IsLedger ledger → IsLedger (after_one ledger (Floor floor next))
ledger-rise floor next ledger e is = (refl, kept-follow floor next ledger [] ledger is (λ id m. let low = number-below 1 ledger id m in omega arith))
