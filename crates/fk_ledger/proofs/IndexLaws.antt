-- What an index holds once a change stands behind the others.
use Rattle.std.proofs.Common.{◌≡◌, ℕ, nat_eq, Bool, true, false, ◌||◌, List, [], ◌∷◌, ◌++◌, refl, ap, sym, ◌∙◌}
use Rattle.std.specs.List.{list_any}
use Rattle.std.specs.Cmp.Lexicographic.{pointwise}
use Rattle.std.specs.HashSet.{HashSet}
use Rattle.std.proofs.lemmas.List.Folds.{list_any-append}
use Rattle.fk_base.specs.declared.digest.Digest.{Digest}
use Rattle.fk_trace.specs.declared.change.OpenRecord.{OpenRecord}
use Rattle.fk_trace.specs.declared.change.Change.{Change}
use Rattle.fk_trace.specs.declared.change.Change.TheVariants.{Open, Done, Settled, Floor}
use Rattle.fk_trace.specs.Ledger.{Key, seen, is_seen}
use Rattle.fk_trace.proofs.Ledgers.{seen-append}
use Rattle.fk_ledger.specs.Index.{holds, Indexes}

either : (a b : Bool) → (a || b) ≡ (b || (a || false))
either true true = refl
either true false = refl
either false true = refl
either false false = refl

or_none : (b : Bool) → b ≡ (b || false)
or_none true = refl
or_none false = refl

seen_behind : (digest : List ℕ) (ledger : List Change) (change : Change) → is_seen digest (ledger ++ change ∷ []) ≡ (is_seen digest ledger || is_seen digest (change ∷ []))
seen_behind digest ledger change =
    ap (list_any (λ (key : Key). pointwise nat_eq key.digest digest)) (seen-append ledger (change ∷ []))
    ∙ list_any-append (λ (key : Key). pointwise nat_eq key.digest digest) (seen ledger) (seen (change ∷ []))

module _ {S : Type 0} (old new : HashSet (List ℕ) S) (ledger : List Change) (before : Indexes old ledger) where
  pub indexed_open : (item : OpenRecord) → ((other : List ℕ) → holds other new ≡ (pointwise nat_eq item.digest.0 other || holds other old)) → Indexes new (ledger ++ Open item ∷ [])
  indexed_open item held = λ digest.
      held digest ∙ ap (λ b. pointwise nat_eq item.digest.0 digest || b) (before digest)
      ∙ either (pointwise nat_eq item.digest.0 digest) (is_seen digest ledger) ∙ sym (seen_behind digest ledger (Open item))

  pub indexed_settled : (id stamp : ℕ) (of : Digest) → ((other : List ℕ) → holds other new ≡ (pointwise nat_eq of.0 other || holds other old)) → Indexes new (ledger ++ Settled id stamp of ∷ [])
  indexed_settled id stamp of held = λ digest.
      held digest ∙ ap (λ b. pointwise nat_eq of.0 digest || b) (before digest)
      ∙ either (pointwise nat_eq of.0 digest) (is_seen digest ledger) ∙ sym (seen_behind digest ledger (Settled id stamp of))

  pub indexed_done : (id : ℕ) → Indexes old (ledger ++ Done id ∷ [])
  indexed_done id = λ digest. before digest ∙ or_none (is_seen digest ledger) ∙ sym (seen_behind digest ledger (Done id))

  pub indexed_floor : (floor next : ℕ) → Indexes old (ledger ++ Floor floor next ∷ [])
  indexed_floor floor next = λ digest. before digest ∙ or_none (is_seen digest ledger) ∙ sym (seen_behind digest ledger (Floor floor next))
