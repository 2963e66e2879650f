use Rattle.std.proofs.Common.{◌≡◌, ℕ, List, Err, false, true, ap, sym, ◌∙◌}
use Rattle.std.specs.Prelude.{Result}
use Rattle.fk_trace.specs.declared.change.Change.{Change}
use Rattle.fk_journal.specs.Entries.{Content}
use Rattle.fk_journal.specs.declared.fault.JournalErr.{JournalErr}
use Rattle.fk_journal.specs.declared.fault.JournalErr.TheVariants.{Damaged}
use Rattle.fk_ledger.specs.Private.{said_in}
use Rattle.fk_ledger.proofs.EntryLists.{other_broken}
use Rattle.fk_ledger.proofs.changes.next_change.Goals as goal

abbrev damaged_at : ℕ → Result Change JournalErr
damaged_at place = Err (Damaged place)

where_is : (a b : ℕ) → damaged_at a ≡ damaged_at b → b ≡ a
where_is a b same = cc

abbrev content : ℕ → List ℕ → Content
content kind payload = record { kind = kind; payload = payload }

pub returns-else-may_follow-clause-damaged : goal.returns-else-may_follow-clause-damaged
returns-else-may_follow-clause-damaged c = λ place is.
    let entry = c.args.entry.now in (
      where_is entry.place place is,
      other_broken c.args.changes.now (said_in c.args.format (content entry.kind entry.payload)) c.in-Ok.change c.in-Ok.ensures.found.0 (ap (λ (payload : List ℕ). said_in c.args.format (content entry.kind payload)) (sym c.as_slice.ensures) ∙ c.in-Ok.ensures.found.1)
          (λ may. absurd (let n : false ≡ true = sym c.if-may_follow.false ∙ c.may_follow.ensures.1 may in cc)),
    )
