use Rattle.std.proofs.Common.{◌≡◌, ℕ, List, Err, Vec, Global, ap, subst}
use Rattle.std.proofs.lemmas.Result.{err_from_is_err_and}
use Rattle.fk_trace.specs.declared.change.Change.{Change}
use Rattle.fk_trace.specs.Ledger.{MayFollow}
use Rattle.fk_ledger.specs.declared.outline.Outline.{Outline}
use Rattle.fk_journal.specs.Entries.{content_of_entry}
use Rattle.fk_ledger.specs.Holds.{IsBroken}
use Rattle.fk_ledger.specs.Private.{said_in}
use Rattle.fk_ledger.proofs.EntryLists.{ledger_step, ledger_break}
use Rattle.fk_ledger.proofs.RoomLaws.{counted_push}
use Rattle.std.specs.Prelude.{Result}
use Rattle.fk_journal.specs.declared.fault.JournalErr.{JournalErr}
use Rattle.fk_journal.specs.declared.fault.JournalErr.TheVariants.{Damaged}
use Rattle.fk_ledger.proofs.changes.outlined_changes_of.Goals as goal

-- an error is the same beside any value
abbrev error_of : (T : Type 0) → JournalErr → Result T JournalErr
error_of T e = Err e

bare : (d e : JournalErr) → error_of (Vec Change Global × Outline) d ≡ error_of (Vec Change Global × Outline) e → d ≡ e
bare d e same = cc

same_error : (e : JournalErr) (place : ℕ) → error_of (Vec Change Global × Outline) e ≡ error_of (Vec Change Global × Outline) (Damaged place) → error_of Change e ≡ error_of Change (Damaged place)
same_error e place same = ap (error_of Change) (bare e (Damaged place) same)

pub returns-in_err-change-clause-damaged : goal.returns-in_err-change-clause-damaged
returns-in_err-change-clause-damaged c =
    let p = err_from_is_err_and c.from_residual.result c.from_residual.ensures.1 in
    rw (p.1, p.2) (λ place is.
    let broken = c.in_err-change.ensures.damaged place (same_error c.in_err-change.field-0.0 place is) in
    ledger_break (said_in c.args.format) c.args.entries.now c.loop-entry.entry-index c.entry-item.result c.loop-entry.changes.items place c.requires c.loop-entry-test.true c.entry-item.is c.loop-entry.invariant.0
    (broken.0, subst (λ (ledger : List Change). IsBroken ledger (said_in c.args.format (content_of_entry c.entry-item.result))) c.deref.ensures.value broken.1))

pub loop-entry-preserved : goal.loop-entry-preserved
loop-entry-preserved c =
    let found = c.in_ok-change.ensures.found in
    let may : MayFollow c.loop-entry.changes.items c.in_ok-change.change = subst (λ (ledger : List Change). MayFollow ledger c.in_ok-change.change) c.deref.ensures.value found.2 in
    rw c.in_ok-push.ensures.items (
      ledger_step (said_in c.args.format) c.args.entries.now c.loop-entry.entry-index c.entry-item.result c.loop-entry.changes.items c.in_ok-change.change c.loop-entry-test.true c.entry-item.is c.loop-entry.invariant.0 found.0 found.1 may,
      counted_push c.loop-entry.changes.items c.in_ok-change.change c.loop-entry.invariant.1 found.0 may,
      c.in_ok-note.ensures c.loop-entry.changes.items c.loop-entry.invariant.2,
    )
