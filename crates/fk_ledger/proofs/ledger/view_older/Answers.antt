use Rattle.std.proofs.Common.{List, sym, subst}
use Rattle.std.proofs.lemmas.Result.{err_from_is_err_and}
use Rattle.fk_host.specs.Disk.{IfTold}
use Rattle.fk_journal.specs.Entries.{contents_of}
use Rattle.fk_journal.specs.Keeps.{selected}
use Rattle.fk_journal.specs.Older.{HoldsOlderEntries}
use Rattle.fk_journal.specs.declared.entry.Entry.{Entry}
use Rattle.fk_ledger.proofs.OpeningLaws.{same_error}
use Rattle.fk_ledger.proofs.OlderLaws.{older_shown, none_older, older_breaks, broken_older}
use Rattle.fk_ledger.proofs.ledger.view_older.Goals as goal

pub returns-in_err-entries-clause-damaged : goal.returns-in_err-entries-clause-damaged
returns-in_err-entries-clause-damaged g c =
    let p = err_from_is_err_and c.from_residual.result c.from_residual.ensures.1 in
    rw (p.1, p.2) (λ place is. none_older place (g.D.Disk.told c.args.disk.now) (g.D.Disk.told c.read_older.new.disk) (c.in_err-entries.ensures.damaged place (same_error _ _ _ _ is)))

pub returns-clause-held : goal.returns-clause-held
returns-clause-held g c =
    older_shown c.changes_of.result (contents_of c.deref.result.now) (g.D.Disk.told c.args.disk.now) (g.D.Disk.told c.read_older.new.disk) c.changes_of.ensures.held
    (subst (λ (es : List Entry). IfTold (g.D.Disk.told c.args.disk.now) (g.D.Disk.told c.read_older.new.disk) (λ x y. HoldsOlderEntries (selected x.areas) (contents_of es))) (sym c.deref.ensures.value) c.in_ok-entries.ensures.held)

pub returns-clause-damaged : goal.returns-clause-damaged
returns-clause-damaged g c = λ place is.
    broken_older (contents_of c.deref.result.now) place (g.D.Disk.told c.args.disk.now) (g.D.Disk.told c.read_older.new.disk) (older_breaks _ place (c.changes_of.ensures.damaged place is))
    (subst (λ (es : List Entry). IfTold (g.D.Disk.told c.args.disk.now) (g.D.Disk.told c.read_older.new.disk) (λ x y. HoldsOlderEntries (selected x.areas) (contents_of es))) (sym c.deref.ensures.value) c.in_ok-entries.ensures.held)
