use Rattle.std.proofs.Common.{List, sym, subst}
use Rattle.std.proofs.lemmas.Result.{err_from_is_err_and}
use Rattle.fk_host.specs.Disk.{IfTold}
use Rattle.fk_journal.specs.Entries.{contents_of, HoldsEntries}
use Rattle.fk_journal.specs.Keeps.{selected}
use Rattle.fk_journal.specs.declared.entry.Entry.{Entry}
use Rattle.fk_ledger.proofs.OlderLaws.{current_shown}
use Rattle.fk_ledger.proofs.OpeningLaws.{same_error, area_damaged, entry_damaged}
use Rattle.fk_ledger.proofs.ledger.view_current.Goals as goal

pub returns-in_err-entries-clause-damaged : goal.returns-in_err-entries-clause-damaged
returns-in_err-entries-clause-damaged g c =
    let p = err_from_is_err_and c.from_residual.result c.from_residual.ensures.1 in
    rw (p.1, p.2) (λ place is. area_damaged place (g.D.Disk.told c.args.disk.now) (g.D.Disk.told c.read.new.disk) (c.in_err-entries.ensures.damaged place (same_error _ _ _ _ is)))

pub returns-clause-damaged : goal.returns-clause-damaged
returns-clause-damaged g c = λ place is.
    entry_damaged (contents_of c.deref.result.now) place (g.D.Disk.told c.args.disk.now) (g.D.Disk.told c.read.new.disk) (c.changes_of.ensures.damaged place is)
    (subst (λ (es : List Entry). IfTold (g.D.Disk.told c.args.disk.now) (g.D.Disk.told c.read.new.disk) (λ x y. HoldsEntries (selected x.areas) (contents_of es))) (sym c.deref.ensures.value) c.in_ok-entries.ensures.held)

pub returns-clause-held : goal.returns-clause-held
returns-clause-held g c =
    current_shown c.changes_of.result (contents_of c.deref.result.now) (g.D.Disk.told c.args.disk.now) (g.D.Disk.told c.read.new.disk) c.changes_of.ensures.held
    (subst (λ (es : List Entry). IfTold (g.D.Disk.told c.args.disk.now) (g.D.Disk.told c.read.new.disk) (λ x y. HoldsEntries (selected x.areas) (contents_of es))) (sym c.deref.ensures.value) c.in_ok-entries.ensures.held)
