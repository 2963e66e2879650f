use Rattle.std.proofs.Common.{List, sym, subst}
use Rattle.std.proofs.lemmas.Result.{err_from_is_err_and}
use Rattle.fk_host.specs.Disk.{IfTold, LeavesAreas}
use Rattle.fk_journal.specs.Entries.{contents_of}
use Rattle.fk_journal.specs.Keeps.{selected}
use Rattle.fk_journal.specs.Older.{HoldsOlderEntries, Replaces}
use Rattle.fk_journal.specs.declared.entry.Entry.{Entry}
use Rattle.fk_ledger.specs.Private.{MigratesTo}
use Rattle.fk_ledger.proofs.OpeningLaws.{same_error}
use Rattle.fk_ledger.proofs.OlderLaws.{none_older}
use Rattle.fk_ledger.proofs.MigrationLaws.{told_read, told_migrates_ok, told_migrates_err, older_leaves}
use Rattle.fk_ledger.proofs.migration.migrate.Goals as goal

pub returns-in_err-entries-clause-damaged : goal.returns-in_err-entries-clause-damaged
returns-in_err-entries-clause-damaged g c =
    let p = err_from_is_err_and c.from_residual.result c.from_residual.ensures.1 in
    rw (p.1, p.2) (λ place is. none_older place (g.D.Disk.told c.args.disk.now) (g.D.Disk.told c.read_older.new.disk) (c.in_err-entries.ensures.damaged place (same_error _ _ _ _ is)))

pub returns-in_err-entries-clause-moments : goal.returns-in_err-entries-clause-moments
returns-in_err-entries-clause-moments g c =
    let p = err_from_is_err_and c.from_residual.result c.from_residual.ensures.1 in
    rw p.1 (told_read (g.D.Disk.told c.args.disk.now) (g.D.Disk.told c.read_older.new.disk) (g.D.Disk.may_leave c.args.disk.now) (g.D.Disk.may_leave c.read_older.new.disk) c.requires c.read_older.ensures.areas)

pub returns-in_err-bytes-clause-moments : goal.returns-in_err-bytes-clause-moments
returns-in_err-bytes-clause-moments g c =
    let p = err_from_is_err_and c.from_residual-in_err-bytes.result c.from_residual-in_err-bytes.ensures.1 in
    rw p.1 (told_read (g.D.Disk.told c.args.disk.now) (g.D.Disk.told c.read_older.new.disk) (g.D.Disk.may_leave c.args.disk.now) (g.D.Disk.may_leave c.read_older.new.disk) c.requires c.read_older.ensures.areas)

pub returns-in_err-replace-clause-moments : goal.returns-in_err-replace-clause-moments
returns-in_err-replace-clause-moments g c =
    let p = err_from_is_err_and c.from_residual-in_err-replace.result c.from_residual-in_err-replace.ensures.1 in
    let to = subst (λ (es : List Entry). MigratesTo (contents_of es) c.deref-2.result.now) (sym c.deref.ensures.value) (subst (MigratesTo (contents_of c.in_ok-entries.entries.items)) (sym c.deref-2.ensures.value) (subst (λ (es : List Entry). MigratesTo (contents_of es) c.in_ok-bytes.bytes.items) c.deref.ensures.value c.in_ok-bytes.ensures.held)) in
    rw p.1 (told_migrates_err (contents_of c.deref.result.now) c.deref-2.result.now to
    (g.D.Disk.told c.args.disk.now) (g.D.Disk.told c.read_older.new.disk) (g.D.Disk.told c.replace.new.disk) (g.D.Disk.may_leave c.args.disk.now) (g.D.Disk.may_leave c.read_older.new.disk) (g.D.Disk.may_leave c.replace.new.disk) c.requires
    (subst (λ (es : List Entry). IfTold (g.D.Disk.told c.args.disk.now) (g.D.Disk.told c.read_older.new.disk) (λ x y. HoldsOlderEntries (selected x.areas) (contents_of es))) (sym c.deref.ensures.value) c.in_ok-entries.ensures.held)
    c.read_older.ensures.areas c.replace.ensures.moments)

pub returns-clause-moments : goal.returns-clause-moments
returns-clause-moments g c =
    let to = subst (λ (es : List Entry). MigratesTo (contents_of es) c.deref-2.result.now) (sym c.deref.ensures.value) (subst (MigratesTo (contents_of c.in_ok-entries.entries.items)) (sym c.deref-2.ensures.value) (subst (λ (es : List Entry). MigratesTo (contents_of es) c.in_ok-bytes.bytes.items) c.deref.ensures.value c.in_ok-bytes.ensures.held)) in
    told_migrates_ok (contents_of c.deref.result.now) c.deref-2.result.now to
    (g.D.Disk.told c.args.disk.now) (g.D.Disk.told c.read_older.new.disk) (g.D.Disk.told c.replace.new.disk) (g.D.Disk.may_leave c.args.disk.now) (g.D.Disk.may_leave c.read_older.new.disk) (g.D.Disk.may_leave c.replace.new.disk) c.requires
    (subst (λ (es : List Entry). IfTold (g.D.Disk.told c.args.disk.now) (g.D.Disk.told c.read_older.new.disk) (λ x y. HoldsOlderEntries (selected x.areas) (contents_of es))) (sym c.deref.ensures.value) c.in_ok-entries.ensures.held)
    c.read_older.ensures.areas c.replace.ensures.moments c.in_ok-replace.ensures.ok

pub returns-clause-areas : goal.returns-clause-areas
returns-clause-areas g c =
    older_leaves (contents_of c.in_ok-entries.entries.items) (g.D.Disk.told c.args.disk.now) (g.D.Disk.told c.read_older.new.disk) (g.D.Disk.told c.replace.new.disk)
    (Replaces c.deref-2.result.now (g.D.Disk.may_leave c.read_older.new.disk) (g.D.Disk.may_leave c.replace.new.disk)) (LeavesAreas (g.D.Disk.may_leave c.args.disk.now) (g.D.Disk.may_leave c.replace.new.disk)) c.in_ok-entries.ensures.held c.replace.ensures.moments
