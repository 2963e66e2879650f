use Rattle.std.proofs.Common.{ap}
use Rattle.std.proofs.lemmas.Result.{err_from_is_err_and}
use Rattle.std.specs.Prelude.{is_ok}
use Rattle.fk_journal.specs.Keeps.{IsOpening, LeavesOthers}
use Rattle.fk_ledger.proofs.OpeningLaws.{bare, error_of, same_error}
use Rattle.fk_ledger.proofs.EitherFormat.{other_is, apart_start, damaged_apart, told_kept, told_failed, told_opened, told_missed, told_none, told_both, told_entries, told_others, told_said, told_migrated, told_moved, told_all, told_whole, told_found, told_undamaged}
use Rattle.fk_ledger.proofs.ledger.Ledger.open.Goals as goal

pub returns-in-Ok-clause-moments : goal.returns-in-Ok-clause-moments
returns-in-Ok-clause-moments g c = λ ledger. told_opened ledger c.in-Ok.opened.0.changes (g.D.Disk.told c.args.disk.now) (g.D.Disk.told c.open_current.new.disk) (g.D.Disk.may_leave c.args.disk.now) (g.D.Disk.may_leave c.open_current.new.disk) c.in-Ok.ensures.held (c.in-Ok.ensures.moments ledger)

pub returns-in-Ok-clause-kept : goal.returns-in-Ok-clause-kept
returns-in-Ok-clause-kept g c = told_kept (g.D.Disk.told c.args.disk.now) (g.D.Disk.told c.open_current.new.disk) (g.D.Disk.may_leave c.args.disk.now) (g.D.Disk.may_leave c.open_current.new.disk) c.in-Ok.ensures.entries

pub returns-then-not-is_other_format-clause-damaged : goal.returns-then-not-is_other_format-clause-damaged
returns-then-not-is_other_format-clause-damaged g c = λ place is.
    damaged_apart place (g.D.Disk.told c.args.disk.now) (g.D.Disk.told c.open_current.new.disk) (apart_start c.in-Err.fault place (bare _ _ _ is) c.if-not-is_other_format.ensures) (c.in-Err.ensures.damaged place (same_error _ _ _ _ is))

pub returns-then-not-is_other_format-clause-moments : goal.returns-then-not-is_other_format-clause-moments
returns-then-not-is_other_format-clause-moments g c = λ ledger. told_failed ledger (g.D.Disk.told c.args.disk.now) (g.D.Disk.told c.open_current.new.disk) (g.D.Disk.may_leave c.args.disk.now) (g.D.Disk.may_leave c.open_current.new.disk) (told_kept (g.D.Disk.told c.args.disk.now) (g.D.Disk.told c.open_current.new.disk) (g.D.Disk.may_leave c.args.disk.now) (g.D.Disk.may_leave c.open_current.new.disk) c.in-Err.ensures.entries)

pub returns-then-not-is_other_format-clause-kept : goal.returns-then-not-is_other_format-clause-kept
returns-then-not-is_other_format-clause-kept g c = told_kept (g.D.Disk.told c.args.disk.now) (g.D.Disk.told c.open_current.new.disk) (g.D.Disk.may_leave c.args.disk.now) (g.D.Disk.may_leave c.open_current.new.disk) c.in-Err.ensures.entries

pub returns-in_err-migrate-clause-damaged : goal.returns-in_err-migrate-clause-damaged
returns-in_err-migrate-clause-damaged g c =
    let p = err_from_is_err_and c.from_residual.result c.from_residual.ensures.1 in
    let missed = told_missed (g.D.Disk.told c.args.disk.now) (g.D.Disk.told c.open_current.new.disk) (g.D.Disk.may_leave c.args.disk.now) (g.D.Disk.may_leave c.open_current.new.disk) c.in-Err.ensures.entries (c.in-Err.ensures.damaged 0 (ap (error_of _) (other_is c.in-Err.fault c.if-not-is_other_format.ensures))) (c.in-Err.ensures.settled 0 (ap (error_of _) (other_is c.in-Err.fault c.if-not-is_other_format.ensures))) in
    rw (p.1, p.2) (λ place is. told_none place (g.D.Disk.told c.args.disk.now) (g.D.Disk.told c.open_current.new.disk) (g.D.Disk.told c.migrate.new.disk) (g.D.Disk.may_leave c.args.disk.now) (g.D.Disk.may_leave c.open_current.new.disk) missed (c.in_err-migrate.ensures.damaged place (same_error _ _ _ _ is)))

pub returns-in_err-migrate-clause-moments : goal.returns-in_err-migrate-clause-moments
returns-in_err-migrate-clause-moments g c =
    let p = err_from_is_err_and c.from_residual.result c.from_residual.ensures.1 in
    let missed = told_missed (g.D.Disk.told c.args.disk.now) (g.D.Disk.told c.open_current.new.disk) (g.D.Disk.may_leave c.args.disk.now) (g.D.Disk.may_leave c.open_current.new.disk) c.in-Err.ensures.entries (c.in-Err.ensures.damaged 0 (ap (error_of _) (other_is c.in-Err.fault c.if-not-is_other_format.ensures))) (c.in-Err.ensures.settled 0 (ap (error_of _) (other_is c.in-Err.fault c.if-not-is_other_format.ensures))) in
    rw p.1 (λ ledger. told_failed ledger (g.D.Disk.told c.args.disk.now) (g.D.Disk.told c.migrate.new.disk) (g.D.Disk.may_leave c.args.disk.now) (g.D.Disk.may_leave c.migrate.new.disk) (told_both _ (g.D.Disk.told c.args.disk.now) (g.D.Disk.told c.open_current.new.disk) (g.D.Disk.told c.migrate.new.disk) (g.D.Disk.may_leave c.args.disk.now) (g.D.Disk.may_leave c.open_current.new.disk) (g.D.Disk.may_leave c.migrate.new.disk) missed c.in_err-migrate.ensures.moments))

pub returns-in_err-migrate-clause-kept : goal.returns-in_err-migrate-clause-kept
returns-in_err-migrate-clause-kept g c =
    let missed = told_missed (g.D.Disk.told c.args.disk.now) (g.D.Disk.told c.open_current.new.disk) (g.D.Disk.may_leave c.args.disk.now) (g.D.Disk.may_leave c.open_current.new.disk) c.in-Err.ensures.entries (c.in-Err.ensures.damaged 0 (ap (error_of _) (other_is c.in-Err.fault c.if-not-is_other_format.ensures))) (c.in-Err.ensures.settled 0 (ap (error_of _) (other_is c.in-Err.fault c.if-not-is_other_format.ensures))) in
    told_both _ (g.D.Disk.told c.args.disk.now) (g.D.Disk.told c.open_current.new.disk) (g.D.Disk.told c.migrate.new.disk) (g.D.Disk.may_leave c.args.disk.now) (g.D.Disk.may_leave c.open_current.new.disk) (g.D.Disk.may_leave c.migrate.new.disk) missed c.in_err-migrate.ensures.moments

pub returns-in_err-migrate-clause-entries : goal.returns-in_err-migrate-clause-entries
returns-in_err-migrate-clause-entries g c =
    let missed = told_missed (g.D.Disk.told c.args.disk.now) (g.D.Disk.told c.open_current.new.disk) (g.D.Disk.may_leave c.args.disk.now) (g.D.Disk.may_leave c.open_current.new.disk) c.in-Err.ensures.entries (c.in-Err.ensures.damaged 0 (ap (error_of _) (other_is c.in-Err.fault c.if-not-is_other_format.ensures))) (c.in-Err.ensures.settled 0 (ap (error_of _) (other_is c.in-Err.fault c.if-not-is_other_format.ensures))) in
    told_entries (g.D.Disk.told c.args.disk.now) (g.D.Disk.told c.open_current.new.disk) (g.D.Disk.told c.migrate.new.disk) (g.D.Disk.may_leave c.args.disk.now) (g.D.Disk.may_leave c.open_current.new.disk) (g.D.Disk.may_leave c.migrate.new.disk) missed c.in_err-migrate.ensures.areas

pub returns-in_err-migrate-clause-others : goal.returns-in_err-migrate-clause-others
returns-in_err-migrate-clause-others g c =
    let missed = told_missed (g.D.Disk.told c.args.disk.now) (g.D.Disk.told c.open_current.new.disk) (g.D.Disk.may_leave c.args.disk.now) (g.D.Disk.may_leave c.open_current.new.disk) c.in-Err.ensures.entries (c.in-Err.ensures.damaged 0 (ap (error_of _) (other_is c.in-Err.fault c.if-not-is_other_format.ensures))) (c.in-Err.ensures.settled 0 (ap (error_of _) (other_is c.in-Err.fault c.if-not-is_other_format.ensures))) in
    told_others (g.D.Disk.told c.args.disk.now) (g.D.Disk.told c.open_current.new.disk) (g.D.Disk.told c.migrate.new.disk) (g.D.Disk.may_leave c.args.disk.now) (g.D.Disk.may_leave c.open_current.new.disk) (g.D.Disk.may_leave c.migrate.new.disk) missed c.in-Err.ensures.others c.in_err-migrate.ensures.areas

pub returns-clause-held : goal.returns-clause-held
returns-clause-held g c =
    let missed = told_missed (g.D.Disk.told c.args.disk.now) (g.D.Disk.told c.open_current.new.disk) (g.D.Disk.may_leave c.args.disk.now) (g.D.Disk.may_leave c.open_current.new.disk) c.in-Err.ensures.entries (c.in-Err.ensures.damaged 0 (ap (error_of _) (other_is c.in-Err.fault c.if-not-is_other_format.ensures))) (c.in-Err.ensures.settled 0 (ap (error_of _) (other_is c.in-Err.fault c.if-not-is_other_format.ensures))) in
    let move = told_moved (g.D.Disk.told c.args.disk.now) (g.D.Disk.told c.open_current.new.disk) (g.D.Disk.told c.migrate.new.disk) (g.D.Disk.may_leave c.args.disk.now) (g.D.Disk.may_leave c.open_current.new.disk) (g.D.Disk.may_leave c.migrate.new.disk) missed c.in_ok-migrate.ensures.moments in
    told_found c.open_current-2.result (λ r. r.0.changes) (g.D.Disk.told c.args.disk.now) (g.D.Disk.told c.migrate.new.disk) (g.D.Disk.told c.open_current-2.new.disk) (g.D.Disk.may_leave c.args.disk.now) (g.D.Disk.may_leave c.migrate.new.disk) move c.open_current-2.ensures.held

pub returns-clause-damaged : goal.returns-clause-damaged
returns-clause-damaged g c = λ place is.
    let missed = told_missed (g.D.Disk.told c.args.disk.now) (g.D.Disk.told c.open_current.new.disk) (g.D.Disk.may_leave c.args.disk.now) (g.D.Disk.may_leave c.open_current.new.disk) c.in-Err.ensures.entries (c.in-Err.ensures.damaged 0 (ap (error_of _) (other_is c.in-Err.fault c.if-not-is_other_format.ensures))) (c.in-Err.ensures.settled 0 (ap (error_of _) (other_is c.in-Err.fault c.if-not-is_other_format.ensures))) in
    let move = told_moved (g.D.Disk.told c.args.disk.now) (g.D.Disk.told c.open_current.new.disk) (g.D.Disk.told c.migrate.new.disk) (g.D.Disk.may_leave c.args.disk.now) (g.D.Disk.may_leave c.open_current.new.disk) (g.D.Disk.may_leave c.migrate.new.disk) missed c.in_ok-migrate.ensures.moments in
    told_undamaged place (g.D.Disk.told c.args.disk.now) (g.D.Disk.told c.migrate.new.disk) (g.D.Disk.told c.open_current-2.new.disk) (g.D.Disk.may_leave c.args.disk.now) (g.D.Disk.may_leave c.migrate.new.disk) move (c.open_current-2.ensures.damaged place is)

pub returns-clause-moments : goal.returns-clause-moments
returns-clause-moments g c = λ ledger.
    let missed = told_missed (g.D.Disk.told c.args.disk.now) (g.D.Disk.told c.open_current.new.disk) (g.D.Disk.may_leave c.args.disk.now) (g.D.Disk.may_leave c.open_current.new.disk) c.in-Err.ensures.entries (c.in-Err.ensures.damaged 0 (ap (error_of _) (other_is c.in-Err.fault c.if-not-is_other_format.ensures))) (c.in-Err.ensures.settled 0 (ap (error_of _) (other_is c.in-Err.fault c.if-not-is_other_format.ensures))) in
    let move = told_moved (g.D.Disk.told c.args.disk.now) (g.D.Disk.told c.open_current.new.disk) (g.D.Disk.told c.migrate.new.disk) (g.D.Disk.may_leave c.args.disk.now) (g.D.Disk.may_leave c.open_current.new.disk) (g.D.Disk.may_leave c.migrate.new.disk) missed c.in_ok-migrate.ensures.moments in
    told_whole ledger (is_ok c.open_current-2.result) (g.D.Disk.told c.args.disk.now) (g.D.Disk.told c.migrate.new.disk) (g.D.Disk.told c.open_current-2.new.disk) (g.D.Disk.may_leave c.args.disk.now) (g.D.Disk.may_leave c.migrate.new.disk) (g.D.Disk.may_leave c.open_current-2.new.disk) move c.open_current-2.ensures.entries (c.open_current-2.ensures.moments ledger)

pub returns-clause-kept : goal.returns-clause-kept
returns-clause-kept g c =
    let missed = told_missed (g.D.Disk.told c.args.disk.now) (g.D.Disk.told c.open_current.new.disk) (g.D.Disk.may_leave c.args.disk.now) (g.D.Disk.may_leave c.open_current.new.disk) c.in-Err.ensures.entries (c.in-Err.ensures.damaged 0 (ap (error_of _) (other_is c.in-Err.fault c.if-not-is_other_format.ensures))) (c.in-Err.ensures.settled 0 (ap (error_of _) (other_is c.in-Err.fault c.if-not-is_other_format.ensures))) in
    let move = told_moved (g.D.Disk.told c.args.disk.now) (g.D.Disk.told c.open_current.new.disk) (g.D.Disk.told c.migrate.new.disk) (g.D.Disk.may_leave c.args.disk.now) (g.D.Disk.may_leave c.open_current.new.disk) (g.D.Disk.may_leave c.migrate.new.disk) missed c.in_ok-migrate.ensures.moments in
    told_all (g.D.Disk.told c.args.disk.now) (g.D.Disk.told c.migrate.new.disk) (g.D.Disk.told c.open_current-2.new.disk) (g.D.Disk.may_leave c.args.disk.now) (g.D.Disk.may_leave c.migrate.new.disk) (g.D.Disk.may_leave c.open_current-2.new.disk) move c.open_current-2.ensures.entries

pub returns-clause-entries : goal.returns-clause-entries
returns-clause-entries g c =
    let missed = told_missed (g.D.Disk.told c.args.disk.now) (g.D.Disk.told c.open_current.new.disk) (g.D.Disk.may_leave c.args.disk.now) (g.D.Disk.may_leave c.open_current.new.disk) c.in-Err.ensures.entries (c.in-Err.ensures.damaged 0 (ap (error_of _) (other_is c.in-Err.fault c.if-not-is_other_format.ensures))) (c.in-Err.ensures.settled 0 (ap (error_of _) (other_is c.in-Err.fault c.if-not-is_other_format.ensures))) in
    let move = told_moved (g.D.Disk.told c.args.disk.now) (g.D.Disk.told c.open_current.new.disk) (g.D.Disk.told c.migrate.new.disk) (g.D.Disk.may_leave c.args.disk.now) (g.D.Disk.may_leave c.open_current.new.disk) (g.D.Disk.may_leave c.migrate.new.disk) missed c.in_ok-migrate.ensures.moments in
    told_migrated (g.D.Disk.told c.args.disk.now) (g.D.Disk.told c.migrate.new.disk) (g.D.Disk.told c.open_current-2.new.disk) (g.D.Disk.may_leave c.args.disk.now) (g.D.Disk.may_leave c.migrate.new.disk) (IsOpening (g.D.Disk.may_leave c.migrate.new.disk) (g.D.Disk.may_leave c.open_current-2.new.disk)) (IsOpening (g.D.Disk.may_leave c.args.disk.now) (g.D.Disk.may_leave c.open_current-2.new.disk)) move c.open_current-2.ensures.entries

pub returns-clause-others : goal.returns-clause-others
returns-clause-others g c =
    let missed = told_missed (g.D.Disk.told c.args.disk.now) (g.D.Disk.told c.open_current.new.disk) (g.D.Disk.may_leave c.args.disk.now) (g.D.Disk.may_leave c.open_current.new.disk) c.in-Err.ensures.entries (c.in-Err.ensures.damaged 0 (ap (error_of _) (other_is c.in-Err.fault c.if-not-is_other_format.ensures))) (c.in-Err.ensures.settled 0 (ap (error_of _) (other_is c.in-Err.fault c.if-not-is_other_format.ensures))) in
    let move = told_moved (g.D.Disk.told c.args.disk.now) (g.D.Disk.told c.open_current.new.disk) (g.D.Disk.told c.migrate.new.disk) (g.D.Disk.may_leave c.args.disk.now) (g.D.Disk.may_leave c.open_current.new.disk) (g.D.Disk.may_leave c.migrate.new.disk) missed c.in_ok-migrate.ensures.moments in
    told_migrated (g.D.Disk.told c.args.disk.now) (g.D.Disk.told c.migrate.new.disk) (g.D.Disk.told c.open_current-2.new.disk) (g.D.Disk.may_leave c.args.disk.now) (g.D.Disk.may_leave c.migrate.new.disk) (IsOpening (g.D.Disk.may_leave c.migrate.new.disk) (g.D.Disk.may_leave c.open_current-2.new.disk)) (LeavesOthers (g.D.Disk.may_leave c.args.disk.now) (g.D.Disk.may_leave c.open_current-2.new.disk)) move c.open_current-2.ensures.entries

pub returns-in-Ok-clause-entries : goal.returns-in-Ok-clause-entries
returns-in-Ok-clause-entries g c = told_said (g.D.Disk.told c.args.disk.now) (g.D.Disk.told c.open_current.new.disk) (IsOpening (g.D.Disk.may_leave c.args.disk.now) (g.D.Disk.may_leave c.open_current.new.disk)) c.in-Ok.ensures.entries

pub returns-then-not-is_other_format-clause-entries : goal.returns-then-not-is_other_format-clause-entries
returns-then-not-is_other_format-clause-entries g c = told_said (g.D.Disk.told c.args.disk.now) (g.D.Disk.told c.open_current.new.disk) (IsOpening (g.D.Disk.may_leave c.args.disk.now) (g.D.Disk.may_leave c.open_current.new.disk)) c.in-Err.ensures.entries
