use Rattle.std.proofs.Common.{ap}
use Rattle.fk_ledger.proofs.OpeningLaws.{bare, error_of}
use Rattle.fk_ledger.proofs.EitherFormat.{other_is, apart_start, damaged_apart, seen_none}
use Rattle.fk_ledger.proofs.ledger.Ledger.view.Goals as goal

pub returns-then-not-is_other_format-clause-damaged : goal.returns-then-not-is_other_format-clause-damaged
returns-then-not-is_other_format-clause-damaged g c = λ place is.
    damaged_apart place (g.D.Disk.told c.args.disk.now) (g.D.Disk.told c.view_current.new.disk) (apart_start c.in-Err.fault place (bare _ _ _ is) c.if-not-is_other_format.ensures) (c.in-Err.ensures.damaged place is)

pub returns-clause-damaged : goal.returns-clause-damaged
returns-clause-damaged g c = λ place is.
    seen_none place (g.D.Disk.told c.args.disk.now) (g.D.Disk.told c.view_current.new.disk) (g.D.Disk.told c.view_older.new.disk) (g.D.Disk.may_leave c.args.disk.now) (g.D.Disk.may_leave c.view_current.new.disk) c.in-Err.ensures.areas (c.in-Err.ensures.damaged 0 (ap (error_of _) (other_is c.in-Err.fault c.if-not-is_other_format.ensures))) (c.view_older.ensures.damaged place is)
