use Rattle.std.proofs.lemmas.Result.{err_from_is_err_and}
use Rattle.fk_journal.specs.Entries.{contents_of}
use Rattle.fk_journal.proofs.Forms.{held_stands, held_both}
use Rattle.fk_journal.proofs.journal.Journal.open.Goals as goal

pub returns-in_err-found-clause-cause : goal.returns-in_err-found-clause-cause
returns-in_err-found-clause-cause g c =
    let p = err_from_is_err_and c.from_residual.result c.from_residual.ensures.1 in rw (p.1, p.2) c.in_err-found.ensures.cause

pub returns-in_err-reserve-clause-cause : goal.returns-in_err-reserve-clause-cause
returns-in_err-reserve-clause-cause g c =
    let p = err_from_is_err_and c.from_residual-in_err-reserve.result c.from_residual-in_err-reserve.ensures.1 in rw (p.1, p.2) c.in_ok-found.ensures.cause

pub returns-clause-keeps : goal.returns-clause-keeps
returns-clause-keeps g c =
    record {
      behind = c.in_ok-found.ensures.end;
      stands = held_stands c.in_ok-found.found.area (contents_of c.in_ok-found.found.entries.items) (g.D.Disk.told c.open_area.new.disk) (g.D.Disk.may_leave c.open_area.new.disk) c.in_ok-found.ensures.held;
      held = held_both c.in_ok-found.found.area (contents_of c.in_ok-found.found.entries.items) (g.D.Disk.told c.open_area.new.disk) (g.D.Disk.may_leave c.open_area.new.disk) c.in_ok-found.ensures.held;
    }
