use Rattle.std.proofs.Common.{true}
use Rattle.fk_host.proofs.Counts.{HasCauseBy-after}
use Rattle.fk_journal.proofs.Told.{leaves_host_then}
use Rattle.std.proofs.Common.{length}
use Rattle.std.proofs.lemmas.Result.{err_from_is_err_and}
use Rattle.fk_journal.proofs.Forms.{on_ok_of, sync_either, put_moments, put_write, put_ok}
use Rattle.fk_journal.proofs.area.put.Goals as goal

pub returns-in_err-write_at-clause-moments : goal.returns-in_err-write_at-clause-moments
returns-in_err-write_at-clause-moments g c =
    put_write c.args.area (g.D.Disk.told c.args.disk.now) (g.D.Disk.told c.write_at.new.self) (g.D.Disk.may_leave c.args.disk.now) (g.D.Disk.may_leave c.write_at.new.self) c.args.at (length c.args.bytes.now) c.in_err-write_at.ensures.err

pub returns-clause-moments : goal.returns-clause-moments
returns-clause-moments g c =
    put_moments c.args.area (g.D.Disk.told c.args.disk.now) (g.D.Disk.told c.write_at.new.self) (g.D.Disk.told c.sync.new.self) (g.D.Disk.may_leave c.args.disk.now) (g.D.Disk.may_leave c.write_at.new.self) (g.D.Disk.may_leave c.sync.new.self) c.args.at c.args.bytes.now
    c.in_ok-write_at.ensures.ok
    (sync_either c.args.area c.sync.result (g.D.Disk.told c.write_at.new.self) (g.D.Disk.told c.sync.new.self) (g.D.Disk.may_leave c.write_at.new.self) (g.D.Disk.may_leave c.sync.new.self) c.sync.ensures.ok c.sync.ensures.err)

pub returns-clause-ok : goal.returns-clause-ok
returns-clause-ok g c =
    put_ok c.args.area c.sync.result (g.D.Disk.told c.args.disk.now) (g.D.Disk.told c.write_at.new.self) (g.D.Disk.told c.sync.new.self) (g.D.Disk.may_leave c.args.disk.now) (g.D.Disk.may_leave c.write_at.new.self) (g.D.Disk.may_leave c.sync.new.self) c.args.at c.args.bytes.now
    c.in_ok-write_at.ensures.ok c.sync.ensures.ok

pub returns-in_err-write_at-clause-cause : goal.returns-in_err-write_at-clause-cause
returns-in_err-write_at-clause-cause g c =
    let p = err_from_is_err_and c.from_residual.result c.from_residual.ensures.1 in rw p.1 (c.in_err-write_at.ensures.cause)

pub returns-in_err-write_at-clause-within : goal.returns-in_err-write_at-clause-within
returns-in_err-write_at-clause-within g c =
    let p = err_from_is_err_and c.from_residual.result c.from_residual.ensures.1 in rw p.1 (tt)

pub returns-in_err-write_at-clause-ok : goal.returns-in_err-write_at-clause-ok
returns-in_err-write_at-clause-ok g c =
    let p = err_from_is_err_and c.from_residual.result c.from_residual.ensures.1 in rw p.1 (tt)

pub returns-clause-within : goal.returns-clause-within
returns-clause-within g c =
    on_ok_of c.sync.result _ c.in_ok-write_at.ensures.within

pub returns-clause-host : goal.returns-clause-host
returns-clause-host g c =
    leaves_host_then g.D.Disk.told g.D.Disk.above c.args.disk.now c.write_at.new.self c.sync.new.self c.write_at.ensures.host c.sync.ensures.host

pub returns-clause-cause : goal.returns-clause-cause
returns-clause-cause g c =
    HasCauseBy-after (λ _. true) (g.D.Disk.faults c.args.disk.now) (g.D.Disk.faults c.write_at.new.self) (g.D.Disk.faults c.sync.new.self) c.sync.result c.in_ok-write_at.ensures.cause c.sync.ensures.cause
