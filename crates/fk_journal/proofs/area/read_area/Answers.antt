use Rattle.std.proofs.lemmas.Result.{err_from_is_err_and}
use Rattle.fk_host.specs.Count.{counted}
use Rattle.fk_journal.proofs.Told.{leaves_host_then}
use Rattle.std.proofs.Common.{ap, ◌∙◌}
use Rattle.fk_journal.proofs.Openings.{left_once, left_twice}
use Rattle.fk_journal.proofs.area.read_area.Goals as goal

pub returns-in_err-len-clause-areas : goal.returns-in_err-len-clause-areas
returns-in_err-len-clause-areas g c =
    left_once (g.D.Disk.told c.args.disk.now) (g.D.Disk.told c.len.new.self) (g.D.Disk.may_leave c.args.disk.now) (g.D.Disk.may_leave c.len.new.self) c.len.ensures.call

pub returns-in_err-bytes-clause-areas : goal.returns-in_err-bytes-clause-areas
returns-in_err-bytes-clause-areas g c =
    left_once (g.D.Disk.told c.args.disk.now) (g.D.Disk.told c.len.new.self) (g.D.Disk.may_leave c.args.disk.now) (g.D.Disk.may_leave c.len.new.self) c.len.ensures.call

pub returns-in_err-count-clause-areas : goal.returns-in_err-count-clause-areas
returns-in_err-count-clause-areas g c =
    left_twice (g.D.Disk.told c.args.disk.now) (g.D.Disk.told c.len.new.self) (g.D.Disk.told c.read.new.self) (g.D.Disk.may_leave c.args.disk.now) (g.D.Disk.may_leave c.len.new.self) (g.D.Disk.may_leave c.read.new.self) c.len.ensures.call c.read.ensures.call

pub returns-clause-areas : goal.returns-clause-areas
returns-clause-areas g c =
    left_twice (g.D.Disk.told c.args.disk.now) (g.D.Disk.told c.len.new.self) (g.D.Disk.told c.read.new.self) (g.D.Disk.may_leave c.args.disk.now) (g.D.Disk.may_leave c.len.new.self) (g.D.Disk.may_leave c.read.new.self) c.len.ensures.call c.read.ensures.call

pub returns-in_err-count-clause-host : goal.returns-in_err-count-clause-host
returns-in_err-count-clause-host g c =
    leaves_host_then g.D.Disk.told g.D.Disk.above c.args.disk.now c.len.new.self c.read.new.self c.len.ensures.host c.read.ensures.host

pub returns-clause-host : goal.returns-clause-host
returns-clause-host g c =
    leaves_host_then g.D.Disk.told g.D.Disk.above c.args.disk.now c.len.new.self c.read.new.self c.len.ensures.host c.read.ensures.host

pub returns-in_err-len-clause-cause : goal.returns-in_err-len-clause-cause
returns-in_err-len-clause-cause g c =
    let p = err_from_is_err_and c.from_residual.result c.from_residual.ensures.1 in rw (p.1, p.2) (c.in_err-len.ensures.cause)

pub returns-in_err-bytes-clause-cause : goal.returns-in_err-bytes-clause-cause
returns-in_err-bytes-clause-cause g c =
    let p = err_from_is_err_and c.from_residual-in_err-bytes.result c.from_residual-in_err-bytes.ensures.1 in rw (p.1, p.2) (c.in_ok-len.ensures.cause)

pub returns-in_err-count-clause-cause : goal.returns-in_err-count-clause-cause
returns-in_err-count-clause-cause g c =
    let p = err_from_is_err_and c.from_residual-in_err-count.result c.from_residual-in_err-count.ensures.1 in rw (p.1, p.2) (c.in_err-count.ensures.cause ∙ ap counted c.in_ok-len.ensures.cause)

pub returns-clause-cause : goal.returns-clause-cause
returns-clause-cause g c =
    c.in_ok-count.ensures.cause ∙ c.in_ok-len.ensures.cause

pub returns-in_err-len-clause-undamaged : goal.returns-in_err-len-clause-undamaged
returns-in_err-len-clause-undamaged g c =
    let p = err_from_is_err_and c.from_residual.result c.from_residual.ensures.1 in rw (p.1, p.2) (λ place h. cc)

pub returns-in_err-len-clause-bytes : goal.returns-in_err-len-clause-bytes
returns-in_err-len-clause-bytes g c =
    let p = err_from_is_err_and c.from_residual.result c.from_residual.ensures.1 in rw p.1 (tt)

pub returns-in_err-bytes-clause-undamaged : goal.returns-in_err-bytes-clause-undamaged
returns-in_err-bytes-clause-undamaged g c =
    let p = err_from_is_err_and c.from_residual-in_err-bytes.result c.from_residual-in_err-bytes.ensures.1 in rw (p.1, p.2) (λ place h. cc)

pub returns-in_err-bytes-clause-bytes : goal.returns-in_err-bytes-clause-bytes
returns-in_err-bytes-clause-bytes g c =
    let p = err_from_is_err_and c.from_residual-in_err-bytes.result c.from_residual-in_err-bytes.ensures.1 in rw p.1 (tt)

pub returns-in_err-count-clause-undamaged : goal.returns-in_err-count-clause-undamaged
returns-in_err-count-clause-undamaged g c =
    let p = err_from_is_err_and c.from_residual-in_err-count.result c.from_residual-in_err-count.ensures.1 in rw (p.1, p.2) (λ place h. cc)

pub returns-in_err-count-clause-bytes : goal.returns-in_err-count-clause-bytes
returns-in_err-count-clause-bytes g c =
    let p = err_from_is_err_and c.from_residual-in_err-count.result c.from_residual-in_err-count.ensures.1 in rw p.1 (tt)
