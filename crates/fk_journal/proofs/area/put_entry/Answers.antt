use Rattle.std.proofs.Common.{true}
use Rattle.fk_host.proofs.Counts.{HasCauseBy-after}
use Rattle.fk_journal.proofs.Told.{leaves_host_then}
use Rattle.fk_journal.proofs.Forms.{on_ok_of}
use Rattle.std.proofs.Common.{◌+◌, ◌∷◌, [], length}
use Rattle.std.proofs.lemmas.Result.{err_from_is_err_and}
use Rattle.fk_journal.proofs.Forms.{behind_fits, gate_fits, first_put, entry_torn, entry_moments, entry_held, entry_written, entry_calls, entry_others, put_others}
use Rattle.fk_journal.proofs.area.put_entry.Goals as goal

pub put-requires : goal.put-requires
put-requires g c =
    let h = c.requires.held in
    behind_fits c.args.area (g.D.Disk.told c.args.disk.now) h.0 c.args.gate (g.D.Disk.may_leave c.args.disk.now) h.1 h.2

pub put-requires-2 : goal.put-requires-2
put-requires-2 g c =
    let h = c.requires.held in
    gate_fits c.args.area (g.D.Disk.told c.args.disk.now) (g.D.Disk.told c.put.new.disk) h.0 c.args.gate c.args.behind.now (g.D.Disk.may_leave c.args.disk.now) (g.D.Disk.may_leave c.put.new.disk) h.1 h.2 c.in_ok-put.ensures.ok

pub returns-in_err-put-clause-moments : goal.returns-in_err-put-clause-moments
returns-in_err-put-clause-moments g c = λ contents content one behind_is gate_is held.
    entry_torn c.args.area (g.D.Disk.told c.args.disk.now) (g.D.Disk.told c.put.new.disk) contents content c.args.gate (length c.args.behind.now) (g.D.Disk.may_leave c.args.disk.now) (g.D.Disk.may_leave c.put.new.disk) gate_is held c.put.ensures.moments

pub returns-in_err-put-clause-others : goal.returns-in_err-put-clause-others
returns-in_err-put-clause-others g c =
    put_others c.args.area (g.D.Disk.told c.args.disk.now) (g.D.Disk.told c.put.new.disk) (c.args.gate + 1) (length c.args.behind.now) (g.D.Disk.may_leave c.args.disk.now) (g.D.Disk.may_leave c.put.new.disk) c.put.ensures.moments

pub returns-clause-moments : goal.returns-clause-moments
returns-clause-moments g c = λ contents content one behind_is gate_is held.
    let first = first_put c.args.area (g.D.Disk.told c.args.disk.now) (g.D.Disk.told c.put.new.disk) contents content c.args.gate c.args.behind.now (g.D.Disk.may_leave c.args.disk.now) (g.D.Disk.may_leave c.put.new.disk) behind_is gate_is held c.put.ensures.moments c.in_ok-put.ensures.ok in
    entry_moments c.args.area (g.D.Disk.told c.args.disk.now) (g.D.Disk.told c.put.new.disk) (g.D.Disk.told c.put-2.new.disk) contents content c.args.gate (g.D.Disk.may_leave c.args.disk.now) (g.D.Disk.may_leave c.put.new.disk) (g.D.Disk.may_leave c.put-2.new.disk) one gate_is first c.put-2.ensures.moments

pub returns-clause-held : goal.returns-clause-held
returns-clause-held g c = λ contents content one behind_is gate_is held.
    let first = first_put c.args.area (g.D.Disk.told c.args.disk.now) (g.D.Disk.told c.put.new.disk) contents content c.args.gate c.args.behind.now (g.D.Disk.may_leave c.args.disk.now) (g.D.Disk.may_leave c.put.new.disk) behind_is gate_is held c.put.ensures.moments c.in_ok-put.ensures.ok in
    entry_held c.args.area c.put-2.result (g.D.Disk.told c.args.disk.now) (g.D.Disk.told c.put.new.disk) (g.D.Disk.told c.put-2.new.disk) contents content c.args.gate (g.D.Disk.may_leave c.args.disk.now) (g.D.Disk.may_leave c.put.new.disk) (g.D.Disk.may_leave c.put-2.new.disk) one gate_is first c.put-2.ensures.moments c.put-2.ensures.ok

pub returns-clause-bytes : goal.returns-clause-bytes
returns-clause-bytes g c = λ contents content behind_is gate_is held.
    let first = first_put c.args.area (g.D.Disk.told c.args.disk.now) (g.D.Disk.told c.put.new.disk) contents content c.args.gate c.args.behind.now (g.D.Disk.may_leave c.args.disk.now) (g.D.Disk.may_leave c.put.new.disk) behind_is gate_is held c.put.ensures.moments c.in_ok-put.ensures.ok in
    entry_written c.args.area c.put-2.result (g.D.Disk.told c.args.disk.now) (g.D.Disk.told c.put.new.disk) (g.D.Disk.told c.put-2.new.disk) contents content c.args.gate (g.D.Disk.may_leave c.args.disk.now) (g.D.Disk.may_leave c.put.new.disk) (g.D.Disk.may_leave c.put-2.new.disk) gate_is first c.put-2.ensures.ok

pub returns-clause-others : goal.returns-clause-others
returns-clause-others g c =
    entry_others c.args.area (g.D.Disk.told c.args.disk.now) (g.D.Disk.told c.put.new.disk) (g.D.Disk.told c.put-2.new.disk) (c.args.gate + 1) c.args.gate (length c.args.behind.now) 1 (g.D.Disk.may_leave c.args.disk.now) (g.D.Disk.may_leave c.put.new.disk) (g.D.Disk.may_leave c.put-2.new.disk) c.put.ensures.moments c.put-2.ensures.moments

pub returns-clause-calls : goal.returns-clause-calls
returns-clause-calls g c =
    entry_calls c.args.area c.args.area c.put-2.result (g.D.Disk.told c.args.disk.now) (g.D.Disk.told c.put.new.disk) (g.D.Disk.told c.put-2.new.disk) (c.args.gate + 1) c.args.gate c.args.behind.now (1 ∷ []) (g.D.Disk.may_leave c.put.new.disk) (g.D.Disk.may_leave c.put-2.new.disk) c.in_ok-put.ensures.ok c.put-2.ensures.ok

pub returns-in_err-put-clause-cause : goal.returns-in_err-put-clause-cause
returns-in_err-put-clause-cause g c =
    let p = err_from_is_err_and c.from_residual.result c.from_residual.ensures.1 in rw p.1 (c.in_err-put.ensures.cause)

pub returns-in_err-put-clause-within : goal.returns-in_err-put-clause-within
returns-in_err-put-clause-within g c =
    let p = err_from_is_err_and c.from_residual.result c.from_residual.ensures.1 in rw p.1 (tt)

pub returns-in_err-put-clause-calls : goal.returns-in_err-put-clause-calls
returns-in_err-put-clause-calls g c =
    let p = err_from_is_err_and c.from_residual.result c.from_residual.ensures.1 in rw p.1 (tt)

pub returns-in_err-put-clause-held : goal.returns-in_err-put-clause-held
returns-in_err-put-clause-held g c =
    let p = err_from_is_err_and c.from_residual.result c.from_residual.ensures.1 in rw p.1 (λ contents content one behind_is gate_is held. tt)

pub returns-in_err-put-clause-bytes : goal.returns-in_err-put-clause-bytes
returns-in_err-put-clause-bytes g c =
    let p = err_from_is_err_and c.from_residual.result c.from_residual.ensures.1 in rw p.1 (λ contents content behind_is gate_is held. tt)

pub returns-clause-within : goal.returns-clause-within
returns-clause-within g c =
    on_ok_of c.put-2.result _ c.in_ok-put.ensures.within

pub returns-clause-host : goal.returns-clause-host
returns-clause-host g c =
    leaves_host_then g.D.Disk.told g.D.Disk.above c.args.disk.now c.put.new.disk c.put-2.new.disk c.put.ensures.host c.put-2.ensures.host

pub returns-clause-cause : goal.returns-clause-cause
returns-clause-cause g c =
    HasCauseBy-after (λ _. true) (g.D.Disk.faults c.args.disk.now) (g.D.Disk.faults c.put.new.disk) (g.D.Disk.faults c.put-2.new.disk) c.put-2.result c.in_ok-put.ensures.cause c.put-2.ensures.cause
