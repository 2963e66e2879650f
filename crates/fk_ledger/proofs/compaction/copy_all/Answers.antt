use Rattle.std.proofs.Common.{List, subst, ◌∙◌}
use Rattle.std.proofs.lemmas.Result.{err_from_is_err_and}
use Rattle.fk_journal.specs.Entries.{Content}
use Rattle.fk_journal.proofs.Told.{leaves_host_then}
use Rattle.fk_ledger.specs.Anew.{CopiesOn}
use Rattle.fk_ledger.proofs.CopyLaws.{copies_then, fails_then, contents_step}
use Rattle.fk_ledger.proofs.compaction.copy_all.Goals as goal

pub returns-in_err-copy_kept-clause-err : goal.returns-in_err-copy_kept-clause-err
returns-in_err-copy_kept-clause-err g c =
    let p = err_from_is_err_and c.from_residual.result c.from_residual.ensures.1 in
    rw p.1 (fails_then _ _ _ _ _ _ _ _ _ _ c.loop-change.invariant.0 c.in_err-copy_kept.ensures.err)

pub loop-change-preserved : goal.loop-change-preserved
loop-change-preserved g c = (
  subst (λ (all : List Content). CopiesOn c.args.journal.now c.copy_kept.new.journal all (g.D.Disk.told c.args.disk.now) (g.D.Disk.told c.copy_kept.new.disk) (g.D.Disk.may_leave c.args.disk.now) (g.D.Disk.may_leave c.copy_kept.new.disk))
      (contents_step c.args.floor c.args.live.now c.args.changes.now c.loop-change.change-index c.change-item.result c.loop-change-test.true c.change-item.is)
      (copies_then _ _ _ _ _ _ _ _ _ _ c.loop-change.invariant.0 _ c.in_ok-copy_kept.ensures.ok),
  leaves_host_then g.D.Disk.told g.D.Disk.above c.args.disk.now c.loop-change.disk c.copy_kept.new.disk c.loop-change.invariant.1 c.in_ok-copy_kept.ensures.host,
  c.in_ok-copy_kept.ensures.cause ∙ c.loop-change.invariant.2,
  c.in_ok-copy_kept.ensures.capacity ∙ c.loop-change.invariant.3,
)
