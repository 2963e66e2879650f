use Rattle.std.proofs.Common.{◌≡◌, take, vec_capacity}
use Rattle.std.specs.List.{filter_map}
use Rattle.fk_host.specs.Disk.{LeavesHost}
use Rattle.fk_ledger.specs.Anew.{kept_as, CopiesOn}
use Rattle.fk_ledger.specs.Payloads.{ledger_contents}
use Rattle.fk_ledger.proofs.compaction.copy_all.Given as goal

abbrev pub invariant-loop-change : goal.invariant-loop-change
invariant-loop-change g l =
    CopiesOn l.fn.journal l.journal (ledger_contents (filter_map (kept_as l.floor l.live) (take l.change-index l.changes)))
    (g.D.Disk.told l.fn.disk) (g.D.Disk.told l.disk) (g.D.Disk.may_leave l.fn.disk) (g.D.Disk.may_leave l.disk)
    × LeavesHost g.D.Disk.told g.D.Disk.above l.fn.disk l.disk × (g.D.Disk.faults l.disk ≡ g.D.Disk.faults l.fn.disk) × (vec_capacity l.payload ≡ vec_capacity l.fn.payload)
