use Rattle.fk_journal.proofs.Openings.{left_once, left_both, left_others, head_failed, sync_failed, read_moments, read_others, told_bytes}
use Rattle.fk_journal.proofs.area.sync_and_read.Goals as goal

pub returns-in_err-area-clause-moments : goal.returns-in_err-area-clause-moments
returns-in_err-area-clause-moments g c =
    head_failed (g.D.Disk.told c.args.disk.now) (g.D.Disk.told c.sync_head.new.disk) (g.D.Disk.may_leave c.args.disk.now) (g.D.Disk.may_leave c.sync_head.new.disk) c.sync_head.ensures.areas c.sync_head.ensures.calls

pub returns-in_err-sync-clause-moments : goal.returns-in_err-sync-clause-moments
returns-in_err-sync-clause-moments g c =
    sync_failed (g.D.Disk.told c.args.disk.now) (g.D.Disk.told c.sync_head.new.disk) (g.D.Disk.told c.sync.new.self) (g.D.Disk.may_leave c.args.disk.now) (g.D.Disk.may_leave c.sync_head.new.disk) (g.D.Disk.may_leave c.sync.new.self) c.sync_head.ensures.areas c.sync_head.ensures.calls c.in_err-sync.ensures.err

pub returns-in_err-sync-clause-others : goal.returns-in_err-sync-clause-others
returns-in_err-sync-clause-others g c =
    left_others (g.D.Disk.told c.args.disk.now) (g.D.Disk.told c.sync.new.self) (g.D.Disk.may_leave c.args.disk.now) (g.D.Disk.may_leave c.sync.new.self)
    (left_both (g.D.Disk.told c.args.disk.now) (g.D.Disk.told c.sync_head.new.disk) (g.D.Disk.told c.sync.new.self) (g.D.Disk.may_leave c.args.disk.now) (g.D.Disk.may_leave c.sync_head.new.disk) (g.D.Disk.may_leave c.sync.new.self) c.sync_head.ensures.areas
    (left_once (g.D.Disk.told c.sync_head.new.disk) (g.D.Disk.told c.sync.new.self) (g.D.Disk.may_leave c.sync_head.new.disk) (g.D.Disk.may_leave c.sync.new.self) c.in_err-sync.ensures.err))

pub returns-in_err-bytes-clause-moments : goal.returns-in_err-bytes-clause-moments
returns-in_err-bytes-clause-moments g c =
    read_moments c.in_ok-area.area (g.D.Disk.told c.args.disk.now) (g.D.Disk.told c.sync_head.new.disk) (g.D.Disk.told c.sync.new.self) (g.D.Disk.told c.read_area.new.disk) (g.D.Disk.may_leave c.args.disk.now) (g.D.Disk.may_leave c.sync_head.new.disk) (g.D.Disk.may_leave c.sync.new.self) (g.D.Disk.may_leave c.read_area.new.disk) c.in_ok-area.ensures.head c.in_ok-sync.ensures.ok c.read_area.ensures.areas

pub returns-in_err-bytes-clause-others : goal.returns-in_err-bytes-clause-others
returns-in_err-bytes-clause-others g c =
    read_others c.in_ok-area.area (g.D.Disk.told c.args.disk.now) (g.D.Disk.told c.sync_head.new.disk) (g.D.Disk.told c.sync.new.self) (g.D.Disk.told c.read_area.new.disk) (g.D.Disk.may_leave c.args.disk.now) (g.D.Disk.may_leave c.sync_head.new.disk) (g.D.Disk.may_leave c.sync.new.self) (g.D.Disk.may_leave c.read_area.new.disk) c.in_ok-area.ensures.head c.in_ok-sync.ensures.ok c.read_area.ensures.areas

pub returns-clause-moments : goal.returns-clause-moments
returns-clause-moments g c =
    read_moments c.in_ok-area.area (g.D.Disk.told c.args.disk.now) (g.D.Disk.told c.sync_head.new.disk) (g.D.Disk.told c.sync.new.self) (g.D.Disk.told c.read_area.new.disk) (g.D.Disk.may_leave c.args.disk.now) (g.D.Disk.may_leave c.sync_head.new.disk) (g.D.Disk.may_leave c.sync.new.self) (g.D.Disk.may_leave c.read_area.new.disk) c.in_ok-area.ensures.head c.in_ok-sync.ensures.ok c.read_area.ensures.areas

pub returns-clause-others : goal.returns-clause-others
returns-clause-others g c =
    read_others c.in_ok-area.area (g.D.Disk.told c.args.disk.now) (g.D.Disk.told c.sync_head.new.disk) (g.D.Disk.told c.sync.new.self) (g.D.Disk.told c.read_area.new.disk) (g.D.Disk.may_leave c.args.disk.now) (g.D.Disk.may_leave c.sync_head.new.disk) (g.D.Disk.may_leave c.sync.new.self) (g.D.Disk.may_leave c.read_area.new.disk) c.in_ok-area.ensures.head c.in_ok-sync.ensures.ok c.read_area.ensures.areas

pub returns-clause-bytes : goal.returns-clause-bytes
returns-clause-bytes g c =
    told_bytes c.in_ok-area.area c.in_ok-bytes.bytes.items (g.D.Disk.told c.args.disk.now) (g.D.Disk.told c.sync_head.new.disk) (g.D.Disk.told c.sync.new.self) (g.D.Disk.told c.read_area.new.disk) (g.D.Disk.may_leave c.args.disk.now) (g.D.Disk.may_leave c.sync_head.new.disk) (g.D.Disk.may_leave c.sync.new.self) (g.D.Disk.may_leave c.read_area.new.disk) c.in_ok-area.ensures.head c.in_ok-sync.ensures.ok c.read_area.ensures.areas c.in_ok-bytes.ensures.bytes
