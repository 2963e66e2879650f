use Rattle.fk_journal.proofs.Replacing.{told_selected, told_failed, told_replaced}
use Rattle.fk_journal.proofs.older.replace.Goals as goal

pub returns-in_err-write_anew-clause-moments : goal.returns-in_err-write_anew-clause-moments
returns-in_err-write_anew-clause-moments g c =
    let first = told_selected c.in_ok-read_head.field-0 (g.D.Disk.told c.args.disk.now) (g.D.Disk.told c.read_head.new.disk) (g.D.Disk.may_leave c.args.disk.now) (g.D.Disk.may_leave c.read_head.new.disk) c.requires c.in_ok-read_head.ensures.selects c.in_ok-read_head.ensures.areas c.in_ok-read_head.ensures.calls in
    told_failed c.in_ok-read_head.field-0 c.other_area-area.result c.args.bytes.now (g.D.Disk.told c.args.disk.now) (g.D.Disk.told c.read_head.new.disk) (g.D.Disk.told c.write_anew.new.disk) (g.D.Disk.may_leave c.args.disk.now) (g.D.Disk.may_leave c.read_head.new.disk) (g.D.Disk.may_leave c.write_anew.new.disk) c.other_area-area.ensures first c.write_anew.ensures.moments

pub returns-clause-moments : goal.returns-clause-moments
returns-clause-moments g c =
    let first = told_selected c.in_ok-read_head.field-0 (g.D.Disk.told c.args.disk.now) (g.D.Disk.told c.read_head.new.disk) (g.D.Disk.may_leave c.args.disk.now) (g.D.Disk.may_leave c.read_head.new.disk) c.requires c.in_ok-read_head.ensures.selects c.in_ok-read_head.ensures.areas c.in_ok-read_head.ensures.calls in
    told_replaced c.in_ok-read_head.field-0 c.other_area-area.result c.args.bytes.now (g.D.Disk.told c.args.disk.now) (g.D.Disk.told c.read_head.new.disk) (g.D.Disk.told c.write_anew.new.disk) (g.D.Disk.told c.put.new.disk) (g.D.Disk.may_leave c.args.disk.now) (g.D.Disk.may_leave c.read_head.new.disk) (g.D.Disk.may_leave c.write_anew.new.disk) (g.D.Disk.may_leave c.put.new.disk)
    c.other_area-area.ensures first c.write_anew.ensures.moments c.in_ok-write_anew.ensures.ok c.put.ensures.moments
