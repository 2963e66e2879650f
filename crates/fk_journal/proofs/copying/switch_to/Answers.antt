use Rattle.fk_journal.proofs.Switches.{told_closed, told_switch}
use Rattle.fk_journal.proofs.copying.switch_to.Goals as goal

pub returns-clause-moments : goal.returns-clause-moments
returns-clause-moments g c = λ contents copied held is was.
    told_switch c.args.from contents copied (g.D.Disk.told c.args.disk.now) (g.D.Disk.told c.put.new.disk) (g.D.Disk.told c.put-2.new.disk) (g.D.Disk.may_leave c.args.disk.now) (g.D.Disk.may_leave c.put.new.disk) (g.D.Disk.may_leave c.put-2.new.disk) held
    (told_closed c.args.from c.other_area-area.result copied c.args.end (g.D.Disk.told c.args.disk.now) (g.D.Disk.told c.put.new.disk) (g.D.Disk.may_leave c.args.disk.now) (g.D.Disk.may_leave c.put.new.disk) c.other_area-area.ensures is was c.put.ensures.moments c.in_ok-put.ensures.ok)
    c.put-2.ensures.moments
