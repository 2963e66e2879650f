use Rattle.fk_ledger.proofs.StretchLaws.{left_stretch, left_keeps}
use Rattle.fk_ledger.proofs.laws.calls_that_leave_the_areas_are_a_stretch.Goals as goal

pub returns : goal.returns
returns g c = record {
  stretch = λ ledger. left_stretch (g.D.Disk.told c.args.old.now) (g.D.Disk.told c.args.new.now) ledger (g.D.Disk.may_leave c.args.old.now) (g.D.Disk.may_leave c.args.new.now);
  keeps = λ ledger. left_keeps (g.D.Disk.told c.args.old.now) (g.D.Disk.told c.args.new.now) ledger (g.D.Disk.may_leave c.args.old.now) (g.D.Disk.may_leave c.args.new.now);
}
