use Rattle.fk_ledger.proofs.StretchLaws.{stretches_join}
use Rattle.fk_ledger.proofs.laws.adjoining_stretches_are_one.Goals as goal

pub returns : goal.returns
returns g c = λ ledger a b whole first second.
    stretches_join (g.D.Disk.told c.args.first.now) (g.D.Disk.told c.args.second.now) (g.D.Disk.told c.args.third.now) ledger a b whole (g.D.Disk.may_leave c.args.first.now) (g.D.Disk.may_leave c.args.second.now) (g.D.Disk.may_leave c.args.third.now) first second
