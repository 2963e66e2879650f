use Rattle.fk_journal.proofs.Told.{if_told_map}
use Rattle.fk_ledger.specs.Stretch.{Stretch}
use Rattle.fk_ledger.proofs.StretchLaws.{stretch_cut}
use Rattle.std.proofs.Common.{◌≤◌, false}
use Rattle.fk_ledger.proofs.laws.a_stretch_may_be_cut.Goals as goal

pub returns : goal.returns
returns g c = λ ledger changes whole k.
    if_told_map (g.D.Disk.told c.args.old.now) (g.D.Disk.told c.args.new.now) (Stretch ledger changes whole (g.D.Disk.may_leave c.args.old.now) (g.D.Disk.may_leave c.args.new.now))
    (λ before later. before.moments ≤ k → k ≤ later.moments → Stretch ledger changes false (g.D.Disk.may_leave c.args.old.now) (g.D.Disk.may_leave c.args.new.now) before (record later { moments = k }))
    (λ x y stretch. stretch_cut ledger changes whole (g.D.Disk.may_leave c.args.old.now) (g.D.Disk.may_leave c.args.new.now) x y k stretch)
