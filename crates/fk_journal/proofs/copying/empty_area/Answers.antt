use Rattle.std.proofs.Common.{[], ◌∷◌, ◌≡◌, take}
use Rattle.fk_host.specs.Disk.{Cut}
use Rattle.fk_journal.proofs.Copies.{told_once, told_twice, write_either}
use Rattle.fk_journal.proofs.copying.empty_area.Goals as goal

pub returns-clause-moments : goal.returns-clause-moments
returns-clause-moments g c =
    told_twice c.args.area (g.D.Disk.told c.args.disk.now) (g.D.Disk.told c.cut.new.self) (g.D.Disk.told c.write_at.new.self) (g.D.Disk.may_leave c.args.disk.now) (g.D.Disk.may_leave c.cut.new.self) (g.D.Disk.may_leave c.write_at.new.self)
    (told_once c.args.area (λ old new. new ≡ take 0 old) (Cut 0) (g.D.Disk.told c.args.disk.now) (g.D.Disk.told c.cut.new.self) (g.D.Disk.may_leave c.args.disk.now) (g.D.Disk.may_leave c.cut.new.self) c.in_ok-cut.ensures.ok)
    (write_either c.write_at.result c.args.area 0 (2 ∷ []) (g.D.Disk.told c.cut.new.self) (g.D.Disk.told c.write_at.new.self) (g.D.Disk.may_leave c.cut.new.self) (g.D.Disk.may_leave c.write_at.new.self) c.write_at.ensures.ok c.write_at.ensures.err)
