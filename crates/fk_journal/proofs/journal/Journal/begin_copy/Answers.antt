use Rattle.std.proofs.Common.{ap, ◌∙◌}
use Rattle.fk_journal.specs.Head.{other_area}
use Rattle.fk_journal.specs.Keeps.{Log}
use Rattle.fk_journal.proofs.Copies.{told_moments, told_keeps}
use Rattle.fk_journal.proofs.journal.Journal.begin_copy.Goals as goal

pub returns-in-Ok-clause-moments : goal.returns-in-Ok-clause-moments
returns-in-Ok-clause-moments g c = λ contents keeps.
    told_moments c.args.self.now c.other_area.result contents 2 (g.D.Disk.told c.args.disk.now) (g.D.Disk.told c.empty_area.new.disk) (g.D.Disk.may_leave c.args.disk.now) (g.D.Disk.may_leave c.empty_area.new.disk) (c.other_area.ensures ∙ ap other_area (ap (λ (l : Log). l.area) c.self.view_is)) keeps c.empty_area.ensures.moments

pub returns-in-Err-clause-moments : goal.returns-in-Err-clause-moments
returns-in-Err-clause-moments g c = λ contents keeps.
    told_moments c.args.self.now c.other_area.result contents 2 (g.D.Disk.told c.args.disk.now) (g.D.Disk.told c.empty_area.new.disk) (g.D.Disk.may_leave c.args.disk.now) (g.D.Disk.may_leave c.empty_area.new.disk) (c.other_area.ensures ∙ ap other_area (ap (λ (l : Log). l.area) c.self.view_is)) keeps c.empty_area.ensures.moments

pub returns-in-Ok-clause-keeps : goal.returns-in-Ok-clause-keeps
returns-in-Ok-clause-keeps g c = λ contents keeps.
    told_keeps c.args.self.now _ c.other_area.result contents 2 (g.D.Disk.told c.args.disk.now) (g.D.Disk.told c.empty_area.new.disk) (g.D.Disk.may_leave c.args.disk.now) (g.D.Disk.may_leave c.empty_area.new.disk) (c.other_area.ensures ∙ ap other_area (ap (λ (l : Log). l.area) c.self.view_is))
    (ap (λ (l : Log). l.area) c.self.view_is) (ap (λ (l : Log). l.end) c.self.view_is) keeps c.empty_area.ensures.moments
