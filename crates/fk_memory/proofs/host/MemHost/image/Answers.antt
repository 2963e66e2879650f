use Rattle.std.proofs.Common.{sym, subst, take}
use Rattle.std.proofs.lemmas.Result.{IfOk-weaker}
use Rattle.fk_memory.specs.Area.{AreaState, area_after, MayHold}
use Rattle.fk_memory.specs.Sound.{sound_after, image_held}
use Rattle.fk_memory.proofs.host.MemHost.image.Goals as goal

pub returns-clause-left : goal.returns-clause-left
returns-clause-left c =
    let state : AreaState = area_after c.args.self.now.first (take c.args.moment c.args.self.now.calls) c.args.area in
    IfOk-weaker c.replayed.result _ (MayHold state) (λ bytes is. subst (MayHold state) (sym is) (image_held c.args.keep state (sound_after c.args.self.now.first (take c.args.moment c.args.self.now.calls) c.args.area))) c.replayed.ensures
