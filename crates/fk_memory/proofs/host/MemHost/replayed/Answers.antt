use Rattle.std.proofs.Common.{◌≡◌, ℕ, ◌+◌, ◌<◌, List, [], ◌∷◌, ◌++◌, length, take, get_or, ap, ◌∙◌, arith, rules}
use Rattle.std.proofs.lemmas.List.{places, take_more}
use Rattle.fk_memory.specs.declared.host.Call.{Call}
use Rattle.fk_host.specs.Disk.{area_of}
use Rattle.fk_memory.specs.Area.{AreaState, at_rest, after_call, after_calls}
use Rattle.fk_memory.proofs.Moments.{after_calls-push}
use Rattle.fk_memory.proofs.host.MemHost.replayed.Goals as goal

pub loop-call-preserved : goal.loop-call-preserved
loop-call-preserved c =
    let i : ℕ = c.loop-call.call-index in
    let calls : List Call = c.args.self.now.calls in
    let call : Call = c.call-item.result in
    let start : AreaState = at_rest (area_of c.args.area c.args.self.now.first) in
    let before : AreaState = after_calls c.args.area (take i calls) start in
    let inside : i < length calls = first_of (omega arith, search (rules, places)) in
    let item : get_or calls i call ≡ call = first_of (search (rules, places), grind (arith, places)) in
    let more : take (i + 1) calls ≡ take i calls ++ call ∷ [] = take_more calls i call inside ∙ ap (λ x. take i calls ++ x ∷ []) item in
    let step : after_calls c.args.area (take (i + 1) calls) start ≡ after_call c.args.area call before = ap (λ cs. after_calls c.args.area cs start) more ∙ after_calls-push c.args.area (take i calls) call start in
    let r = c.in_ok-replay.ensures before c.loop-call.invariant.0 c.loop-call.invariant.1 in
    (ap (λ m. m.reads) step ∙ r.0, ap (λ m. m.synced) step ∙ r.1)
