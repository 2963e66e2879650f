use Rattle.std.proofs.Common.{◌<◌, ◌≤◌, length, ap, subst, refl, arith, ◌∙◌}
use Rattle.fk_trace.specs.Trace.{running}
use Rattle.fk_child.specs.Crew.{CrewState, on_host}
use Rattle.fk_child.specs.Calls.{AtEach}
use Rattle.fk_child.specs.Private.{state_of, PartlyPolled}
use Rattle.fk_child.proofs.Polling.{none-polled, may-poll_next, more-polled, all-polled}
use Rattle.fk_child.proofs.crew.Crew.poll_all.Goals as goal

pub loop-init : goal.loop-init
loop-init g c =
    let on = on_host g.H.Disk in
    let crew' : CrewState = record (state_of c.self.inside) { ends = c.clear.new.self.items } in
    let settled = ap (λ (s : CrewState). s.unsettled) c.self.view_is ∙ c.requires.settled in (
      subst (λ (s : CrewState). AtEach (PartlyPolled c.args.moment 0) (on s c.args.host.now) (on crew' c.args.host.now)) c.self.view_is
          (λ place at. none-polled c.args.moment place (on (state_of c.self.inside) c.args.host.now) at crew' settled refl refl refl c.clear.ensures.items refl),
      ap (λ (s : CrewState). s.owed) c.self.view_is,
      ap (λ (s : CrewState). s.room) c.self.view_is,
      (let counted = c.self.inside.children.ok.0 in c.len-end.ensures ∙ counted) ∙ ap (λ (s : CrewState). length s.children) c.self.view_is,
    )

pub poll_next-requires : goal.poll_next-requires
poll_next-requires g c =
    let on = on_host g.H.Disk in
    let place = c.requires.stands.0 in
    let at = c.requires.stands.1 in
    let below : c.loop.counter < length (running place.past) =
    let runs = ap length at.tied.runs in let last = c.loop.invariant.3 in let test = c.loop-test.true in omega arith in
    may-poll_next c.args.moment place (on c.args.self.now c.args.host.now) at (on c.loop.self c.loop.host) c.loop.counter (c.loop.invariant.0 place at) below c.loop.invariant.1

pub loop-preserved : goal.loop-preserved
loop-preserved g c =
    let on = on_host g.H.Disk in (
      λ place at.
          let below : c.loop.counter < length (running place.past) =
          let runs = ap length at.tied.runs in let last = c.loop.invariant.3 in let test = c.loop-test.true in omega arith in
          more-polled c.args.moment place (on c.args.self.now c.args.host.now) at (on c.loop.self c.loop.host) (on c.poll_next.new.self c.poll_next.new.host) c.loop.counter (c.loop.invariant.0 place at) below c.poll_next.ensures.polls,
      c.poll_next.ensures.kept.0 ∙ c.loop.invariant.1,
      c.poll_next.ensures.kept.1 ∙ c.loop.invariant.2,
      c.loop.invariant.3,
    )

pub returns-clause-polls : goal.returns-clause-polls
returns-clause-polls g c =
    let on = on_host g.H.Disk in
    λ place at.
    let above : length (running place.past) ≤ c.loop.counter =
    let runs = ap length at.tied.runs in let last = c.loop.invariant.3 in let test = c.loop-test.false in omega arith in
    all-polled c.args.moment place (on c.args.self.now c.args.host.now) at (on c.loop.self c.loop.host) c.loop.counter (c.loop.invariant.0 place at) above
