use Rattle.std.proofs.Common.{◌≡◌, List, ◌∷◌, ◌++◌, [], true, sym, ap, subst, refl, arith, ◌∙◌, append_assoc}
use Rattle.std.specs.Prelude.{IsTrue}
use Rattle.std.specs.List.{list_any}
use Rattle.fk_base.specs.declared.purpose.Purpose.{Purpose}
use Rattle.fk_trace.specs.Trace.{Child}
use Rattle.fk_cycle.specs.Kept.{has_running}
use Rattle.fk_host.specs.Host.{is_running}
use Rattle.fk_child.specs.declared.items.EndItem.{EndItem}
use Rattle.fk_child.specs.declared.items.PollEnd.{PollEnd}
use Rattle.fk_child.specs.Crew.{CrewState, on_host, obligations_but}
use Rattle.fk_child.specs.Private.{state_of, StandsPolling, PollsOne, PollsNext}
use Rattle.fk_child.proofs.Images.{moment_of}
use Rattle.fk_child.proofs.Polls.{tied, among, may-poll, is-kept, end-fits, polls-runs, polls-failed, polls-ended}
use Rattle.fk_child.proofs.crew.Crew.poll_next.Goals as goal

-- the first of the queue is taken
taken : (queue left rest found : List Child) (first child : Child) → queue ≡ first ∷ left → queue ≡ child ∷ rest ++ found → (first ≡ child) × (left ≡ rest ++ found)
taken queue left rest found first child a b = (cc, cc)

-- what was polled and runs goes behind the others
behind_others : (queue left rest found : List Child) (pushed child : Child) → queue ≡ left ++ pushed ∷ [] → child ≡ pushed → left ≡ rest ++ found → queue ≡ rest ++ (found ++ child ∷ [])
behind_others queue left rest found pushed child a b d =
    a ∙ ap (λ (x : Child). left ++ x ∷ []) (sym b) ∙ ap (λ (cs : List Child). cs ++ child ∷ []) d ∙ append_assoc rest found (child ∷ [])

-- how the child ended is told last
told_last : (ends' ends : List EndItem) (purpose : Purpose) (end end' : PollEnd) → ends' ≡ ends ++ record { purpose = purpose; end = end } ∷ [] → end ≡ end' → ends' ≡ ends ++ record { purpose = purpose; end = end' } ∷ []
told_last ends' ends purpose end end' a b = a ∙ ap (λ (e : PollEnd). ends ++ record { purpose = purpose; end = e } ∷ []) b

pub poll-requires : goal.poll-requires
poll-requires g c =
    let on = on_host g.H.Disk in
    let may = c.requires in
    let first = taken c.self.inside.children.items c.pop_front.new.self.items may.rest may.found c.in-Some.child may.child c.in-Some.ensures.items (ap (λ (s : CrewState). s.children) c.self.view_is ∙ may.stands.queue) in
    let runs = may-poll c.args.moment may.place may.child may.rest may.found c.args.self.now (on c.args.self.now c.args.host.now).host may.stands in
    subst (λ (x : Child). IsTrue (is_running x.number (on c.args.self.now c.args.host.now).host.above)) (sym (c.child.view_is ∙ first.0)) runs

pub ended-act-requires : goal.ended-act-requires
ended-act-requires g c =
    let on = on_host g.H.Disk in
    let may = c.requires in
    let first = taken c.self.inside.children.items c.pop_front.new.self.items may.rest may.found c.in-Some.child may.child c.in-Some.ensures.items (ap (λ (s : CrewState). s.children) c.self.view_is ∙ may.stands.queue) in
    let kept = is-kept c.args.moment may.place may.child may.rest may.found c.args.self.now (on c.args.self.now c.args.host.now).host may.stands in
    subst (λ (x : Child). list_any (has_running x.purpose) c.self.inside.machine.kept ≡ true) (sym (c.child.view_is ∙ first.0))
    (subst (λ (s : CrewState). list_any (has_running may.child.purpose) s.kept ≡ true) (sym c.self.view_is) kept)

pub keep_end-requires : goal.keep_end-requires
keep_end-requires g c =
    let on = on_host g.H.Disk in
    let may = c.requires in
    let child0 : Child = record { number = c.child.inside.number; purpose = c.child.inside.purpose } in
    let crew : CrewState = state_of c.self.inside in
    let at = subst (λ (s : CrewState). StandsPolling (may.child ∷ may.rest) may.found (on s c.args.host.now) may.place) (sym c.self.view_is) may.stands in
    let first = taken c.self.inside.children.items c.pop_front.new.self.items may.rest may.found c.in-Some.child may.child c.in-Some.ensures.items at.queue in
    let at0 = subst (λ (x : Child). StandsPolling (x ∷ may.rest) may.found (on crew c.args.host.now) may.place) (sym (c.child.view_is ∙ first.0)) at in
    let host = (on crew c.args.host.now).host in
    let ties = tied c.args.moment may.place child0 may.rest may.found crew host at0 in
    let told = c.ended-act.ensures.tells may.place.past may.place.ends (obligations_but crew.unsettled may.place.ledger) ties.stands c.child.inside.number (among c.args.moment may.place child0 may.rest may.found crew host at0) in
    let fits = end-fits c.args.moment may.place child0 may.rest may.found crew host at0 c.in-Ok-Some.good c.ended-act.result told in
    let room = c.self.invariant.settles in
    let counted = c.self.inside.owed.ok.0 in
    omega arith

pub returns-in-Ok-None-clause-polls : goal.returns-in-Ok-None-clause-polls
returns-in-Ok-None-clause-polls g c =
    let on = on_host g.H.Disk in
    let crew : CrewState = state_of c.self.inside in
    let crew' : CrewState = record crew { children = c.push_back_reserved.new.self.items } in
    let child0 : Child = record { number = c.child.inside.number; purpose = c.child.inside.purpose } in
    let told = rw c.in-Ok-None.field-0-is at c.in-Ok-None.ensures in
    subst (λ (s : CrewState). PollsNext c.args.moment (on s c.args.host.now) (on crew' c.poll.new.self)) c.self.view_is
    (λ place child rest found at.
    let first = taken c.self.inside.children.items c.pop_front.new.self.items rest found c.in-Some.child child c.in-Some.ensures.items at.queue in
    let same : child0 ≡ child = c.child.view_is ∙ first.0 in
    let at0 = subst (λ (x : Child). StandsPolling (x ∷ rest) found (on crew c.args.host.now) place) (sym same) at in
    subst (λ (x : Child). PollsOne c.args.moment x rest place (on crew c.args.host.now) (on crew' c.poll.new.self)) same
    (polls-runs c.args.moment place child0 rest found crew (on crew c.args.host.now).host at0 crew' (on crew' c.poll.new.self).host told.call told.disk told.above refl refl refl
    (behind_others c.push_back_reserved.new.self.items c.pop_front.new.self.items rest found c.in-Some.child child0 c.push_back_reserved.ensures.items c.child.view_is first.1) refl))

pub returns-in-Ok-Some-clause-polls : goal.returns-in-Ok-Some-clause-polls
returns-in-Ok-Some-clause-polls g c =
    let on = on_host g.H.Disk in
    let crew : CrewState = state_of c.self.inside in
    let crew' : CrewState = record crew { children = c.pop_front.new.self.items; kept = c.ended-act.new.self.kept; ends = c.push_reserved.new.self.items; unsettled = c.keep_end.new.settles.items } in
    let child0 : Child = record { number = c.child.inside.number; purpose = c.child.inside.purpose } in
    let told = rw c.in-Ok-Some.field-0-is at c.in-Ok-Some.ensures in
    let host = (on crew c.args.host.now).host in
    let new = (on crew' c.poll.new.self).host in
    subst (λ (s : CrewState). PollsNext c.args.moment (on s c.args.host.now) (on crew' c.poll.new.self)) c.self.view_is
    (λ place child rest found at.
    let first = taken c.self.inside.children.items c.pop_front.new.self.items rest found c.in-Some.child child c.in-Some.ensures.items at.queue in
    let same : child0 ≡ child = c.child.view_is ∙ first.0 in
    let at0 = subst (λ (x : Child). StandsPolling (x ∷ rest) found (on crew c.args.host.now) place) (sym same) at in
    let ties = tied c.args.moment place child0 rest found crew host at0 in
    let runs = among c.args.moment place child0 rest found crew host at0 in
    let act = c.ended-act.ensures.tells place.past place.ends (obligations_but crew.unsettled place.ledger) ties.stands c.child.inside.number runs in
    let stands = c.ended-act.ensures.stands place.past place.ends (obligations_but crew.unsettled place.ledger) ties.stands c.child.inside.number runs (moment_of new.told) new.faults in
    subst (λ (x : Child). PollsOne c.args.moment x rest place (on crew c.args.host.now) (on crew' c.poll.new.self)) same
    (polls-ended c.args.moment place child0 rest found crew host at0 c.in-Ok-Some.good c.ended-act.result act crew' new told.call told.disk told.above stands refl c.keep_end.ensures.items first.1
    (told_last c.push_reserved.new.self.items c.self.inside.ends.items c.child.inside.purpose c.of.result _ c.push_reserved.ensures.items c.of.ensures)))

pub returns-in-Err-clause-polls : goal.returns-in-Err-clause-polls
returns-in-Err-clause-polls g c =
    let on = on_host g.H.Disk in
    let crew : CrewState = state_of c.self.inside in
    let crew' : CrewState = record crew { children = c.push_back_reserved-in-Err.new.self.items; ends = c.push_reserved-in-Err.new.self.items } in
    let child0 : Child = record { number = c.child.inside.number; purpose = c.child.inside.purpose } in
    let told = c.in-Err.ensures in
    subst (λ (s : CrewState). PollsNext c.args.moment (on s c.args.host.now) (on crew' c.poll.new.self)) c.self.view_is
    (λ place child rest found at.
    let first = taken c.self.inside.children.items c.pop_front.new.self.items rest found c.in-Some.child child c.in-Some.ensures.items at.queue in
    let same : child0 ≡ child = c.child.view_is ∙ first.0 in
    let at0 = subst (λ (x : Child). StandsPolling (x ∷ rest) found (on crew c.args.host.now) place) (sym same) at in
    subst (λ (x : Child). PollsOne c.args.moment x rest place (on crew c.args.host.now) (on crew' c.poll.new.self)) same
    (polls-failed c.args.moment place child0 rest found crew (on crew c.args.host.now).host at0 crew' (on crew' c.poll.new.self).host told.call told.disk told.above refl refl refl
    (behind_others c.push_back_reserved-in-Err.new.self.items c.pop_front.new.self.items rest found c.in-Some.child child0 c.push_back_reserved-in-Err.ensures.items c.child.view_is first.1) c.push_reserved-in-Err.ensures.items))
