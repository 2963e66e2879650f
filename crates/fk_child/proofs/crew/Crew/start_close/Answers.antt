use Rattle.std.proofs.Common.{◌≡◌, List, [], Some, None, eqb, sym, ap, subst, ◌∙◌}
use Rattle.std.specs.Prelude.{find}
use Rattle.std.proofs.lemmas.Result.{err_from_is_err_and}
use Rattle.fk_trace.specs.declared.change.OpenRecord.{OpenRecord}
use Rattle.fk_trace.specs.declared.change.Change.{Change}
use Rattle.fk_trace.specs.Ledger.{live}
use Rattle.fk_cycle.specs.Stands.{Stands}
use Rattle.fk_child.specs.Crew.{CrewState, on_host, obligations_but, StandsAt}
use Rattle.fk_child.specs.Private.{state_of}
use Rattle.fk_child.proofs.Records.{words-of}
use Rattle.fk_child.proofs.Closes.{due-begins, due-found, is-next, tries-next, wants-next, settled-stands, stands-kept}
use Rattle.fk_child.proofs.crew.Crew.start_close.Goals as goal

pub unreachable-requires : goal.unreachable-requires
unreachable-requires g c =
    let on = on_host g.H.Disk in
    let place = c.requires.stands.0 in
    let at = c.requires.stands.2 in
    let tells = subst (λ (s : CrewState). Stands s.kept place.past place.ends (obligations_but [] place.ledger)) (sym c.self.view_is)
    (settled-stands c.args.self.now (on c.args.self.now c.args.host.now).host.above place c.requires.settled at.tied) in
    let next = c.in-Some.ensures.stands place.past place.ends (obligations_but [] place.ledger) tells in
    due-found place.past place.ends c.args.moment place.ledger c.in-Some.id next
    (subst (λ (l : List Change). None ≡ find (λ (item : OpenRecord). eqb item.id c.in-Some.id) (live l)) (sym c.requires.stands.1) c.in_default-get.ensures)

pub start-requires-clause-words : goal.start-requires-clause-words
start-requires-clause-words g c =
    let on = on_host g.H.Disk in
    let place = c.requires.stands.0 in
    let at = c.requires.stands.2 in
    let tells = subst (λ (s : CrewState). Stands s.kept place.past place.ends (obligations_but [] place.ledger)) (sym c.self.view_is)
    (settled-stands c.args.self.now (on c.args.self.now c.args.host.now).host.above place c.requires.settled at.tied) in
    let next = c.in-Some.ensures.stands place.past place.ends (obligations_but [] place.ledger) tells in
    let found = subst (λ (l : List Change). Some c.in-Some-get.item.now ≡ find (λ (item : OpenRecord). eqb item.id c.in-Some.id) (live l)) (sym c.requires.stands.1) c.in-Some-get.ensures in
    words-of place.ledger at.keeps.each c.in-Some-get.item.now (is-next c.args.moment c.in-Some.id place c.in-Some-get.item.now next found).lives

pub start-requires-clause-may : goal.start-requires-clause-may
start-requires-clause-may g c =
    let on = on_host g.H.Disk in
    let place = c.requires.stands.0 in
    let at = c.requires.stands.2 in
    let tells = subst (λ (s : CrewState). Stands s.kept place.past place.ends (obligations_but [] place.ledger)) (sym c.self.view_is)
    (settled-stands c.args.self.now (on c.args.self.now c.args.host.now).host.above place c.requires.settled at.tied) in
    let next = c.in-Some.ensures.stands place.past place.ends (obligations_but [] place.ledger) tells in
    rw c.in-Some.ensures.kept (due-begins c.self.inside.machine.kept place.past place.ends c.args.moment (obligations_but [] place.ledger) c.in-Some.id tells next)

pub returns-in_err-begun-clause-starts : goal.returns-in_err-begun-clause-starts
returns-in_err-begun-clause-starts g c =
    let on = on_host g.H.Disk in
    let crew : CrewState = state_of c.self.inside in
    let mid : CrewState = record crew { kept = c.due.new.self.kept } in
    let host = (on crew c.args.host.now).host in
    let p = err_from_is_err_and c.from_residual.result c.from_residual.ensures.1 in
    rw p.1
    (λ place e at0.
    let at = subst (λ (s : CrewState). StandsAt (on s c.args.host.now) place) (sym c.self.view_is) at0 in
    let settled = ap (λ (s : CrewState). s.unsettled) c.self.view_is ∙ c.requires.settled in
    let tells = settled-stands crew host.above place settled at.tied in
    let next = c.in-Some.ensures.stands place.past place.ends (obligations_but [] place.ledger) tells in
    let found = subst (λ (l : List Change). Some c.in-Some-get.item.now ≡ find (λ (item : OpenRecord). eqb item.id c.in-Some.id) (live l)) (sym e) c.in-Some-get.ensures in
    wants-next c.args.moment c.in-Some.id place c.in-Some-get.item.now next found mid c.args.self.now host (on c.start.new.self c.start.new.host) p.0
    (c.in_err-begun.ensures.starts place (stands-kept crew host place c.due.new.self.kept c.in-Some.ensures.kept at)))

pub returns-clause-starts : goal.returns-clause-starts
returns-clause-starts g c =
    let on = on_host g.H.Disk in
    let crew : CrewState = state_of c.self.inside in
    let mid : CrewState = record crew { kept = c.due.new.self.kept } in
    let host = (on crew c.args.host.now).host in
    λ place e at0.
    let at = subst (λ (s : CrewState). StandsAt (on s c.args.host.now) place) (sym c.self.view_is) at0 in
    let settled = ap (λ (s : CrewState). s.unsettled) c.self.view_is ∙ c.requires.settled in
    let tells = settled-stands crew host.above place settled at.tied in
    let next = c.in-Some.ensures.stands place.past place.ends (obligations_but [] place.ledger) tells in
    let found = subst (λ (l : List Change). Some c.in-Some-get.item.now ≡ find (λ (item : OpenRecord). eqb item.id c.in-Some.id) (live l)) (sym e) c.in-Some-get.ensures in
    tries-next c.args.moment c.in-Some.id place c.in-Some-get.item.now next found mid c.args.self.now host (on c.start.new.self c.start.new.host) c.in_ok-begun.begun
    (c.in_ok-begun.ensures.starts place (stands-kept crew host place c.due.new.self.kept c.in-Some.ensures.kept at))
