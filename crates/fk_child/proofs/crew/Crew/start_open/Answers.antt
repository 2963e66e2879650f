use Rattle.std.proofs.Common.{◌≡◌, ◌-◌, ℕ, [], ◌∷◌, ◌++◌, false, sym, ap, subst, refl, ◌∙◌}
use Rattle.fk_base.specs.declared.purpose.Purpose.TheVariants.{Open}
use Rattle.fk_trace.specs.Orderly.{is_attempted}
use Rattle.fk_cycle.specs.Kept.{is_kept}
use Rattle.fk_cycle.specs.Stands.{Stands}
use Rattle.fk_child.specs.Crew.{CrewState, on_host, obligations_but}
use Rattle.fk_child.specs.Calls.{AwaitsOpen, Attempts, recorded}
use Rattle.fk_child.specs.Private.{state_of}
use Rattle.fk_child.proofs.Opens.{unknown-next, untried-next, stands-recorded, attempts-from}
use Rattle.fk_child.proofs.crew.Crew.start_open.Goals as goal

pub opened-requires-clause-unknown : goal.opened-requires-clause-unknown
opened-requires-clause-unknown g c =
    let on = on_host g.H.Disk in
    let at = c.requires.awaits in
    let unknown = unknown-next c.args.owed c.args.due at.0 at.1 c.args.self.now (on c.args.self.now c.args.host.now).host at.2 in
    rw c.id-id.ensures (subst (λ (s : CrewState). is_kept c.args.owed s.kept ≡ false) (sym c.self.view_is) unknown)

pub start-requires-clause-stands : goal.start-requires-clause-stands
start-requires-clause-stands g c =
    let on = on_host g.H.Disk in
    let crew : CrewState = state_of c.self.inside in
    let crew' : CrewState = record crew { owed = c.push_reserved.new.self.items; kept = c.opened.new.self.kept; room = c.self.inside.room - 1 } in
    let host = (on crew c.args.host.now).host in
    let item = c.requires.awaits.0 in
    let place = c.requires.awaits.1 in
    let awaits = subst (λ (s : CrewState). AwaitsOpen c.args.owed c.args.due item place (on s c.args.host.now)) (sym c.self.view_is) c.requires.awaits.2 in
    let settled = ap (λ (s : CrewState). s.unsettled) c.self.view_is ∙ c.requires.settled in
    let untried : is_attempted place.past c.id-id.result ≡ false = rw c.id-id.ensures (untried-next c.args.owed c.args.due item place crew host awaits) in
    let tells = subst (λ (n : ℕ). Stands c.opened.new.self.kept place.past place.ends (obligations_but crew.unsettled place.ledger ++ record { id = n; due = c.args.due } ∷ [])) c.id-id.ensures
    (c.opened.ensures.stands place.past place.ends (obligations_but crew.unsettled place.ledger) awaits.tied.stands untried) in
    (recorded place item, stands-recorded c.args.owed c.args.due item place crew host awaits crew' settled c.push_reserved.ensures.items refl refl tells)

pub returns-clause-starts : goal.returns-clause-starts
returns-clause-starts g c =
    let on = on_host g.H.Disk in
    let crew : CrewState = state_of c.self.inside in
    let crew' : CrewState = record crew { owed = c.push_reserved.new.self.items; kept = c.opened.new.self.kept; room = c.self.inside.room - 1 } in
    let host = (on crew c.args.host.now).host in
    let settled = ap (λ (s : CrewState). s.unsettled) c.self.view_is ∙ c.requires.settled in
    λ item place at.
    let awaits = subst (λ (s : CrewState). AwaitsOpen c.args.owed c.args.due item place (on s c.args.host.now)) (sym c.self.view_is) at in
    let untried : is_attempted place.past c.id-id.result ≡ false = rw c.id-id.ensures (untried-next c.args.owed c.args.due item place crew host awaits) in
    let tells = subst (λ (n : ℕ). Stands c.opened.new.self.kept place.past place.ends (obligations_but crew.unsettled place.ledger ++ record { id = n; due = c.args.due } ∷ [])) c.id-id.ensures
    (c.opened.ensures.stands place.past place.ends (obligations_but crew.unsettled place.ledger) awaits.tied.stands untried) in
    let stands = stands-recorded c.args.owed c.args.due item place crew host awaits crew' settled c.push_reserved.ensures.items refl refl tells in
    let attempts = subst (λ (n : ℕ). Attempts (Open n) c.args.words.now c.start.result (recorded place item) (on crew' c.args.host.now) (on c.start.new.self c.start.new.host)) c.id-id.ensures
    (c.start.ensures.starts (recorded place item) stands) in
    attempts-from (Open c.args.owed) c.args.words.now c.start.result (recorded place item) crew' c.args.self.now host (on c.start.new.self c.start.new.host) attempts
