use Rattle.std.proofs.Common.{length, Ok, true, false, sym, ap, subst, refl, arith, ◌≡◌}
use Rattle.std.specs.List.{list_any}
use Rattle.fk_cycle.specs.Kept.{may_begin}
use Rattle.fk_child.specs.Crew.{CrewState, on_host}
use Rattle.fk_child.specs.Calls.{AtEach, Attempts}
use Rattle.fk_child.specs.Private.{state_of}
use Rattle.fk_child.proofs.Starts.{one-more, attempts-begun, attempts-failed, attempts-none}
use Rattle.fk_child.proofs.crew.Crew.start.Goals as goal

pub push_back_reserved-requires : goal.push_back_reserved-requires
push_back_reserved-requires g c =
    let on = on_host g.H.Disk in
    let one = one-more c.args.self.now (on c.args.self.now c.args.host.now).host c.requires.stands.0 c.requires.stands.1 c.args.purpose c.requires.may in
    let room = c.self.invariant.children in
    let children = ap (λ (s : CrewState). length s.children) c.self.view_is in
    let owed = ap (λ (s : CrewState). length s.owed) c.self.view_is in
    let counted = c.self.inside.children.ok.0 in
    let counted_too = c.self.inside.owed.ok.0 in
    omega arith

pub returns-in-Ok-clause-starts : goal.returns-in-Ok-clause-starts
returns-in-Ok-clause-starts g c =
    let on = on_host g.H.Disk in
    let crew' : CrewState = record (state_of c.self.inside) { children = c.push_back_reserved.new.self.items; kept = c.begun.new.self.kept } in
    let may = subst (λ (s : CrewState). list_any (may_begin c.args.purpose) s.kept ≡ true) (sym c.self.view_is) c.requires.may in
    subst (λ (s : CrewState). AtEach (Attempts c.args.purpose c.args.words.now (Ok true)) (on s c.args.host.now) (on crew' c.start.new.self)) c.self.view_is
    (λ place at. attempts-begun (state_of c.self.inside) (on crew' c.args.host.now).host place at c.args.purpose may
    crew' (on crew' c.start.new.self).host c.args.words.now c.in-Ok.ensures.disk refl refl c.in-Ok.field-0.0 c.in-Ok.ensures.number c.in-Ok.ensures.call c.in-Ok.ensures.above
    c.push_back_reserved.ensures.items (λ below. c.begun.ensures.stands _ _ _ at.tied.stands _ below _ _ _))

pub returns-in-Err-Failed-clause-starts : goal.returns-in-Err-Failed-clause-starts
returns-in-Err-Failed-clause-starts g c =
    let told = rw c.in-Err-Failed.field-0-is at c.in-Err-Failed.ensures in
    let on = on_host g.H.Disk in
    let crew' : CrewState = record (state_of c.self.inside) { kept = c.not_begun.new.self.kept } in
    let may = subst (λ (s : CrewState). list_any (may_begin c.args.purpose) s.kept ≡ true) (sym c.self.view_is) c.requires.may in
    subst (λ (s : CrewState). AtEach (Attempts c.args.purpose c.args.words.now (Ok false)) (on s c.args.host.now) (on crew' c.start.new.self)) c.self.view_is
    (λ place at. attempts-failed (state_of c.self.inside) (on crew' c.args.host.now).host place at c.args.purpose may
    crew' (on crew' c.start.new.self).host c.args.words.now told.disk refl refl told.call told.above
    refl (c.not_begun.ensures.stands _ _ _ at.tied.stands _ _ _))

pub returns-in-Err-NoMemory-clause-starts : goal.returns-in-Err-NoMemory-clause-starts
returns-in-Err-NoMemory-clause-starts g c =
    let told = rw c.in-Err-NoMemory.field-0-is at c.in-Err-NoMemory.ensures in
    let on = on_host g.H.Disk in
    λ place at. attempts-none c.args.self.now (on c.args.self.now c.args.host.now).host place at c.args.purpose c.requires.may
    (on c.args.self.now c.start.new.self).host c.args.words.now _ told.disk told.call told.above
