use Rattle.std.proofs.Common.{◌≡◌, ℕ, List, ◌∷◌, Some, sym, ap, subst, refl, ◌∙◌, arith}
use Rattle.std.specs.Prelude.{slice_get}
use Rattle.std.specs.List.{Contains, insert, remove}
use Rattle.fk_child.specs.Crew.{CrewState, on_host}
use Rattle.fk_child.specs.Calls.{AtEachOver, SettlesFirst, FailsToSettle}
use Rattle.fk_child.specs.Private.{state_of}
use Rattle.fk_child.proofs.Pieces.{insert-removed, slice_get-within}
use Rattle.fk_child.proofs.Settles.{read-at, first-owed, settles-first, fails-to-settle}
use Rattle.fk_child.proofs.crew.Crew.settle_next.Goals as goal

pub index_of-index-requires : goal.index_of-index-requires
index_of-index-requires g c =
    let on = on_host g.H.Disk in
    let place = c.requires.stands.0 in
    let at = c.requires.stands.2 in
    let first = sym (ap (λ (s : CrewState). s.unsettled) c.self.view_is) ∙ c.in-Some.ensures.items in
    let has = first-owed c.args.self.now (on c.args.self.now c.args.host.now).host.above place at.tied c.in-Some.end c.pop_front.new.self.items first in
    subst (λ (ids : List ℕ). Contains ids c.id-id.result) (sym (c.deref.ensures.value ∙ ap (λ (s : CrewState). s.owed) c.self.view_is))
    (subst (λ (n : ℕ). Contains c.args.self.now.owed n) (sym c.id-id.ensures) has)

pub remove-owed-requires : goal.remove-owed-requires
remove-owed-requires g c =
    let within = slice_get-within c.deref.result.now c.index_of-index.result c.id-id.result c.index_of-index.ensures in
    let counted = c.deref.ensures.len in
    omega arith

pub settle-requires-clause-same : goal.settle-requires-clause-same
settle-requires-clause-same g c =
    let placed : slice_get c.self.inside.owed.items c.index_of-index.result ≡ Some c.id-id.result = ap (λ (ids : List ℕ). slice_get ids c.index_of-index.result) (sym c.deref.ensures.value) ∙ c.index_of-index.ensures in
    let read = read-at c.self.inside.owed.items c.index_of-index.result c.id-id.result c.remove-owed.result placed in
    sym c.id-id.ensures ∙ sym read ∙ sym c.remove-owed.ensures.value

pub returns-in-Ok-clause-settles : goal.returns-in-Ok-clause-settles
returns-in-Ok-clause-settles g c =
    let on = on_host g.H.Disk in
    let crew : CrewState = state_of c.self.inside in
    let crew' : CrewState = record crew { owed = c.remove-owed.new.self.items; unsettled = c.pop_front.new.self.items } in
    let old = (on crew c.args.host.now).host in
    let new = (on crew' c.settle.new.disk).host in
    let placed : slice_get c.self.inside.owed.items c.index_of-index.result ≡ Some c.id-id.result = ap (λ (ids : List ℕ). slice_get ids c.index_of-index.result) (sym c.deref.ensures.value) ∙ c.index_of-index.ensures in
    let same : c.remove-owed.result ≡ c.id-id.result = c.remove-owed.ensures.value ∙ read-at c.self.inside.owed.items c.index_of-index.result c.id-id.result c.remove-owed.result placed in
    let first : c.self.inside.settles.items ≡ c.id-id.result ∷ c.pop_front.new.self.items = c.in-Some.ensures.items ∙ ap (λ (n : ℕ). n ∷ c.pop_front.new.self.items) (sym c.id-id.ensures) in
    subst (λ (s : CrewState). AtEachOver c.args.ledger.now.changes (SettlesFirst c.id-id.result c.args.ledger.now c.settle.new.self) (on s c.args.host.now) (on crew' c.settle.new.disk)) c.self.view_is
    (λ place e at. settles-first crew crew' old new place c.args.ledger.now c.settle.new.self c.id-id.result c.remove-owed.result e same c.in-Ok.ensures.host.trace c.in-Ok.ensures.others
    c.index_of-index.result c.pop_front.new.self.items at first placed c.remove-owed.ensures.items refl refl refl
    c.in-Ok.ensures.ok c.in-Ok.ensures.keeps c.in-Ok.ensures.moments c.in-Ok.ensures.host.rest c.in-Ok.ensures.cause c.in-Ok.ensures.calls)

pub returns-in-Err-clause-settles : goal.returns-in-Err-clause-settles
returns-in-Err-clause-settles g c =
    let on = on_host g.H.Disk in
    let crew : CrewState = state_of c.self.inside in
    let crew' : CrewState = record crew { owed = c.put_back.new.owed.items; unsettled = c.pop_front.new.self.items } in
    let old = (on crew c.args.host.now).host in
    let new = (on crew' c.settle.new.disk).host in
    let index = c.index_of-index.result in
    let placed : slice_get c.self.inside.owed.items index ≡ Some c.id-id.result = ap (λ (ids : List ℕ). slice_get ids index) (sym c.deref.ensures.value) ∙ c.index_of-index.ensures in
    let same : c.remove-owed.result ≡ c.id-id.result = c.remove-owed.ensures.value ∙ read-at c.self.inside.owed.items index c.id-id.result c.remove-owed.result placed in
    let first : c.self.inside.settles.items ≡ c.id-id.result ∷ c.pop_front.new.self.items = c.in-Some.ensures.items ∙ ap (λ (n : ℕ). n ∷ c.pop_front.new.self.items) (sym c.id-id.ensures) in
    let back : c.in-Err.owed ≡ c.id-id.result = c.in-Err.ensures.err.0 ∙ same in
    let held : c.put_back.new.owed.items ≡ c.self.inside.owed.items =
    c.put_back.ensures.items ∙ ap (λ (ids : List ℕ). insert ids index c.in-Err.owed) c.remove-owed.ensures.items ∙ ap (insert (remove c.self.inside.owed.items index) index) back
    ∙ insert-removed c.self.inside.owed.items index c.id-id.result placed in
    subst (λ (s : CrewState). AtEachOver c.args.ledger.now.changes (FailsToSettle c.args.ledger.now c.settle.new.self) (on s c.args.host.now) (on crew' c.settle.new.disk)) c.self.view_is
    (λ place e at. fails-to-settle crew crew' old new place c.args.ledger.now c.settle.new.self c.id-id.result c.remove-owed.result e same c.in-Err.ensures.host.trace c.in-Err.ensures.others
    c.pop_front.new.self.items at first (ap (λ (ids : List ℕ). let s : CrewState = record crew { owed = ids; unsettled = c.pop_front.new.self.items } in s) held)
    c.in-Err.ensures.err.1 c.in-Err.ensures.moments c.in-Err.ensures.host.rest c.in-Err.ensures.cause)
