use Rattle.std.proofs.Common.{◌≡◌, ◌<◌, ◌≤◌, true, List, length, get_or, subst}
use Rattle.std.specs.Prelude.{IfSome, IfNone}
use Rattle.fk_timer.specs.Schedule.{Entry}
use Rattle.fk_cycle.specs.Private.{Awaited, HasPassed, IsEntryOf, IsFirstWaiting, is_ready_at}
use Rattle.fk_cycle.proofs.DuesLemmas.{first-found}
use Rattle.fk_cycle.proofs.dues.Dues.pass.Goals as goal

pub returns-clause-first : goal.returns-clause-first
returns-clause-first c =
    let machine = c.args.records.now.kept in
    let at = c.self.inside.at in
    let place = c.first_from-place.result in
    let first = c.id_at.result in
    let found = first-found at machine c.self.inside.come.items place first c.self.invariant.order
    (subst (λ (entries : List Entry). HasPassed at machine place entries) c.deref.ensures.value c.first_from-place.ensures.passed)
    (subst (λ (entries : List Entry). place < length entries → (other : Entry) → is_ready_at at machine (get_or entries place other).id ≡ true) c.deref.ensures.value c.first_from-place.ensures.ready)
    (subst (λ (entries : List Entry). IfSome first (λ id. IsEntryOf id place entries)) c.deref-2.ensures.value c.id_at.ensures.some)
    (subst (λ (entries : List Entry). IfNone first (length entries ≤ place)) c.deref-2.ensures.value c.id_at.ensures.none) in
    subst (λ (dues : Awaited). IsFirstWaiting dues.at machine dues.come first) c.self.view_is found
