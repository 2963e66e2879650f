use Rattle.std.proofs.Common.{◌≡◌, ◌==◌, ◌++◌, [], ◌∷◌, false, map, ap, ◌∙◌}
use Rattle.std.proofs.lemmas.List.{map-append}
use Rattle.fk_trace.proofs.Lists.{list_any-map}
use Rattle.fk_timer.specs.Schedule.{Entry, holds}
use Rattle.fk_cycle.specs.Kept.{Register, fresh, is_kept}
use Rattle.fk_cycle.specs.Private.{entry_of}
use Rattle.fk_cycle.proofs.StandsLemmas.{Stands-opened}
use Rattle.fk_cycle.proofs.TimedLemmas.{none-waits}
use Rattle.fk_cycle.proofs.DuesLemmas.{IsTimed-put, HasPassed-none}
use Rattle.fk_cycle.proofs.machine.Machine.opened.Goals as goal

pub put-requires-clause-unknown : goal.put-requires-clause-unknown
put-requires-clause-unknown c =
    let items = c.self.inside.records.kept in
    let dues = c.self.inside.dues in
    let kept : items ≡ c.args.self.now.kept = ap (λ (r : Register). r.kept) c.self.view_is in
    let none : holds c.args.id (map entry_of items) ≡ false =
    list_any-map entry_of (λ (entry : Entry). entry.id == c.args.id) items ∙ ap (is_kept c.args.id) kept ∙ c.requires.unknown in
    none-waits (map entry_of items) (dues.come ++ dues.waiting) c.self.invariant.timed.waits c.args.id none

pub invariant_of-self : goal.invariant_of-self
invariant_of-self c =
    let items = c.self.inside.records.kept in
    let dues = c.self.inside.dues in
    let entry : Entry = record { id = c.args.id; moment = c.args.due } in
    let kept : items ≡ c.args.self.now.kept = ap (λ (r : Register). r.kept) c.self.view_is in
    let none : holds c.args.id (map entry_of items) ≡ false =
    list_any-map entry_of (λ (entry : Entry). entry.id == c.args.id) items ∙ ap (is_kept c.args.id) kept ∙ c.requires.unknown in
    let all : map entry_of c.push.new.self.kept ≡ map entry_of items ++ entry ∷ [] =
    ap (map entry_of) c.push.ensures.kept ∙ map-append entry_of items (fresh c.args.id c.args.due ∷ []) in
    record {
      timed = rw (all, c.put.ensures.come, c.put.ensures.waiting) (IsTimed-put entry (map entry_of items) dues.come dues.waiting none c.self.invariant.timed);
      passed = rw c.put.ensures.passed (HasPassed-none c.put.new.self.at c.push.new.self.kept c.put.new.self.come);
    }

pub returns-clause-stands : goal.returns-clause-stands
returns-clause-stands c =
    λ past ends live stands untried.
    let kept : c.self.inside.records.kept ≡ c.args.self.now.kept = ap (λ (r : Register). r.kept) c.self.view_is in
    rw (c.push.ensures.kept, kept)
    (Stands-opened c.args.self.now.kept past ends live stands c.args.id c.args.due c.requires.unknown untried)
