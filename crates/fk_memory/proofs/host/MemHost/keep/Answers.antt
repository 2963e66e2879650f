use Rattle.std.proofs.Common.{◌≡◌, ◌+◌, List, [], ◌∷◌, ◌++◌, length, ap, ◌∙◌, sym, subst, arith}
use Rattle.std.proofs.lemmas.List.{length_push}
use Rattle.fk_trace.specs.Trace.{Event}
use Rattle.fk_memory.specs.declared.host.Call.{Call}
use Rattle.fk_memory.specs.declared.host.Call.TheVariants.{Other}
use Rattle.fk_memory.specs.Children.{Children, children_after}
use Rattle.fk_memory.specs.HostRecord.{CountsWithin, children_of, event_of, texts}
use Rattle.fk_memory.proofs.ChildEvents.{counts_next}
use Rattle.fk_memory.proofs.Moments.{other_passes}
use Rattle.fk_memory.proofs.host.MemHost.keep.Goals as goal

pub invariant_of-self-2 : goal.invariant_of-self-2
invariant_of-self-2 c =
    let event : Event = event_of c.args.event in
    let before : Children = children_of c.self.inside.children in
    let calls : List Call = c.self.inside.calls.items in
    let items : c.push_reserved-2.new.self.items ≡ calls ++ Other ∷ [] = c.push_reserved-2.ensures.items ∙ ap (λ xs. xs ++ Other ∷ []) c.reserve.ensures.items in
    let noted : children_of c.note.new.self ≡ children_after event before = c.note.ensures ∙ ap (λ held. children_after event (record before { running = held })) c.reserve-else-is_err-2.ensures.items in
    let size : length (calls ++ Other ∷ []) ≡ length calls + 1 = length_push calls Other in
    rw items (
      (λ told. c.self.invariant.0 told ∙ sym (other_passes [] (texts c.self.inside.first) calls).reads),
      omega (arith, size, c.self.invariant.1),
      subst (CountsWithin c.note.new.self) (sym size) (counts_next c.self.inside.children c.note.new.self event (length calls) noted c.self.invariant.2),
    )
