use Rattle.std.proofs.Common.{◌≡◌, [], ◌∷◌, ◌++◌, length, false, ap, ◌∙◌, arith, rules, is_err}
use Rattle.std.proofs.lemmas.List.{length_push}
use Rattle.fk_memory.specs.HostRecord.{texts}
use Rattle.fk_memory.proofs.ChildEvents.{counts_later}
use Rattle.fk_memory.proofs.DiskCalls.{not_err, texts_after}
use Rattle.fk_memory.proofs.host.MemHost.make.Goals as goal

pub invariant_of-self-then-failed : goal.invariant_of-self-then-failed
invariant_of-self-then-failed c =
    let fine : is_err c.apply.result ≡ false = first_of (search rules, cc, grind arith) in
    let items : c.push_reserved.new.self.items ≡ c.self.inside.calls.items ++ c.args.call ∷ [] = c.push_reserved.ensures.items ∙ ap (λ xs. xs ++ c.args.call ∷ []) c.reserve.ensures.items in
    let done = not_err c.apply.result _ fine c.apply.ensures in
    rw items (
      (λ told. texts_after (texts c.self.inside.first) c.self.inside.calls.items c.args.call c.self.inside.present c.apply.new.self (c.self.invariant.0 told) done),
      omega (arith, length_push c.self.inside.calls.items c.args.call, c.self.invariant.1),
      counts_later c.self.inside.children (length c.self.inside.calls.items) (length (c.self.inside.calls.items ++ c.args.call ∷ [])) (omega (arith, length_push c.self.inside.calls.items c.args.call)) c.self.invariant.2,
    )

pub invariant_of-self-else-failed : goal.invariant_of-self-else-failed
invariant_of-self-else-failed c =
    let fine : is_err c.apply.result ≡ false = first_of (search rules, cc, grind arith) in
    let items : c.push_reserved.new.self.items ≡ c.self.inside.calls.items ++ c.args.call ∷ [] = c.push_reserved.ensures.items ∙ ap (λ xs. xs ++ c.args.call ∷ []) c.reserve.ensures.items in
    let done = not_err c.apply.result _ fine c.apply.ensures in
    rw items (
      (λ told. texts_after (texts c.self.inside.first) c.self.inside.calls.items c.args.call c.self.inside.present c.apply.new.self (c.self.invariant.0 told) done),
      omega (arith, length_push c.self.inside.calls.items c.args.call, c.self.invariant.1),
      counts_later c.self.inside.children (length c.self.inside.calls.items) (length (c.self.inside.calls.items ++ c.args.call ∷ [])) (omega (arith, length_push c.self.inside.calls.items c.args.call)) c.self.invariant.2,
    )
