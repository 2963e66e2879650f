use Rattle.std.proofs.Common.{rules, not, ◌==◌}
use Rattle.std.proofs.lemmas.Fn.{filter_same}
use Rattle.fk_memory.specs.declared.children.HeldChild.{HeldChild}
use Rattle.fk_memory.proofs.children.MemChildren.forget.Goals as goal

pub returns-clause-running : goal.returns-clause-running
returns-clause-running c =
    filter_same _ (λ (held : HeldChild). not (held.number == c.args.number)) _ (λ x b f' k. search rules) _ _ c.retain.ensures.filtered
