use Rattle.std.proofs.Common.{ℕ, ◌+◌, ◌%◌, map, List, ap, ◌∙◌}
use Rattle.fk_tool.specs.Generated.{units}
use Rattle.fk_tool.proofs.Printed.{digits-once}
use Rattle.fk_tool.proofs.generated.generated_rand.Goals as goal

pub returns : goal.returns
returns c = c.from_bytes.ensures ∙ ap (λ (bytes : List ℕ). map (λ byte. 48 + byte % 10) bytes) c.generated_digits.ensures ∙ digits-once c.args.number units
