use Rattle.std.proofs.Common.{ℕ, Option, length, ◌∙◌, ap, arith}
use Rattle.std.specs.Option.{unwrap_or}
use Rattle.fk_base.specs.Characters.{is_blank}
use Rattle.fk_lines.proofs.Places.{unwrap_or-position, place-within}
use Rattle.fk_lines.proofs.line.name_len.Goals as goal

pub returns-clause-count : goal.returns-clause-count
returns-clause-count c =
    c.unwrap_or.ensures ∙ ap (λ (o : Option ℕ). unwrap_or o (length c.args.line.now)) c.first_blank.ensures ∙ unwrap_or-position is_blank c.args.line.now

pub returns-clause-within : goal.returns-clause-within
returns-clause-within c =
    let count = returns-clause-count c in
    let within = place-within is_blank c.args.line.now in
    omega arith
