use Rattle.std.proofs.Common.{ℕ, Option, length, ◌∙◌, ap, arith}
use Rattle.std.specs.Option.{unwrap_or}
use Rattle.fk_lines.specs.Lines.{is_no_blank}
use Rattle.fk_lines.proofs.Places.{unwrap_or-position, place-within}
use Rattle.fk_lines.proofs.trim.blanks_ahead.Goals as goal

pub returns-clause-count : goal.returns-clause-count
returns-clause-count c =
    c.unwrap_or.ensures ∙ ap (λ (o : Option ℕ). unwrap_or o (length c.args.text.now)) c.first_no_blank.ensures ∙ unwrap_or-position is_no_blank c.args.text.now

pub returns-clause-within : goal.returns-clause-within
returns-clause-within c =
    let count = returns-clause-count c in
    let within = place-within is_no_blank c.args.text.now in
    omega arith
