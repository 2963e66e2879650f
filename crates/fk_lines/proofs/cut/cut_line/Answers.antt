use Rattle.std.proofs.Common.{◌≡◌, ◌+◌, ◌-◌, ◌∷◌, [], ap, sym, ◌∙◌, arith, take, drop, length}
use Rattle.std.proofs.Math.Seq.{drop-length}
use Rattle.std.proofs.lemmas.List.{take_rest}
use Rattle.fk_lines.specs.Lines.{raw_lines}
use Rattle.fk_lines.proofs.RawLines.{raw_lines-first, raw_lines-whole}
use Rattle.fk_lines.proofs.cut.cut_line.Goals as goal

pub returns-in-Some-clause-lines : goal.returns-in-Some-clause-lines
returns-in-Some-clause-lines c =
    raw_lines-first c.args.text.now c.in-Some.at (sym c.in-Some.ensures.place)
    ∙ ap (λ t. take c.in-Some.at c.args.text.now ∷ raw_lines t) (sym (take_rest c.args.text.now (c.in-Some.at + 1)))

pub returns-in-None-clause-lines : goal.returns-in-None-clause-lines
returns-in-None-clause-lines c =
    raw_lines-whole c.args.text.now c.requires (sym c.in-None.ensures.place)
    ∙ ap (λ t. c.args.text.now ∷ raw_lines t)
    (sym (take_rest c.args.text.now (length c.args.text.now) ∙ drop-length c.args.text.now))
