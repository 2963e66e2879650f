use Rattle.std.proofs.Common.{◌≡◌, true, sym, ap, ◌∙◌}
use Rattle.std.specs.List.{list_all}
use Rattle.fk_base.specs.Characters.{is_line_byte}
use Rattle.fk_lines.specs.Lines.{Setting}
use Rattle.fk_lines.proofs.ValueBytes.{value_bytes}
use Rattle.fk_lines.proofs.line.read_line.Goals as goal

pub returns-clause-bytes : goal.returns-clause-bytes
returns-clause-bytes c =
    let all : list_all is_line_byte c.args.line.now ≡ true = sym c.are_line_bytes.ensures ∙ c.if-not-are_line_bytes.false in
    ap (λ (s : Setting). list_all is_line_byte s.value) (sym c.parts_of-parts.ensures) ∙ value_bytes c.args.line.now all
