use Rattle.std.proofs.Common.{◌≡◌, ◌+◌, true, false, List, ℕ, length, ap, sym, ◌∙◌, arith}
use Rattle.std.proofs.lemmas.Bool.{eqb-true}
use Rattle.fk_lines.specs.Lines.{bare_line, is_skipped, lines_from, reading_of}
use Rattle.fk_lines.proofs.RawLines.{lines_from-end, lines_from-kept, lines_from-skipped}
use Rattle.fk_lines.proofs.lines.next_kept.Goals as goal

pub returns-then-not-is_skipped-clause-line : goal.returns-then-not-is_skipped-clause-line
returns-then-not-is_skipped-clause-line c =
    let line = c.bare_line-line.ensures in
    let kept : is_skipped (bare_line c.cut_line.result.0.now) ≡ false = ap is_skipped (sym line) ∙ sym c.is_skipped.ensures ∙ c.if-not-is_skipped.true in
    c.loop-left.invariant.same ∙ ap (lines_from (c.loop-left.at + 1)) c.cut_line.ensures.lines ∙ rw line (lines_from-kept _ _ _ kept)

pub loop-left-preserved : goal.loop-left-preserved
loop-left-preserved c =
    let line = c.bare_line-line.ensures in
    let skipped : is_skipped (bare_line c.cut_line.result.0.now) ≡ true = ap is_skipped (sym line) ∙ sym c.is_skipped.ensures ∙ c.if-not-is_skipped.false in
    record {
      within = (let shorter = c.cut_line.ensures.shorter in let fits = c.loop-left.invariant.within in omega arith);
      same = c.loop-left.invariant.same ∙ ap (lines_from (c.loop-left.at + 1)) c.cut_line.ensures.lines ∙ lines_from-skipped _ _ _ skipped;
    }

pub returns-clause-end : goal.returns-clause-end
returns-clause-end c =
    c.loop-left.invariant.same
    ∙ lines_from-end (c.loop-left.at + 1) c.loop-left.left.now (eqb-true (length c.loop-left.left.now) 0 (sym c.is_empty.ensures ∙ c.loop-left-test.false))
