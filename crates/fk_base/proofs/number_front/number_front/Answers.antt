use Rattle.std.proofs.Common.{◌≡◌, length, arith, sym, ◌∙◌, ap}
use Rattle.std.specs.Fmt.{decimal}
use Rattle.std.proofs.lemmas.Bool.{eqb-true, eqb-false}
use Rattle.fk_base.proofs.NumberFronts.{no_number, grown, stuck, one_digit}
use Rattle.fk_base.proofs.number_front.number_front.Goals as goal

pub returns-then-is_empty-clause-none : goal.returns-then-is_empty-clause-none
returns-then-is_empty-clause-none c =
    let empty : length c.args.text.now ≡ 0 = eqb-true (length c.args.text.now) 0 (sym c.is_empty.ensures ∙ c.if-is_empty.true) in
    no_number _ _ _ c.requires.low c.requires.high (omega arith) (λ some. absurd (omega arith))

pub returns-in_default-clause-none : goal.returns-in_default-clause-none
returns-in_default-clause-none c =
    no_number _ _ _ c.requires.low c.requires.high (omega arith) (λ some. c.in_default.ensures)

pub loop-len-init : goal.loop-len-init
loop-len-init c =
    let some : length c.args.text.now ≡ 0 → ⊥ = eqb-false (length c.args.text.now) 0 (sym c.is_empty.ensures ∙ c.if-is_empty.false) in
    let first = c.in-Some.ensures in (
      omega arith,
      rw first.1 first.0.1,
      (let is = first.1 in let digit = first.0.0 in omega arith),
      one_digit c.args.text.now (omega arith) first.0.0 ∙ ap decimal (sym first.1),
    )

pub returns-in-None-clause-some : goal.returns-in-None-clause-some
returns-in-None-clause-some c =
    stuck _ _ _ _ _ (omega arith) c.loop-len-test.true c.loop-len.invariant.1 c.loop-len.invariant.2 c.loop-len.invariant.3
    (λ g. c.in-None.ensures (g.some, g.digit, g.fits))

pub loop-len-preserved : goal.loop-len-preserved
loop-len-preserved c =
    let next = c.in-Some-longer_number.ensures in (
      omega arith,
      (let is = next.1 in let some = next.0.0 in omega arith),
      rw next.1 next.0.2,
      grown c.args.text.now c.loop-len.len c.loop-len.value c.args.most c.loop-len-test.true c.loop-len.invariant.3 (omega arith)
          (record { some = next.0.0; digit = next.0.1; fits = next.0.2 }) ∙ ap decimal (sym next.1),
    )
