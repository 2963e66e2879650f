use Rattle.std.proofs.Common.{◌+◌, arith, inl, inr, refl}
use Rattle.fk_log.specs.Printing.{sink_by}
use Rattle.fk_tool.specs.Generated.IsGeneratedText.{none}
use Rattle.fk_tool.proofs.Printed.{generated-step, lines-break, lines-next, lines-none}
use Rattle.fk_tool.proofs.generating.generate.Goals as goal

pub returns-in_default : goal.returns-in_default
returns-in_default g c = let at = sink_by g.K.Sink in inr (inr (refl, record { lines = 0; within = c.requires.least; printed = lines-none (at c.args.out.now) none }))

pub loop-number-init : goal.loop-number-init
loop-number-init g c = let at = sink_by g.K.Sink in lines-none (at c.args.out.now) none

pub returns-in-Err-write_line : goal.returns-in-Err-write_line
returns-in-Err-write_line g c =
    let at = sink_by g.K.Sink in
    let number = c.loop-number.number in
    inr (inl (
      refl,
      record {
        lines = number + 1;
        within = omega arith;
        printed = lines-break number c.as_slice.result.now (at c.args.out.now) (at c.loop-number.out) (at c.write_line.new.out)
            (generated-step number c.in-Ok-generated_line.line c.as_slice.result.now c.as_slice.ensures c.in-Ok-generated_line.ensures) c.loop-number.invariant
            c.in-Err-write_line.ensures;
      },
    ))

pub loop-number-preserved : goal.loop-number-preserved
loop-number-preserved g c =
    let at = sink_by g.K.Sink in
    let number = c.loop-number.number in
    lines-next number c.as_slice.result.now (at c.args.out.now) (at c.loop-number.out) (at c.write_line.new.out)
    (generated-step number c.in-Ok-generated_line.line c.as_slice.result.now c.as_slice.ensures c.in-Ok-generated_line.ensures) c.loop-number.invariant
    c.in_default-write_line.ensures
