use Rattle.std.proofs.Common.{rules}
use Rattle.fk_input.proofs.Calls.{within-placed, says-placed, takes-last}
use Rattle.fk_input.proofs.line_reader.LineReader.next.Goals as goal

pub returns-in-Some-clause-says : goal.returns-in-Some-clause-says
returns-in-Some-clause-says g c =
    let used = rw c.in-Ok-Some.field-0-is at c.in-Ok-Some.ensures.byte in
    says-placed _ _ _ _ _ _ _ _ _ (search rules) c.loop-b.invariant.so_far used.0 used.1 c.in-Some.ensures.places

pub loop-b-preserved : goal.loop-b-preserved
loop-b-preserved g c =
    let used = rw c.in-Ok-Some.field-0-is at c.in-Ok-Some.ensures.byte in
    record {
      so_far = within-placed _ _ c.next_byte.new.self _ c.in-Ok-Some.b _ _ _ c.loop-b.invariant.so_far used.0 used.1 c.in_default.ensures.places;
      count = search rules;
    }

pub returns-in-Ok-None-2-clause-says : goal.returns-in-Ok-None-2-clause-says
returns-in-Ok-None-2-clause-says g c =
    takes-last _ _ _ _ _ _ (search rules) c.loop-b.invariant.so_far (search rules) (search rules) (search rules) (search rules) (search rules) (search rules)
