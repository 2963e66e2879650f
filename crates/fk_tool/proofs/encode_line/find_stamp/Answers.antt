use Rattle.std.proofs.Common.{arith}
use Rattle.fk_tool.proofs.Answered.{number-within}
use Rattle.fk_tool.proofs.encode_line.find_stamp.Goals as goal

pub returns-clause-within : goal.returns-clause-within
returns-clause-within c = number-within 999999999999 c.args.part.now c.find_number.result (omega arith) c.find_number.ensures
