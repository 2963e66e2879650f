use Rattle.std.proofs.Common.{length, arith, ap, ◌∙◌, length-append}
use Rattle.std.specs.Fmt.{decimal}
use Rattle.fk_base.proofs.PairTexts.{length-decimal_port, length-slashed}
use Rattle.fk_base.proofs.pair_text.put_pair_before.Goals as goal

pub put_decimal-requires : goal.put_decimal-requires
put_decimal-requires c =
    let digits = length-decimal_port c.from.result (omega arith) in
    let size = ap length c.requires in
    omega arith

pub put_bytes-requires : goal.put_bytes-requires
put_bytes-requires c =
    let digits = length-decimal_port c.from.result (omega arith) in
    let name = ap length c.proto_bytes.ensures ∙ length-slashed c.args.pair.proto in
    let size = ap length c.put_decimal.ensures ∙ length-append (decimal c.from.result) c.args.text.now in
    let none = ap length c.requires in
    omega arith

pub returns-clause-room : goal.returns-clause-room
returns-clause-room c =
    let digits = length-decimal_port c.from.result (omega arith) in
    let name = ap length c.proto_bytes.ensures ∙ length-slashed c.args.pair.proto in
    let size = ap length c.put_decimal.ensures ∙ length-append (decimal c.from.result) c.args.text.now in
    let none = ap length c.requires in
    let all = ap length c.put_bytes.ensures ∙ length-append c.proto_bytes.result.now c.put_decimal.new.self in
    omega arith
