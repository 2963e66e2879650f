use Rattle.std.proofs.Common.{arith, ◌∙◌}
use Rattle.fk_base.specs.declared.short_text.TheConstants.{SHORT_TEXT_ROOM}
use Rattle.fk_base.proofs.Numerals.{room_for_digit, decimal-move_digit, decimal_one_digit}
use Rattle.fk_base.proofs.short_text.ShortText.put_decimal.Goals as goal

pub put_byte-requires : goal.put_byte-requires
put_byte-requires c =
    room_for_digit c.loop-rest.rest c.args.value SHORT_TEXT_ROOM _ _ (omega arith) c.loop-rest.invariant.0 c.requires

pub loop-rest-preserved : goal.loop-rest-preserved
loop-rest-preserved c =
    (rw c.put_byte.ensures (decimal-move_digit c.loop-rest.rest c.loop-rest.self (omega arith) (omega arith)) ∙ c.loop-rest.invariant.0, omega arith)

pub put_byte-requires-2 : goal.put_byte-requires-2
put_byte-requires-2 c =
    room_for_digit c.loop-rest.rest c.args.value SHORT_TEXT_ROOM _ _ (omega arith) c.loop-rest.invariant.0 c.requires

pub returns : goal.returns
returns c = c.put_byte-2.ensures ∙ decimal_one_digit c.loop-rest.rest c.loop-rest.self (omega arith) ∙ c.loop-rest.invariant.0
