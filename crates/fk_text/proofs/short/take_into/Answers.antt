use Rattle.std.proofs.Common.{arith}
use Rattle.fk_text.proofs.Faults.{IsBytes_from}
use Rattle.fk_text.proofs.BytesFound.{engine_found, engine_found_none}
use Rattle.fk_text.proofs.short.take_into.Goals as goal

pub returns-in-Ok : goal.returns-in-Ok
returns-in-Ok c =
    let into = c.in-Ok.ensures.ok in (
      omega arith,
      engine_found c.args.text.now _ (IsBytes_from c.args.text.now c.type_inv.text) c.are_bytes.ensures into.0,
    )

pub returns-in-Err : goal.returns-in-Err
returns-in-Err c = engine_found_none c.args.text.now c.in-Err.field-0 c.in-Err.ensures.err
