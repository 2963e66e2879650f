use Rattle.std.proofs.Common.{◌≡◌, ◌+◌, ◌*◌, ◌/◌, ◌≤◌, length, refl, arith}
use Rattle.fk_text.proofs.Right.{front_is_text}
use Rattle.fk_text.proofs.Faults.{IsBytes_from}
use Rattle.fk_text.proofs.short.put_into.Goals as goal

pub returns : goal.returns
returns c =
    let bytes = IsBytes_from c.args.bytes.now c.type_inv.bytes in
    let room : (4 * length c.args.bytes.now + 2) / 3 ≤ length c.args.room.now = omega arith in
    let fits = c.in-Ok.ensures.fits room in
    let is : c.in-Ok.len ≡ (4 * length c.args.bytes.now + 2) / 3 = cc fits in (
      omega arith,
      front_is_text c.args.bytes.now _ c.encode_slice.new.output c.in-Ok.len _ bytes is refl c.in-Ok.ensures.written,
    )
