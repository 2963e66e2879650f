use Rattle.std.proofs.Common.{◌≡◌, sym, refl, ◌∙◌}
use Rattle.fk_text.proofs.Symbols.{text_of-encode_of}
use Rattle.fk_text.proofs.Faults.{not_both}
use Rattle.fk_text.proofs.text.take_right_text.Goals as goal

pub unreachable-requires : goal.unreachable-requires
unreachable-requires c =
    let is = c.requires in
    let ok = (c.decode.ensures.strict (refl, refl) is.0 is.1).1 (is.2 ∙ text_of-encode_of is.0 is.1) in
    let err = rw c.in-Err-DecodeError.field-0-is at c.in-Err-DecodeError.ensures.err in
    absurd (not_both _ _ _ ok err)

pub returns-in-Ok : goal.returns-in-Ok
returns-in-Ok c =
    let bytes = c.in-Ok.ensures.bytes in
    let exact = c.in-Ok.ensures.exact (refl, refl) in
    let same : c.into.result ≡ c.in-Ok.bytes.items = c.into.ensures in
    rw same (bytes, exact ∙ sym (text_of-encode_of c.in-Ok.bytes.items bytes))
