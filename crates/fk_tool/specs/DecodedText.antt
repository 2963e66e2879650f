-- What is printed for a datagram: its fields, or why it is refused.
use Rattle.std.specs.Prelude.{ℕ, List, [], ◌∷◌, ◌++◌, Result, Ok, Err, codes}
use Rattle.std.specs.Fmt.{decimal}
use Rattle.fk_base.specs.declared.keys.Keys.{Keys}
use Rattle.fk_codec.specs.Spells.{front_of}
use Rattle.fk_codec.specs.declared.fault.DecodeFault.{DecodeFault}
use Rattle.fk_codec.specs.declared.fault.DecodeFault.TheVariants as decode
use Rattle.fk_fields.specs.declared.fields.Fields.{Fields}
use Rattle.fk_packet.specs.Opens.{unpacked}
use Rattle.fk_packet.specs.declared.fault.PacketFault.{PacketFault}
use Rattle.fk_packet.specs.declared.fault.PacketFault.TheVariants as packet

-- why a plaintext is none; parts are counted from 1, and want of memory is no such reason
abbrev pub plain_words : DecodeFault → List ℕ
plain_words (decode.Missing part) = codes "missing " ++ decimal part
plain_words (decode.Bad part) = codes "bad " ++ decimal part
plain_words (decode.KindOut type) = codes "kind " ++ decimal type
plain_words decode.DigestLength = codes "digest-length"
plain_words decode.DigestDiffers = codes "digest-differs"
plain_words decode.NoMemory = []

-- why a datagram is refused; places are counted from 0
abbrev pub refusal_words : PacketFault → List ℕ
refusal_words packet.Size = codes "size"
refusal_words (packet.Alphabet place) = codes "alphabet " ++ decimal place
refusal_words packet.Prefix = codes "prefix"
refusal_words packet.Mac = codes "mac"
refusal_words packet.Cipher = codes "cipher"
refusal_words (packet.Plain why) = plain_words why
refusal_words packet.NoMemory = []

-- the line of what a datagram opens to: the plaintext without its digest and the `:` before that, or the refusal
abbrev pub opened_line : Result Fields PacketFault → List ℕ
opened_line (Ok fields) = (codes "ok " ++ front_of fields) ++ 10 ∷ []
opened_line (Err why) = (codes "no " ++ refusal_words why) ++ 10 ∷ []

-- the line of a datagram under the keys
abbrev pub decoded_line : Keys → List ℕ → List ℕ
decoded_line keys datagram = opened_line (unpacked keys datagram)
