-- What keys open a datagram to, or the first test that it fails. By `datagrams_are_opened` these are the fields that it packs.
use Rattle.std.specs.Prelude.{ℕ, ◌-◌, Bool, List, ◌++◌, length, take, drop, Option, Some, None, Result, Ok, Err, unwrap_or, if◌then◌else◌}
use Rattle.std.specs.Option.{option_and_then, option_map}
use Rattle.std.specs.Str.{bytes_eq}
use Rattle.fk_base.specs.HashKind.{text_len}
use Rattle.fk_base.specs.declared.keys.Keys.{Keys}
use Rattle.fk_base.specs.declared.hash_kind.HashKind.{HashKind}
use Rattle.fk_text.specs.Found.{bytes_in}
use Rattle.fk_mac.specs.Hmac.{mac_text}
use Rattle.fk_cbc.specs.Opens.{opened, blocks_opened}
use Rattle.fk_fields.specs.declared.fields.Fields.{Fields}
use Rattle.fk_codec.specs.declared.fault.DecodeFault.{DecodeFault}
use Rattle.fk_codec.specs.DecodeFault.{decoded}
use Rattle.fk_packet.specs.declared.fault.PacketFault.{PacketFault}
use Rattle.fk_packet.specs.declared.fault.PacketFault.TheVariants as fault
use Rattle.fk_packet.specs.declared.packet_shape.PacketShape.{PacketShape}
use Rattle.fk_packet.specs.declared.packet_shape.PacketShape.TheVariants as shape
use Rattle.fk_packet.specs.Shape.{prefix, shape_fault}

-- the whole text of the sealed bytes, where the datagram ends in an HMAC of this hash
abbrev pub sealed_text : HashKind → List ℕ → List ℕ
sealed_text kind datagram = prefix ++ take (length datagram - text_len kind) datagram

-- the datagram ends in the HMAC of its whole text under the keys
unfoldable pub is_authentic : Keys → List ℕ → Bool
is_authentic keys datagram =
    bytes_eq (drop (length datagram - text_len keys.kind) datagram) (mac_text keys.kind keys.mac_key (sealed_text keys.kind datagram))

-- the plaintext that a key opens from a text
unfoldable pub plain_in : (key text : List ℕ) → Option (List ℕ)
plain_in key text = option_and_then (opened key) (bytes_in text)

-- what reading a plaintext answers for its datagram
abbrev pub read_plain : Result Fields DecodeFault → Result Fields PacketFault
read_plain (Ok fields) = Ok fields
read_plain (Err why) = Err (fault.Plain why)

-- the fields of a plaintext, where there is one
abbrev pub fields_opened : Option (List ℕ) → Result Fields PacketFault
fields_opened None = Err fault.Cipher
fields_opened (Some plain) = read_plain (decoded plain)

-- what is opened under one pair of keys: the tests of the HMAC, of the sealed bytes and of the plaintext, in this order
unfoldable pub opened_under : Keys → List ℕ → Result Fields PacketFault
opened_under keys datagram =
    if is_authentic keys datagram then fields_opened (plain_in keys.key (sealed_text keys.kind datagram)) else Err fault.Mac

-- the fault of a shape
abbrev pub shape_refusal : PacketShape → PacketFault
shape_refusal shape.Size = fault.Size
shape_refusal (shape.Alphabet place) = fault.Alphabet place
shape_refusal shape.Prefix = fault.Prefix

-- the fault of the shape, where there is one, before any other answer
abbrev pub shape_first : Option PacketShape → Result Fields PacketFault → Result Fields PacketFault
shape_first None answer = answer
shape_first (Some why) answer = Err (shape_refusal why)

-- what a datagram opens to: the tests of its shape come before any key
abbrev pub unpacked : Keys → List ℕ → Result Fields PacketFault
unpacked keys datagram = shape_first (shape_fault datagram) (opened_under keys datagram)

-- how many blocks are deciphered to open a text
unfoldable pub blocks_in : List ℕ → ℕ
blocks_in text = unwrap_or (option_map blocks_opened (bytes_in text)) 0

-- how many blocks are deciphered to open a datagram under the keys: none where its HMAC is not right
abbrev pub blocks_under : Keys → List ℕ → ℕ
blocks_under keys datagram = if is_authentic keys datagram then blocks_in (sealed_text keys.kind datagram) else 0
