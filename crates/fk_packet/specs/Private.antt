-- What the contracts of this crate's private functions alone speak of. No public contract cites it, so no caller has to
-- believe it.
use Rattle.fk_cbc.specs.declared.open_fault.OpenFault.{OpenFault}
use Rattle.fk_cbc.specs.declared.open_fault.OpenFault.TheVariants as open_fault
use Rattle.fk_codec.specs.declared.fault.DecodeFault.{DecodeFault}
use Rattle.fk_codec.specs.declared.fault.DecodeFault.TheVariants as decode_fault
use Rattle.fk_packet.specs.declared.fault.PacketFault.{PacketFault}
use Rattle.fk_packet.specs.declared.fault.PacketFault.TheVariants.{Cipher, Plain, NoMemory}

-- the fault of a datagram whose sealed bytes are not opened
abbrev pub open_refusal : OpenFault → PacketFault
open_refusal open_fault.NotSalted = Cipher
open_refusal open_fault.BadLength = Cipher
open_refusal open_fault.BadPadding = Cipher
open_refusal open_fault.NoMemory = NoMemory

-- the fault of a datagram whose plaintext is not decoded
abbrev pub decode_refusal : DecodeFault → PacketFault
decode_refusal (decode_fault.Missing n) = Plain (decode_fault.Missing n)
decode_refusal (decode_fault.Bad n) = Plain (decode_fault.Bad n)
decode_refusal (decode_fault.KindOut type) = Plain (decode_fault.KindOut type)
decode_refusal decode_fault.DigestLength = Plain decode_fault.DigestLength
decode_refusal decode_fault.DigestDiffers = Plain decode_fault.DigestDiffers
decode_refusal decode_fault.NoMemory = NoMemory
