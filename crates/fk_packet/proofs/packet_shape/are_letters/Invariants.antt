use Rattle.std.proofs.Common.{◌≡◌, take}
use Rattle.std.specs.List.{list_all}
use Rattle.fk_text.specs.Found.{is_letter}
use Rattle.fk_packet.proofs.packet_shape.are_letters.Given as goal

abbrev pub invariant-loop-byte : goal.invariant-loop-byte
invariant-loop-byte l = l.letters ≡ list_all is_letter (take l.byte-index l.bytes)
