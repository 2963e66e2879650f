-- The shape that a datagram has before any key is asked for.
use Rattle.std.specs.Prelude.{ℕ, nat_eq, nat_le, Bool, ◌&&◌, not, List, [], ◌∷◌, codes, length, Option}
use Rattle.std.specs.List.{list_all, prefix_len, starts_with}
use Rattle.fk_base.specs.FirstFailed.{first_failed}
use Rattle.fk_text.specs.Found.{is_letter}
use Rattle.fk_packet.specs.declared.packet_shape.PacketShape.{PacketShape}
use Rattle.fk_packet.specs.declared.packet_shape.PacketShape.TheVariants.{Size, Alphabet, Prefix}

-- the ten letters that begin the text of all sealed bytes, since `Salted__` begins those; they are left out of a datagram
abbrev pub prefix : List ℕ
prefix = codes "U2FsdGVkX1"

-- the tests of the shape: the size, that each byte is one of the 64 letters, that the left-out letters do not stand there
abbrev pub shape_tests : List ℕ → List (Bool × PacketShape)
shape_tests datagram =
    (nat_le 140 (length datagram) && nat_le (length datagram) 1500, Size) ∷ (list_all is_letter datagram, Alphabet (prefix_len is_letter datagram))
    ∷ (not (starts_with nat_eq datagram prefix), Prefix) ∷ []

-- the first test that a datagram's shape fails
abbrev pub shape_fault : List ℕ → Option PacketShape
shape_fault datagram = first_failed (shape_tests datagram)
