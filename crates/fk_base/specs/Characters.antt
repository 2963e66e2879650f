-- The bytes that a line, a word and the space between words are made of.
use Rattle.std.specs.Prelude.{ℕ, Bool, ◌||◌, ◌&&◌, ◌==◌, nat_le}

-- a space or a tab
abbrev pub is_blank : ℕ → Bool
is_blank byte = byte == 32 || byte == 9

-- a byte that a line may have: a tab, or one from 0x20 to 0x7e
abbrev pub is_line_byte : ℕ → Bool
is_line_byte byte = byte == 9 || (nat_le 0x20 byte && nat_le byte 0x7e)

-- a byte that a word may have: one from 0x21 to 0x7e
abbrev pub is_word_byte : ℕ → Bool
is_word_byte byte = nat_le 0x21 byte && nat_le byte 0x7e
