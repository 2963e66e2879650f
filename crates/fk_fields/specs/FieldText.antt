-- What the fields may be that a plaintext writes as they are.
use Rattle.std.specs.Prelude.{ℕ, Bool, ◌&&◌, ◌||◌, ◌==◌, nat_le, List, length}
use Rattle.std.specs.List.{list_all}
use Rattle.std.specs.Char.{is_ascii_digit}
use Rattle.fk_base.specs.declared.moment.TheConstants.{LONGEST_TIME}

-- 16 digits
abbrev pub is_rand : List ℕ → Bool
is_rand text = (length text == 16) && list_all is_ascii_digit text

-- a byte from 0x20 to 0x7e
abbrev pub is_printable : ℕ → Bool
is_printable byte = nat_le 0x20 byte && nat_le byte 0x7e

-- 1 to 64 printable bytes
abbrev pub is_user : List ℕ → Bool
is_user name = nat_le 1 (length name) && nat_le (length name) 64 && list_all is_printable name

-- a digit or a dot
abbrev pub is_version_byte : ℕ → Bool
is_version_byte byte = is_ascii_digit byte || (byte == 46)

-- 1 to 16 digits and dots
abbrev pub is_version : List ℕ → Bool
is_version text = nat_le 1 (length text) && nat_le (length text) 16 && list_all is_version_byte text

-- 1 second to a week
abbrev pub is_timeout : ℕ → Bool
is_timeout seconds = nat_le 1 seconds && nat_le seconds LONGEST_TIME
