-- The bytes that a text stands for, found from its letters.
use Rattle.std.specs.Prelude.{ℕ, ◌+◌, ◌*◌, ◌/◌, ◌%◌, nat_lt, Bool, ◌&&◌, List, [], ◌∷◌, Option, Some, None, if◌then◌else◌}
use Rattle.std.specs.List.{list_all}
use Rattle.std.specs.Str.{bytes_eq}
use Rattle.fk_text.specs.Text.{text_of}
use Rattle.fk_text.specs.TextFault.{letter_number}

-- the byte is one of the 64 letters
abbrev pub is_letter : ℕ → Bool
is_letter c = nat_lt (letter_number c) 64

-- the bytes that letters stand for, four letters at a time (RFC 4648, section 4)
unfoldable pub bytes_of : List ℕ → List ℕ
bytes_of [] = []
bytes_of (w ∷ []) = []
bytes_of (w ∷ x ∷ []) = (letter_number w * 4 + letter_number x / 16) ∷ []
bytes_of (w ∷ x ∷ y ∷ []) = (letter_number w * 4 + letter_number x / 16) ∷ (letter_number x % 16 * 16 + letter_number y / 4) ∷ []
bytes_of (w ∷ x ∷ y ∷ z ∷ text) =
    (letter_number w * 4 + letter_number x / 16) ∷ (letter_number x % 16 * 16 + letter_number y / 4) ∷ (letter_number y % 4 * 64 + letter_number z)
    ∷ bytes_of text

-- the bytes of letters, if this is their text
unfoldable pub bytes_in : List ℕ → Option (List ℕ)
bytes_in text = if list_all is_letter text && bytes_eq (text_of (bytes_of text)) text then Some (bytes_of text) else None
