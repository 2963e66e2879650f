-- What is wrong with bytes that are no text, in the order in which it is tested.
use Rattle.std.specs.Prelude.{◌≡◌, ◌≢◌, ℕ, ◌*◌, ◌/◌, ◌%◌, ◌<◌, ◌==◌, List, [], ◌∷◌, ◌++◌, length, take, drop, slice_index, All, Contains}
use Rattle.std.specs.List.{position_or_len}
use Rattle.fk_text.specs.declared.text_fault.TextFault.{TextFault}
use Rattle.fk_text.specs.declared.text_fault.TextFault.TheVariants.{BadByte, BadLength, LooseBits, NoMemory}
use Rattle.fk_text.specs.Text.{alphabet}

-- the byte is one of the 64 letters
abbrev pub IsLetter : ℕ → Type 0
IsLetter c = Contains alphabet c

-- the number of a letter: its place in the alphabet (64 for another byte)
unfoldable pub letter_number : ℕ → ℕ
letter_number c = position_or_len (λ x. x == c) alphabet

-- the six bits of a number below 64, highest first
abbrev pub six_bits : ℕ → List ℕ
six_bits n = n / 32 % 2 ∷ n / 16 % 2 ∷ n / 8 % 2 ∷ n / 4 % 2 ∷ n / 2 % 2 ∷ n % 2 ∷ []

-- the bits of a text's letters, in their order
unfoldable pub letter_bits : List ℕ → List ℕ
letter_bits [] = []
letter_bits (c ∷ text) = six_bits (letter_number c) ++ letter_bits text

-- the bits of a text past its last whole byte
abbrev pub unused_bits : List ℕ → List ℕ
unused_bits text = drop (6 * length text / 8 * 8) (letter_bits text)

-- each unused bit is zero
abbrev pub HasZeroRest : List ℕ → Type 0
HasZeroRest text = All (λ bit. bit ≡ 0) (unused_bits text)

-- The first thing that is wrong with a text: a byte that is no letter, and which is the first such; else a length that
-- no list of bytes has; else bits past the last byte that are not zero. Want of memory is no fault of a text.
abbrev pub FirstTextFault : List ℕ → TextFault → Type 0
FirstTextFault text (BadByte n) = (n < length text) × ¬ IsLetter (slice_index text n) × All IsLetter (take n text)
FirstTextFault text BadLength = All IsLetter text × (length text % 4 ≡ 1)
FirstTextFault text LooseBits = All IsLetter text × (length text % 4 ≢ 1) × ¬ HasZeroRest text
FirstTextFault text NoMemory = ⊥
