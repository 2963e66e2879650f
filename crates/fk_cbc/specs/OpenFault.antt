-- What is wrong with bytes that no plaintext seals to, in the order in which it is tested.
use Rattle.std.specs.Prelude.{◌≡◌, ◌≢◌, ℕ, ◌<◌, ◌%◌, ◌⊎◌, List, length, take, drop}
use Rattle.fk_cbc.specs.declared.open_fault.OpenFault.{OpenFault}
use Rattle.fk_cbc.specs.declared.open_fault.OpenFault.TheVariants.{NotSalted, BadLength, BadPadding, NoMemory}
use Rattle.fk_cbc.specs.Chain.{Encrypts}
use Rattle.fk_cbc.specs.KeyDerivation.{cipher_key, initial_vector}
use Rattle.fk_cbc.specs.Padding.{HasPadding}
use Rattle.fk_cbc.specs.Seals.{salt_mark, salt_in}

-- the bytes begin with the mark
abbrev pub HasMark : List ℕ → Type 0
HasMark sealed = take 8 sealed ≡ salt_mark

-- there is no block after the salt, or a part of one
abbrev pub HasBadLength : List ℕ → Type 0
HasBadLength sealed = (length sealed < 32) ⊎ (length sealed % 16 ≢ 0)

-- the blocks after the salt decipher to this text, padding and all
abbrev pub Deciphers : (key sealed text : List ℕ) → Type 0
Deciphers key sealed text =
    Encrypts (cipher_key key (salt_in sealed)) (initial_vector key (salt_in sealed)) text (drop 16 sealed)

-- The first thing that is wrong with sealed bytes: another front than the mark; else a length that no sealed bytes have; else
-- a deciphered text without right padding. Want of memory is no fault of the bytes.
abbrev pub FirstOpenFault : (key sealed : List ℕ) → OpenFault → Type 0
FirstOpenFault key sealed NotSalted = ¬ HasMark sealed
FirstOpenFault key sealed BadLength = HasMark sealed × HasBadLength sealed
FirstOpenFault key sealed BadPadding =
    HasMark sealed × ¬ HasBadLength sealed × ((text : List ℕ) × Deciphers key sealed text × ¬ HasPadding text)
FirstOpenFault key sealed NoMemory = ⊥
