-- What is wrong with a text that has no template, in the order in which it is tested.
use Rattle.std.specs.Prelude.{◌≡◌, ◌≢◌, ◌⊎◌, ℕ, ◌<◌, ◌≤◌, Bool, true, false, ◌&&◌, ◌||◌, ◌==◌, nat_le, not, List, [], ◌∷◌, length, drop, is_none}
use Rattle.std.specs.List.{take_while}
use Rattle.fk_subst.specs.declared.fault.CommandFault.{CommandFault}
use Rattle.fk_subst.specs.declared.fault.CommandFault.TheVariants.{Empty, TooLong, UnknownName, NoMemory}
use Rattle.fk_subst.specs.Template.{words_in, is_name_letter, var_named}

-- more than 512 bytes, or more than 32 words
abbrev pub IsTooLong : List ℕ → Type 0
IsTooLong text = (512 < length text) ⊎ (32 < length (words_in text))

-- the text begins with a `$` (36), and the letters behind it are no name
abbrev pub begins_unknown : List ℕ → Bool
begins_unknown [] = false
begins_unknown (byte ∷ more) = byte == 36 && is_none (var_named (take_while is_name_letter more))

-- the first place at which a `$` stands whose name is none of the names
pub record IsFirstUnknown (text : List ℕ) (place : ℕ) : Type 0 where
  pub unknown : begins_unknown (drop place text) ≡ true
  pub first : (earlier : ℕ) → earlier < place → begins_unknown (drop earlier text) ≡ false

-- The first thing that is wrong with a text: it has no word; else it is too long; else a name that is none. Want of memory
-- is no fault of a text.
abbrev pub FirstCommandFault : List ℕ → CommandFault → Type 0
FirstCommandFault text Empty = words_in text ≡ []
FirstCommandFault text TooLong = (words_in text ≢ []) × IsTooLong text
FirstCommandFault text (UnknownName place) = (words_in text ≢ []) × ¬ IsTooLong text × IsFirstUnknown text place
FirstCommandFault text NoMemory = ⊥

-- nothing is wrong with the text
pub record IsFaultless (text : List ℕ) : Type 0 where
  pub some : words_in text ≢ []
  pub short : length text ≤ 512
  pub few : length (words_in text) ≤ 32
  pub known : (place : ℕ) → begins_unknown (drop place text) ≡ false

-- a `$` stands in the text whose name is none of the names
abbrev pub has_unknown : List ℕ → Bool
has_unknown [] = false
has_unknown (byte ∷ bytes) = begins_unknown (byte ∷ bytes) || has_unknown bytes

-- the text has a template: 1 to 32 words, at most 512 bytes, and known names alone
abbrev pub is_template : List ℕ → Bool
is_template text =
    nat_le 1 (length (words_in text)) && nat_le (length (words_in text)) 32 && nat_le (length text) 512 && not (has_unknown text)
