-- What the template of a text is: its words, cut into plain text and names.
use Rattle.std.specs.Prelude.{◌≡◌, ◌≢◌, ℕ, ◌≤◌, Bool, true, false, ◌||◌, ◌&&◌, not, ◌==◌, nat_le, List, [], ◌∷◌, ◌++◌, length, codes, filter, find, Option, Some, None}
use Rattle.std.specs.List.{slice_split, AllPass, AllZip}
use Rattle.std.specs.Option.{option_map}
use Rattle.std.specs.Str.{bytes_eq}
use Rattle.fk_base.specs.Characters.{is_blank}
use Rattle.fk_subst.specs.declared.variable.Var.{Var}
use Rattle.fk_subst.specs.declared.variable.Var.TheVariants.{Ip, PktSrc, Port, Proto, Timeout, Access}
use Rattle.fk_subst.specs.declared.piece.Piece.{Piece}
use Rattle.fk_subst.specs.declared.piece.Piece.TheVariants.{Plain, Name}

-- the words of a text: the runs between its blanks
abbrev pub words_in : List ℕ → List (List ℕ)
words_in text = filter (λ run. not (length run == 0)) (slice_split is_blank text)

-- a letter of a name: from A to Z, or `_`
abbrev pub is_name_letter : ℕ → Bool
is_name_letter byte = (nat_le 65 byte && nat_le byte 90) || byte == 95

-- a byte of plain text: each but `$` (36)
abbrev pub is_plain : ℕ → Bool
is_plain byte = not (byte == 36)

-- the names, without their `$`
abbrev pub names : List (List ℕ × Var)
names =
    (codes "IP", Ip) ∷ (codes "SRC", Ip) ∷ (codes "PKT_SRC", PktSrc) ∷ (codes "PORT", Port) ∷ (codes "PROTO", Proto)
    ∷ (codes "TIMEOUT", Timeout) ∷ (codes "ACCESS", Access) ∷ []

-- what a name stands for, if it is one of these
abbrev pub var_named : List ℕ → Option Var
var_named name = option_map (λ entry. entry.1) (find (λ entry. bytes_eq name entry.0) names)

-- the text is this front, whose bytes pass the test, and a rest whose first byte does not
pub record IsRun (test : ℕ → Bool) (text front rest : List ℕ) : Type 0 where
  pub joined : text ≡ front ++ rest
  pub passes : AllPass test front
  pub ends : (byte : ℕ) (more : List ℕ) → rest ≡ byte ∷ more → test byte ≡ false

-- a text begins with this piece, which is as long as can be: plain text, or a `$` and a name
abbrev pub BeginsWith : Piece → List ℕ → List ℕ → Type 0
BeginsWith (Plain bytes) text rest = (bytes ≢ []) × IsRun is_plain text bytes rest
BeginsWith (Name var) text rest =
    (name : List ℕ) × (more : List ℕ) × (text ≡ 36 ∷ more) × IsRun is_name_letter more name rest × (var_named name ≡ Some var)

-- the pieces, joined, are the word
abbrev pub AreWordPieces : List Piece → List ℕ → Type 0
AreWordPieces [] word = word ≡ []
AreWordPieces (piece ∷ pieces) word = (rest : List ℕ) × BeginsWith piece word rest × AreWordPieces pieces rest

-- the template of a text, which has 1 to 32 words and at most 512 bytes
pub record IsTemplateOf (text : List ℕ) (template : List (List Piece)) : Type 0 where
  pub short : length text ≤ 512
  pub some : template ≢ []
  pub few : length template ≤ 32
  pub words : AllZip AreWordPieces template (words_in text)
