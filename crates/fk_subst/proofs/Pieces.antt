-- The pieces of a word: a word has one list of them, and each `$` of it begins a name.
use Rattle.std.proofs.Common.{zero, suc, ◌≡◌, ◌≢◌, ℕ, ◌+◌, ◌<◌, ◌≤◌, Bool, true, false, not, ◌&&◌, List, [], ◌∷◌, ◌++◌, length, take, drop, Option, Some, None, refl, sym, ◌∙◌, ap, subst, inl, inr, arith, length-append}
use Rattle.std.specs.Prelude.{is_none, ◌==◌}
use Rattle.std.specs.List.{prefix_len, take_while, AllPass, AllByRecursion, AllZip}
use Rattle.std.proofs.lemmas.List.Elements.{All-weaker, All-head, All-tail}
use Rattle.std.proofs.lemmas.Bool.{cases_Bool, false≢true, and_left, ne_eqb}
use Rattle.std.proofs.lemmas.Bool.Decides.{nat_tests}
use Rattle.fk_subst.specs.declared.variable.Var.{Var}
use Rattle.fk_subst.specs.declared.piece.Piece.{Piece}
use Rattle.fk_subst.specs.declared.piece.Piece.TheVariants.{Plain, Name}
use Rattle.fk_subst.specs.Template.{is_name_letter, is_plain, var_named, IsRun, BeginsWith, AreWordPieces}
use Rattle.fk_subst.specs.CommandFault.{begins_unknown}
use Rattle.fk_subst.proofs.Known.{IsKnown, known_behind}
use Rattle.fk_subst.proofs.Runs.{IsRun-front, same_front}

-- plain text that is not empty has a first byte, which is no `$`
pub first_plain : (bytes rest : List ℕ) → bytes ≢ [] → AllPass is_plain bytes →
    (byte : ℕ) × (more : List ℕ) × (bytes ≡ byte ∷ more) × (is_plain byte ≡ true)
first_plain [] rest some plain = absurd (some refl)
first_plain (byte ∷ more) rest some plain = (byte, more, refl, All-head (λ b. is_plain b ≡ true) byte more plain)

pub some_length : (bytes : List ℕ) → bytes ≢ [] → 0 < length bytes
some_length [] some = absurd (some refl)
some_length (byte ∷ more) some = omega arith

-- a piece takes at least one byte
pub BeginsWith-shorter : (piece : Piece) (text rest : List ℕ) → BeginsWith piece text rest → length rest < length text
BeginsWith-shorter (Plain bytes) text rest begins =
    let some = some_length bytes begins.0 in
    let whole = ap (λ (l : List ℕ). length l) begins.1.joined in
    omega (arith, length-append bytes rest, whole)
BeginsWith-shorter (Name var) text rest begins =
    let whole = ap (λ (l : List ℕ). length l) begins.2 in
    let more = ap (λ (l : List ℕ). length l) begins.3.joined in
    omega (arith, length-append begins.0 rest, whole, more)

no_dollar : (byte : ℕ) → is_plain byte ≡ true → (byte == 36) ≡ false
no_dollar byte plain = grind (arith, nat_tests)

letter_is_plain : (byte : ℕ) → is_name_letter byte ≡ true → is_plain byte ≡ true
letter_is_plain byte letter = grind (arith, nat_tests)

-- plain text has no `$`
known_plain : (bytes rest : List ℕ) → AllPass is_plain bytes → IsKnown rest → IsKnown (bytes ++ rest)
known_plain [] rest plain known = known
known_plain (byte ∷ more) rest plain known = (
  and_left (byte == 36) (is_none (var_named (take_while is_name_letter (more ++ rest)))) (no_dollar byte (All-head (λ b. is_plain b ≡ true) byte more plain)),
  known_plain more rest (All-tail (λ b. is_plain b ≡ true) byte more plain) known,
)

-- each `$` of a word that pieces spell begins a name
pub AreWordPieces-known : (pieces : List Piece) (word : List ℕ) → AreWordPieces pieces word → IsKnown word
AreWordPieces-known [] word spells = rw spells tt
AreWordPieces-known (Plain bytes ∷ pieces) word spells =
    let begins = spells.1 in
    rw begins.1.joined (known_plain bytes spells.0 begins.1.passes (AreWordPieces-known pieces spells.0 spells.2))
AreWordPieces-known (Name var ∷ pieces) word spells =
    let begins = spells.1 in
    let name = begins.0 in let more = begins.1 in
    let letters : AllPass is_plain name = All-weaker (λ b. is_name_letter b ≡ true) (λ b. is_plain b ≡ true) letter_is_plain name begins.3.passes in
    let behind : IsKnown more = rw begins.3.joined (known_plain name spells.0 letters (AreWordPieces-known pieces spells.0 spells.2)) in
    let known : is_none (var_named (take_while is_name_letter more)) ≡ false =
    rw (IsRun-front is_name_letter more name spells.0 begins.3, begins.4) refl in
    rw begins.2 (known, behind)

-- a text begins with one piece
plain_or_name : {P : Type 0} (bytes text rest other : List ℕ) (var : Var) → BeginsWith (Plain bytes) text rest → BeginsWith (Name var) text other → P
plain_or_name bytes text rest other var plain name =
    let first = first_plain bytes rest plain.0 plain.1.passes in
    let head : first.0 ∷ (first.1 ++ rest) ≡ 36 ∷ name.1 = sym (ap (λ (l : List ℕ). l ++ rest) first.2) ∙ sym plain.1.joined ∙ name.2 in
    let dollar : first.0 ≡ 36 = cc in
    absurd (let passes = rw dollar at first.3 in cc)

pub one_piece : (piece other : Piece) (text rest left : List ℕ) → BeginsWith piece text rest → BeginsWith other text left →
    (piece ≡ other) × (rest ≡ left)
one_piece (Plain bytes) (Plain others) text rest left begins too =
    let same = same_front is_plain text bytes rest others left begins.1 too.1 in
    (ap (λ (l : List ℕ). Plain l) same.0, same.1)
one_piece (Plain bytes) (Name var) text rest left begins too = plain_or_name bytes text rest left var begins too
one_piece (Name var) (Plain bytes) text rest left begins too = plain_or_name bytes text left rest var too begins
one_piece (Name var) (Name another) text rest left begins too =
    let more : begins.1 ≡ too.1 = (let e : 36 ∷ begins.1 ≡ 36 ∷ too.1 = sym begins.2 ∙ too.2 in cc) in
    let run : IsRun is_name_letter too.1 begins.0 rest = subst (λ (l : List ℕ). IsRun is_name_letter l begins.0 rest) more begins.3 in
    let same = same_front is_name_letter too.1 begins.0 rest too.0 left run too.3 in
    let named : Some var ≡ Some another = sym begins.4 ∙ ap var_named same.0 ∙ too.4 in
    ((let e : var ≡ another = cc in ap (λ (v : Var). Name v) e), same.1)

pub one_spelling : (pieces others : List Piece) (word : List ℕ) → AreWordPieces pieces word → AreWordPieces others word → pieces ≡ others
one_spelling [] [] word spells too = refl
one_spelling [] (piece ∷ others) word spells too =
    absurd (let shorter = BeginsWith-shorter piece word too.0 too.1 in let none = ap (λ (l : List ℕ). length l) spells in omega (arith, shorter, none))
one_spelling (piece ∷ pieces) [] word spells too =
    absurd (let shorter = BeginsWith-shorter piece word spells.0 spells.1 in let none = ap (λ (l : List ℕ). length l) too in omega (arith, shorter, none))
one_spelling (piece ∷ pieces) (other ∷ others) word spells too =
    let same = one_piece piece other word spells.0 too.0 spells.1 too.1 in
    let left : AreWordPieces pieces too.0 = subst (λ (l : List ℕ). AreWordPieces pieces l) same.1 spells.2 in
    let rest = one_spelling pieces others too.0 left too.2 in
    (let head = same.0 in cc)

-- what stands behind the first piece of such a word
pub known_behind_piece : (piece : Piece) (text rest : List ℕ) → BeginsWith piece text rest → IsKnown text → IsKnown rest
known_behind_piece (Plain bytes) text rest begins known = known_behind bytes rest (rw begins.1.joined at known)
known_behind_piece (Name var) text rest begins known =
    known_behind begins.0 rest (rw begins.3.joined at (let all : IsKnown (36 ∷ begins.1) = rw begins.2 at known in all.1))

-- so the words of a text have one template
pub one_template : (template other : List (List Piece)) (words : List (List ℕ)) → AllZip AreWordPieces template words → AllZip AreWordPieces other words → template ≡ other
one_template [] [] [] all too = refl
one_template [] (o ∷ other) [] all too = absurd too
one_template (t ∷ template) other [] all too = absurd all
one_template [] other (word ∷ words) all too = absurd all
one_template (t ∷ template) [] (word ∷ words) all too = absurd too
one_template (t ∷ template) (o ∷ other) (word ∷ words) all too =
    let head = one_spelling t o word all.0 too.0 in
    let rest = one_template template other words all.1 too.1 in
    cc

-- each `$` of the words begins a name
pub words_known : (template : List (List Piece)) (words : List (List ℕ)) → AllZip AreWordPieces template words → AllByRecursion IsKnown words
words_known [] [] all = tt
words_known [] (word ∷ words) all = absurd all
words_known (pieces ∷ template) [] all = absurd all
words_known (pieces ∷ template) (word ∷ words) all = (AreWordPieces-known pieces word all.0, words_known template words all.1)
