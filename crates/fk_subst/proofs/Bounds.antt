-- Filled templates keep the bounds of a command's words.
use Rattle.std.proofs.Common.{zero, suc, ◌≡◌, ◌≢◌, ℕ, ◌+◌, ◌*◌, ◌^◌, ◌<◌, ◌≤◌, Bool, true, false, not, ◌&&◌, List, [], ◌∷◌, ◌++◌, length, map, Option, Some, None, refl, sym, ◌∙◌, ap, subst, inl, inr, ⊎_elim, arith, length-append}
use Rattle.std.specs.Prelude.{◌==◌, IsTrue, Contains, ◌⊎◌}
use Rattle.std.specs.List.{All, AllPass, AllByRecursion, AllZip, concat, filter, flat_map, list_all, onto_first, slice_split}
use Rattle.std.proofs.lemmas.List.{length-map}
use Rattle.std.proofs.lemmas.List.Sums.{AllPass-from_list_all}
use Rattle.std.proofs.lemmas.List.Elements.{All-from_recursion, recursion_from_All, All-append, All-cons, All-nil, All-head, All-tail, All-weaker, All-contains_itself, Contains-append_left, Contains-append_right}
use Rattle.std.proofs.lemmas.Bool.{cases_Bool, ne_eqb}
use Rattle.std.proofs.lemmas.Bool.Decides.{nat_tests}
use Rattle.fk_base.specs.Characters.{is_blank, is_line_byte, is_word_byte}
use Rattle.fk_base.specs.CommandWords.{AreCommandWords}
use Rattle.fk_base.specs.declared.grant.Grant.{Grant}
use Rattle.fk_subst.specs.declared.variable.Var.{Var}
use Rattle.fk_subst.specs.declared.piece.Piece.{Piece}
use Rattle.fk_subst.specs.declared.piece.Piece.TheVariants.{Plain, Name}
use Rattle.fk_subst.specs.Template.{words_in, BeginsWith, IsTemplateOf, AreWordPieces}
use Rattle.fk_subst.specs.Fill.{filled, is_value_byte, piece_text, value_text, IsGrant}
use Rattle.fk_subst.proofs.Known.{slice_split_some}
use Rattle.fk_subst.proofs.Pieces.{some_length}
use Rattle.fk_subst.proofs.Templates.{is_word, same_count}
use Rattle.fk_subst.proofs.Values.{most, value_by_name, IsValue-value_text}

value_is_word_byte : (byte : ℕ) → is_value_byte byte ≡ true → is_word_byte byte ≡ true
value_is_word_byte byte value = grind (arith, nat_tests)

plain_is_word_byte : (byte : ℕ) → is_line_byte byte ≡ true → is_blank byte ≡ false → is_word_byte byte ≡ true
plain_is_word_byte byte line plain = grind (arith, nat_tests)

-- a piece is filled with at most 160/7 times its length
short_piece : (grant : Grant) → IsGrant grant → (piece : Piece) (text rest : List ℕ) → BeginsWith piece text rest →
    7 * length (piece_text grant piece) + 160 * length rest ≤ 160 * length text
short_piece grant is (Plain bytes) text rest begins =
    let whole = ap (λ (l : List ℕ). length l) begins.1.joined in
    omega (arith, length-append bytes rest, whole)
short_piece grant is (Name var) text rest begins =
    let whole = ap (λ (l : List ℕ). length l) begins.2 in
    let more = ap (λ (l : List ℕ). length l) begins.3.joined in
    let bound = value_by_name begins.0 var begins.4 in
    let short = (IsValue-value_text grant is var).short in
    omega (arith, length-append begins.0 rest, whole, more, bound, short)

some_piece : (grant : Grant) → IsGrant grant → (piece : Piece) (text rest : List ℕ) → BeginsWith piece text rest → 1 ≤ length (piece_text grant piece)
some_piece grant is (Plain bytes) text rest begins = some_length bytes begins.0
some_piece grant is (Name var) text rest begins = (IsValue-value_text grant is var).some

-- so is a word
short_word : (grant : Grant) → IsGrant grant → (pieces : List Piece) (word : List ℕ) → AreWordPieces pieces word →
    7 * length (flat_map (piece_text grant) pieces) ≤ 160 * length word
short_word grant is [] word spells = omega arith
short_word grant is (piece ∷ pieces) word spells =
    let first = short_piece grant is piece word spells.0 spells.1 in
    let others = short_word grant is pieces spells.0 spells.2 in
    omega (arith, length-append (piece_text grant piece) (flat_map (piece_text grant) pieces), first, others)

some_word : (grant : Grant) → IsGrant grant → (pieces : List Piece) (word : List ℕ) → AreWordPieces pieces word → 1 ≤ length word →
    1 ≤ length (flat_map (piece_text grant) pieces)
some_word grant is [] word spells some = absurd (let none = ap (λ (l : List ℕ). length l) spells in omega (arith, none, some))
some_word grant is (piece ∷ pieces) word spells some =
    let first = some_piece grant is piece word spells.0 spells.1 in
    omega (arith, length-append (piece_text grant piece) (flat_map (piece_text grant) pieces), first)

-- and a template
short_words : (grant : Grant) → IsGrant grant → (template : List (List Piece)) (words : List (List ℕ)) → AllZip AreWordPieces template words →
    7 * length (concat (filled template grant)) ≤ 160 * length (concat words)
short_words grant is [] [] all = omega arith
short_words grant is [] (word ∷ words) all = absurd all
short_words grant is (pieces ∷ template) [] all = absurd all
short_words grant is (pieces ∷ template) (word ∷ words) all =
    let first = short_word grant is pieces word all.0 in
    let others = short_words grant is template words all.1 in
    omega (arith, length-append (flat_map (piece_text grant) pieces) (concat (filled template grant)), length-append word (concat words), first, others)

-- the words of a text are no longer than the text
length-onto_first : (byte : ℕ) (runs : List (List ℕ)) → length (concat (onto_first byte runs)) ≡ 1 + length (concat runs)
length-onto_first byte [] = omega arith
length-onto_first byte (run ∷ runs) = omega (arith, length-append (byte ∷ run) (concat runs), length-append run (concat runs))

length-runs : (text : List ℕ) → length (concat (slice_split is_blank text)) ≤ length text
length-runs [] = omega arith
length-runs (byte ∷ more) =
    let others = length-runs more in
    elim (cases_Bool (is_blank byte)) [
      | inl blank ↦ rw blank (omega (arith, others))
      | inr plain ↦ rw (plain, length-onto_first byte (slice_split is_blank more)) (omega (arith, others))
    ]

length-filter_words : (runs : List (List ℕ)) → length (concat (filter is_word runs)) ≤ length (concat runs)
length-filter_words [] = omega arith
length-filter_words (run ∷ runs) =
    let others = length-filter_words runs in
    elim (cases_Bool (is_word run)) [
      | inl word ↦ rw word (omega (arith, length-append run (concat (filter is_word runs)), length-append run (concat runs), others))
      | inr empty ↦ rw empty (omega (arith, length-append run (concat runs), others))
    ]

-- the bytes of a run are bytes of the text, and no blanks
abbrev IsRunByte : ℕ → Type 0
IsRunByte byte = is_word_byte byte ≡ true

run_bytes : (text : List ℕ) → AllByRecursion (λ byte. is_line_byte byte ≡ true) text → AllByRecursion (AllByRecursion IsRunByte) (slice_split is_blank text)
run_bytes [] all = (tt, tt)
run_bytes (byte ∷ more) all =
    let others = run_bytes more all.1 in
    elim (cases_Bool (is_blank byte)) [
      | inl blank ↦ rw blank (tt, others)
      | inr plain ↦
          let rest = slice_split_some is_blank more in
          let split = rw rest.2 at others in
          rw (plain, rest.2) ((plain_is_word_byte byte all.0 plain, split.0), split.1)
    ]

-- what holds of each run holds of each word, and no word is empty
word_runs : (P : List ℕ → Type 0) (runs : List (List ℕ)) → AllByRecursion P runs → AllByRecursion (λ word. P word × (1 ≤ length word)) (filter is_word runs)
word_runs P [] all = tt
word_runs P ([] ∷ runs) all = word_runs P runs all.1
word_runs P ((byte ∷ more) ∷ runs) all =
    let some : (length (byte ∷ more) == 0) ≡ false = ne_eqb (length (byte ∷ more)) 0 (λ none. absurd (omega arith)) in
    rw some ((all.0, omega arith), word_runs P runs all.1)

-- a front and a rest of such bytes
front_bytes : (front rest : List ℕ) → AllByRecursion IsRunByte (front ++ rest) → AllByRecursion IsRunByte front × AllByRecursion IsRunByte rest
front_bytes [] rest all = (tt, all)
front_bytes (byte ∷ front) rest all = let others = front_bytes front rest all.1 in ((all.0, others.0), others.1)

filled_bytes : (grant : Grant) → IsGrant grant → (pieces : List Piece) (word : List ℕ) → AreWordPieces pieces word → AllByRecursion IsRunByte word →
    AllPass is_word_byte (flat_map (piece_text grant) pieces)
filled_bytes grant is [] word spells all = All-nil IsRunByte
filled_bytes grant is (Plain bytes ∷ pieces) word spells all =
    let split = front_bytes bytes spells.0 (rw spells.1.1.joined at all) in
    All-append IsRunByte bytes (flat_map (piece_text grant) pieces) (All-from_recursion IsRunByte bytes split.0)
    (filled_bytes grant is pieces spells.0 spells.2 split.1)
filled_bytes grant is (Name var ∷ pieces) word spells all =
    let begins = spells.1 in
    let behind : AllByRecursion IsRunByte (36 ∷ begins.1) = rw begins.2 at all in
    let split = front_bytes begins.0 spells.0 (rw begins.3.joined at behind.1) in
    let value = All-weaker (λ b. is_value_byte b ≡ true) IsRunByte value_is_word_byte (value_text grant var) (IsValue-value_text grant is var).bytes in
    All-append IsRunByte (value_text grant var) (flat_map (piece_text grant) pieces) value (filled_bytes grant is pieces spells.0 spells.2 split.1)

filled_words : (grant : Grant) → IsGrant grant → (template : List (List Piece)) (words : List (List ℕ)) → AllZip AreWordPieces template words →
    AllByRecursion (λ word. AllByRecursion IsRunByte word × (1 ≤ length word)) words →
    AllByRecursion (λ word. (word ≢ []) × AllPass is_word_byte word) (filled template grant)
filled_words grant is [] [] all good = tt
filled_words grant is [] (word ∷ words) all good = absurd all
filled_words grant is (pieces ∷ template) [] all good = absurd all
filled_words grant is (pieces ∷ template) (word ∷ words) all good =
    let some = some_word grant is pieces word all.0 good.0.1 in (
      (λ none. absurd (let size = ap (λ (l : List ℕ). length l) none in omega (arith, size, some)), filled_bytes grant is pieces word all.0 good.0.0),
      filled_words grant is template words all.1 good.1,
    )

pub AreCommandWords-filled : (grant : Grant) → IsGrant grant → (text : List ℕ) (template : List (List Piece)) → IsTrue (list_all is_line_byte text) →
    IsTemplateOf text template → AreCommandWords (filled template grant)
AreCommandWords-filled grant is text template bytes split =
    let count = length-map template (flat_map (piece_text grant)) in
    let words = filled_words grant is template (words_in text) split.words
    (word_runs (AllByRecursion IsRunByte) (slice_split is_blank text) (run_bytes text (recursion_from_All (λ byte. is_line_byte byte ≡ true) text (AllPass-from_list_all is_line_byte text bytes)))) in
    let all = All-from_recursion (λ word. (word ≢ []) × AllPass is_word_byte word) (filled template grant) words in
    let size = short_words grant is template (words_in text) split.words in
    let fewer = length-filter_words (slice_split is_blank text) in
    let runs = length-runs text in
    let short = split.short in
    let few = split.few in
    record {
      some = (let some = some_pieces template split.some in omega (arith, count, some));
      few = omega (arith, count, few);
      filled = λ k d within. (all k d within).0;
      short = omega (arith, size, fewer, runs, short);
      bytes = λ k d within. (all k d within).1;
    }
  where
    some_pieces : (t : List (List Piece)) → t ≢ [] → 1 ≤ length t
    some_pieces [] some = absurd (some refl)
    some_pieces (pieces ∷ t) some = omega arith
