-- A text has a template exactly where nothing is wrong with it.
use Rattle.std.proofs.Common.{zero, suc, ◌≡◌, ◌≢◌, ℕ, ◌+◌, ◌<◌, ◌≤◌, Bool, true, false, not, List, [], ◌∷◌, ◌++◌, length, get_or, drop, Option, Some, None, map, refl, sym, ◌∙◌, ap, subst, inl, inr, ⊎_elim, arith}
use Rattle.std.specs.Prelude.{is_none, is_some, ◌==◌}
use Rattle.std.specs.List.{slice_split, filter, All, AllPass, AllByRecursion, AllZip}
use Rattle.std.proofs.lemmas.List.{append-nil, map-append}
use Rattle.std.proofs.lemmas.List.Elements.{All-from_recursion, All-contains_itself, filter-append}
use Rattle.fk_subst.specs.declared.piece.Piece.{Piece}
use Rattle.fk_subst.specs.declared.fault.CommandFault.{CommandFault}
use Rattle.fk_subst.specs.declared.fault.CommandFault.TheVariants.{Empty, TooLong, UnknownName, NoMemory}
use Rattle.fk_base.specs.Characters.{is_blank}
use Rattle.fk_subst.specs.Template.{words_in, AreWordPieces, IsTemplateOf}
use Rattle.fk_subst.specs.CommandFault.{begins_unknown, FirstCommandFault, IsFaultless, IsFirstUnknown, IsTooLong}
use Rattle.fk_subst.proofs.Known.{IsKnown, IsKnown-places, IsKnown-runs, known_places, known_runs, known_words}
use Rattle.fk_subst.proofs.Pieces.{words_known}

-- what `is_none` answers, from what it says of `is_some`
pub none_from_some : {A : Type 0} (o : Option A) (r : Bool) → is_some o ≡ not r → r ≡ is_none o
none_from_some None true e = refl
none_from_some None false e = cc
none_from_some (Some x) true e = cc
none_from_some (Some x) false e = refl

pub same_count : (template : List (List Piece)) (words : List (List ℕ)) → AllZip AreWordPieces template words → length template ≡ length words
same_count [] [] all = refl
same_count [] (word ∷ words) all = absurd all
same_count (pieces ∷ template) [] all = absurd all
same_count (pieces ∷ template) (word ∷ words) all = ap suc (same_count template words all.1)

pub AllZip_push : (template : List (List Piece)) (words : List (List ℕ)) (pieces : List Piece) (word : List ℕ) →
    AllZip AreWordPieces template words → AreWordPieces pieces word → AllZip AreWordPieces (template ++ pieces ∷ []) (words ++ word ∷ [])
AllZip_push [] [] pieces word all spells = (spells, tt)
AllZip_push [] (w ∷ words) pieces word all spells = absurd all
AllZip_push (p ∷ template) [] pieces word all spells = absurd all
AllZip_push (p ∷ template) (w ∷ words) pieces word all spells = (all.0, AllZip_push template words pieces word all.1 spells)

abbrev pub is_word : List ℕ → Bool
is_word run = not (length run == 0)

pub filter_push_word : (runs : List (List ℕ)) (run : List ℕ) → (length run == 0) ≡ false → filter is_word (runs ++ run ∷ []) ≡ filter is_word runs ++ run ∷ []
filter_push_word runs run some = filter-append is_word runs (run ∷ []) ∙ rw some refl

pub filter_push_empty : (runs : List (List ℕ)) (run : List ℕ) → (length run == 0) ≡ true → filter is_word (runs ++ run ∷ []) ≡ filter is_word runs
filter_push_empty runs run empty = filter-append is_word runs (run ∷ []) ∙ rw empty (append-nil (filter is_word runs))

no_words : (words : List (List ℕ)) → AllZip AreWordPieces [] words → words ≡ []
no_words [] all = refl
no_words (word ∷ words) all = absurd all

pub whole_template : (text : List ℕ) (template : List (List Piece)) → IsFaultless text → AllZip AreWordPieces template (words_in text) → IsTemplateOf text template
whole_template text template right all = record {
  short = right.short;
  some = λ none. right.some (no_words (words_in text) (subst (λ (t : List (List Piece)). AllZip AreWordPieces t (words_in text)) none all));
  few = (let few = right.few in omega (arith, same_count template (words_in text) all));
  words = all;
}

-- a run of a text of which each `$` begins a name
pub known_run : (text run : List ℕ) (k : ℕ) → ((place : ℕ) → begins_unknown (drop place text) ≡ false) → k < length (slice_split is_blank text) →
    run ≡ get_or (slice_split is_blank text) k run → (place : ℕ) → begins_unknown (drop place run) ≡ false
known_run text run k known within is =
    let all : All IsKnown (slice_split is_blank text) = All-from_recursion IsKnown (slice_split is_blank text) (known_runs text (IsKnown-places text known)) in
    known_places run (subst IsKnown (sym is) (all k run within))

-- each `$` of a text with a template begins a name
template_known : (text : List ℕ) (template : List (List Piece)) → IsTemplateOf text template → (place : ℕ) → begins_unknown (drop place text) ≡ false
template_known text template is =
    known_places text (IsKnown-runs text (known_words (slice_split is_blank text) (words_known template (words_in text) is.words)))

pub no_fault : (text : List ℕ) (template : List (List Piece)) (fault : CommandFault) → IsTemplateOf text template → FirstCommandFault text fault → ⊥
no_fault text template Empty is fault = is.some (no_template template (subst (λ (w : List (List ℕ)). AllZip AreWordPieces template w) fault is.words))
  where
    no_template : (t : List (List Piece)) → AllZip AreWordPieces t [] → t ≡ []
    no_template [] all = refl
    no_template (pieces ∷ t) all = absurd all
no_fault text template TooLong is fault =
    let short = is.short in let few = is.few in let count = same_count template (words_in text) is.words in
    ⊎_elim (λ long. omega (arith, long)) (λ many. omega (arith, many)) fault.1
no_fault text template (UnknownName place) is fault =
    let known = template_known text template is place in let unknown = fault.2.unknown in cc
no_fault text template NoMemory is fault = fault
