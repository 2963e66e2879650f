-- Texts of which each `$` begins a name: as a whole, and run by run.
use Rattle.std.proofs.Common.{zero, suc, ◌≡◌, ◌≢◌, ℕ, ◌+◌, ◌<◌, ◌≤◌, Bool, true, false, not, ◌&&◌, cond, List, [], ◌∷◌, ◌++◌, length, get_or, take, drop, Option, Some, None, refl, sym, ◌∙◌, ap, subst, inl, inr, arith}
use Rattle.std.specs.Prelude.{is_none, ◌==◌}
use Rattle.std.specs.List.{prefix_len, take_while, slice_split, onto_first, AllPass, AllByRecursion, filter}
use Rattle.std.proofs.lemmas.List.Sums.{take_while-cons}
use Rattle.std.proofs.lemmas.Bool.{cases_Bool, false≢true, and_left, ne_eqb}
use Rattle.std.proofs.lemmas.Bool.Decides.{nat_tests}
use Rattle.fk_base.specs.Characters.{is_blank}
use Rattle.fk_subst.specs.Template.{is_name_letter, var_named, IsRun}
use Rattle.fk_subst.specs.CommandFault.{begins_unknown}
use Rattle.fk_subst.proofs.Runs.{IsRun-front}

-- each `$` of the text begins a name
abbrev pub IsKnown : List ℕ → Type 0
IsKnown [] = Unit {0}
IsKnown (byte ∷ more) = (begins_unknown (byte ∷ more) ≡ false) × IsKnown more

pub known_places : (text : List ℕ) → IsKnown text → (place : ℕ) → begins_unknown (drop place text) ≡ false
known_places [] known zero = refl
known_places [] known (suc place) = refl
known_places (byte ∷ more) known zero = known.0
known_places (byte ∷ more) known (suc place) = known_places more known.1 place

pub IsKnown-places : (text : List ℕ) → ((place : ℕ) → begins_unknown (drop place text) ≡ false) → IsKnown text
IsKnown-places [] places = tt
IsKnown-places (byte ∷ more) places = (places 0, IsKnown-places more (λ place. places (suc place)))

-- what stands behind a front of such a text
pub known_behind : (front rest : List ℕ) → IsKnown (front ++ rest) → IsKnown rest
known_behind [] rest known = known
known_behind (byte ∷ front) rest known = known_behind front rest known.1

-- the letters behind a `$` are a name, or none
pub begins_unknown-run : (more name rest : List ℕ) → IsRun is_name_letter more name rest →
    begins_unknown (36 ∷ more) ≡ is_none (var_named name)
begins_unknown-run more name rest run =
    ap (λ (letters : List ℕ). is_none (var_named letters)) (IsRun-front is_name_letter more name rest run)

-- a blank begins no name
blank_is_known : (byte : ℕ) (more : List ℕ) → is_blank byte ≡ true → begins_unknown (byte ∷ more) ≡ false
blank_is_known byte more blank = grind (arith, nat_tests)

blank_ends_name : (byte : ℕ) → is_blank byte ≡ true → is_name_letter byte ≡ false
blank_ends_name byte blank = grind (arith, nat_tests)

pub slice_split_some : (test : ℕ → Bool) (text : List ℕ) → (run : List ℕ) × (runs : List (List ℕ)) × (slice_split test text ≡ run ∷ runs)
slice_split_some test [] = ([], [], refl)
slice_split_some test (byte ∷ more) =
    let rest = slice_split_some test more in
    elim (cases_Bool (test byte)) [
      | inl passes ↦ ([], slice_split test more, rw passes refl)
      | inr fails ↦ (byte ∷ rest.0, rest.1, rw (fails, rest.2) refl)
    ]

-- a name ends where its run does
pub name_in_run : (text run : List ℕ) (runs : List (List ℕ)) → slice_split is_blank text ≡ run ∷ runs →
    take_while is_name_letter text ≡ take_while is_name_letter run
name_in_run [] run runs split = let e : [] ≡ run = cc in ap (λ (l : List ℕ). take_while is_name_letter l) e
name_in_run (byte ∷ more) run runs split =
    elim (cases_Bool (is_blank byte)) [
      | inl blank ↦
          let here : slice_split is_blank (byte ∷ more) ≡ [] ∷ slice_split is_blank more = rw blank refl in
          let empty : [] ≡ run = cc in
          take_while-cons is_name_letter byte more ∙ rw (blank_ends_name byte blank) (ap (λ (l : List ℕ). take_while is_name_letter l) empty)
      | inr plain ↦
          let rest = slice_split_some is_blank more in
          let here : slice_split is_blank (byte ∷ more) ≡ (byte ∷ rest.0) ∷ rest.1 = rw (plain, rest.2) refl in
          let grown : byte ∷ rest.0 ≡ run = cc in
          let same : take_while is_name_letter more ≡ take_while is_name_letter rest.0 = name_in_run more rest.0 rest.1 rest.2 in
          take_while-cons is_name_letter byte more ∙ ap (λ (l : List ℕ). cond (is_name_letter byte) (byte ∷ l) []) same
          ∙ sym (take_while-cons is_name_letter byte rest.0) ∙ ap (λ (l : List ℕ). take_while is_name_letter l) grown
    ]

-- a `$` is unknown in a text exactly where it is in its run
unknown_in_run : (byte : ℕ) (more run : List ℕ) (runs : List (List ℕ)) → slice_split is_blank more ≡ run ∷ runs →
    begins_unknown (byte ∷ more) ≡ begins_unknown (byte ∷ run)
unknown_in_run byte more run runs split =
    ap (λ (name : List ℕ). byte == 36 && is_none (var_named name)) (name_in_run more run runs split)

pub known_runs : (text : List ℕ) → IsKnown text → AllByRecursion IsKnown (slice_split is_blank text)
known_runs [] known = (tt, tt)
known_runs (byte ∷ more) known =
    let others = known_runs more known.1 in
    elim (cases_Bool (is_blank byte)) [
      | inl blank ↦ rw blank (tt, others)
      | inr plain ↦
          let rest = slice_split_some is_blank more in
          let split = rw rest.2 at others in
          rw (plain, rest.2) ((sym (unknown_in_run byte more rest.0 rest.1 rest.2) ∙ known.0, split.0), split.1)
    ]

pub IsKnown-runs : (text : List ℕ) → AllByRecursion IsKnown (slice_split is_blank text) → IsKnown text
IsKnown-runs [] known = tt
IsKnown-runs (byte ∷ more) known =
    elim (cases_Bool (is_blank byte)) [
      | inl blank ↦
          let split = rw blank at known in
          (blank_is_known byte more blank, IsKnown-runs more split.1)
      | inr plain ↦
          let rest = slice_split_some is_blank more in
          let split = rw (plain, rest.2) at known in
          (unknown_in_run byte more rest.0 rest.1 rest.2 ∙ split.0.0, IsKnown-runs more (rw rest.2 (split.0.1, split.1)))
    ]

-- empty runs have no `$`
pub known_words : (runs : List (List ℕ)) → AllByRecursion IsKnown (filter (λ run. not (length run == 0)) runs) → AllByRecursion IsKnown runs
known_words [] known = tt
known_words ([] ∷ runs) known = (tt, known_words runs known)
known_words ((byte ∷ more) ∷ runs) known =
    let some : (length (byte ∷ more) == 0) ≡ false = ne_eqb (length (byte ∷ more)) 0 (λ none. absurd (omega arith)) in
    let split = rw some at known in
    (split.0, known_words runs split.1)
