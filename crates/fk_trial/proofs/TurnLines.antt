-- A line of a trial's input and its first space.
use Rattle.std.proofs.Common.{◌≡◌, ◌≢◌, ℕ, zero, suc, ◌+◌, ◌/◌, ◌%◌, ◌^◌, ◌<◌, ◌≤◌, ◌==◌, List, ◌∷◌, ◌++◌, length, get_or, take, drop, Option, Some, None, inl, inr, refl, sym, ◌∙◌, ap, subst, arith, add-one, drop-cons, length-append}
use Rattle.std.specs.Prelude.{nat_lt, Result, Ok}
use Rattle.std.specs.Result.{result_ok}
use Rattle.std.specs.List.{All, position, position_or_len, slice_split}
use Rattle.std.specs.Fmt.{decimal}
use Rattle.std.proofs.lemmas.Bool.{ltb-true, ltb-false, ne_eqb, eqb-true, eqb-false, cases_Bool}
use Rattle.std.proofs.lemmas.List.{append_cancel_left, get_or-take, get_or_at, get_or_default, length-take-le, take-append-drop}
use Rattle.std.proofs.lemmas.List.Elements.{All-append}
use Rattle.std.proofs.lemmas.List.Sums.{fails_before_first, passes_at_first}
use Rattle.std.proofs.lemmas.List.Splits.{slice_split_at}
use Rattle.fk_base.specs.declared.address.Ip4.{Ip4}
use Rattle.fk_base.specs.declared.moment.TheConstants.{GREATEST_MOMENT}
use Rattle.fk_base.specs.Address.{ip_text}
use Rattle.fk_base.proofs.Numerals.{digit_at, digits_of_decimal}
use Rattle.fk_base.proofs.Addresses.{dotted}
use Rattle.fk_trace.specs.Decision.{Input, FeedTurn}
use Rattle.fk_trace.specs.Decision.Input.{Quiet, Datagram}
use Rattle.fk_trial.specs.Lines.{IsVisibleText, IsLineAt, IsTurnLine}

abbrev pub HasNoSpace : List ℕ → Type 0
HasNoSpace text = All (λ byte. byte ≢ 32) text

-- the first space stands between these two parts
pub record IsCut (line front rest : List ℕ) : Type 0 where
  pub whole : line ≡ front ++ (32 ∷ rest)
  pub no_space : HasNoSpace front

-- a space is found, or there is none
pub no_place : (text : List ℕ) → position (λ byte. byte == 32) text ≡ None → HasNoSpace text
no_place text none =
    let at = position_or_len (λ byte. byte == 32) text in
    elim (cases_Bool (nat_lt at (length text))) [
      | inl below ↦ absurd (let f = rw below at none in cc)
      | inr above ↦ λ k d within.
          let past = ltb-false at (length text) above in
          eqb-false (get_or text k d) 32 (fails_before_first (λ byte. byte == 32) text k d (omega arith))
    ]

front_has_no_space : (text : List ℕ) (at : ℕ) → at ≡ position_or_len (λ byte. byte == 32) text → at < length text →
    HasNoSpace (take at text)
front_has_no_space text at is within k d inside =
    let size = length-take-le at text (omega arith) in
    rw (get_or-take at text k d (omega arith))
    (eqb-false (get_or text k d) 32 (fails_before_first (λ byte. byte == 32) text k d (omega arith)))

cut_at : (text : List ℕ) (at : ℕ) → at ≡ position_or_len (λ byte. byte == 32) text → at < length text →
    IsCut text (take at text) (drop (at + 1) text)
cut_at text at is within =
    let passes = passes_at_first (λ byte. byte == 32) text 0 (omega arith) in
    let space : get_or text at 0 ≡ 32 = ap (λ (k : ℕ). get_or text k 0) is ∙ eqb-true (get_or text (position_or_len (λ byte. byte == 32) text) 0) 32 passes in
    record {
      whole = sym (take-append-drop at text) ∙
          ap (λ (x : List ℕ). take at text ++ x) (rw add-one (drop-cons text at 0 within ∙ ap (λ (x : ℕ). x ∷ drop (suc at) text) space));
      no_space = front_has_no_space text at is within;
    }

pub cut_at_place : (text : List ℕ) (at : ℕ) → position (λ byte. byte == 32) text ≡ Some at →
    (at < length text) × IsCut text (take at text) (drop (at + 1) text)
cut_at_place text at is = elim (cases_Bool (nat_lt (position_or_len (λ byte. byte == 32) text) (length text))) [
  | inl below ↦
      let f = rw below at is in
      let same : at ≡ position_or_len (λ byte. byte == 32) text = cc in
      let within = ltb-true (position_or_len (λ byte. byte == 32) text) (length text) below in
      (omega arith, cut_at text at same (omega arith))
  | inr above ↦ absurd (let f = rw above at is in cc)
]

-- a text has one first space, and one that has none is not cut
pub cut_once : (line front rest front' rest' : List ℕ) → IsCut line front rest → IsCut line front' rest' →
    (front ≡ front') × (rest ≡ rest')
cut_once line front rest front' rest' cut cut' =
    let parts = slice_split_at (λ byte. byte == 32) front 32 rest (λ k d within. ne_eqb _ _ (cut.no_space k d within)) refl in
    let parts' = slice_split_at (λ byte. byte == 32) front' 32 rest' (λ k d within. ne_eqb _ _ (cut'.no_space k d within)) refl in
    let whole : front ++ (32 ∷ rest) ≡ front' ++ (32 ∷ rest') = sym cut.whole ∙ cut'.whole in
    let split = ap (slice_split (λ byte. byte == 32)) whole in
    let fronts : front ≡ front' = cc in
    let rests : 32 ∷ rest ≡ 32 ∷ rest' =
    append_cancel_left front' (32 ∷ rest) (32 ∷ rest') (ap (λ (x : List ℕ). x ++ (32 ∷ rest)) (sym fronts) ∙ whole) in
    (fronts, cc)

pub uncut : (line front rest : List ℕ) → HasNoSpace line → line ≡ front ++ (32 ∷ rest) → ⊥
uncut line front rest none whole =
    let spaceless : HasNoSpace (front ++ (32 ∷ rest)) = subst HasNoSpace whole none in
    let size = length-append front (32 ∷ rest) in
    spaceless (length front) 0 (omega arith) (get_or_at front 32 rest 0 (length front) refl)

-- neither a number nor an address has a space
pub no_space_in_decimal : (n : ℕ) → n < 2 ^ 64 → HasNoSpace (decimal n)
no_space_in_decimal n small k d within space =
    let digit = digit_at (decimal n) k (digits_of_decimal n small) within in
    let same = get_or_default (decimal n) k d 0 within in
    omega arith

no_space_behind_dot : (text : List ℕ) → HasNoSpace text → HasNoSpace (46 ∷ text)
no_space_behind_dot text none zero d within space = absurd (omega arith)
no_space_behind_dot text none (suc k) d within space = none k d (omega arith) space

no_space_in_dotted : (a b c d : ℕ) → a < 2 ^ 8 → b < 2 ^ 8 → c < 2 ^ 8 → d < 2 ^ 8 → HasNoSpace (dotted a b c d)
no_space_in_dotted a b c d small_a small_b small_c small_d =
    let P : ℕ → Type 0 = λ byte. byte ≢ 32 in
    let in_d = no_space_in_decimal d (omega arith) in
    let in_c = All-append P (decimal c) (46 ∷ decimal d) (no_space_in_decimal c (omega arith)) (no_space_behind_dot (decimal d) in_d) in
    let in_b = All-append P (decimal b) (46 ∷ (decimal c ++ (46 ∷ decimal d))) (no_space_in_decimal b (omega arith)) (no_space_behind_dot (decimal c ++ (46 ∷ decimal d)) in_c) in
    All-append P (decimal a) (46 ∷ (decimal b ++ (46 ∷ (decimal c ++ (46 ∷ decimal d))))) (no_space_in_decimal a (omega arith))
    (no_space_behind_dot (decimal b ++ (46 ∷ (decimal c ++ (46 ∷ decimal d)))) in_b)

pub no_space_in_ip_text : (ip : Ip4) → HasNoSpace (ip_text ip)
no_space_in_ip_text ip =
    let n = ip.0 in
    no_space_in_dotted (n / 2 ^ 24 % 256) (n / 2 ^ 16 % 256) (n / 2 ^ 8 % 256) (n % 256) (omega arith) (omega arith) (omega arith) (omega arith)

-- a line without a space is at most that of a quiet turn
pub no_turn_uncut : (line : List ℕ) → HasNoSpace line → ((m : ℕ) → m ≤ GREATEST_MOMENT → line ≡ decimal m → ⊥) →
    (turn : FeedTurn) → IsTurnLine line turn → ⊥
no_turn_uncut line none no_moment turn is = uncut_at turn.input is.1
  where
    uncut_at : (input : Input) → IsLineAt line turn.moment input → ⊥
    uncut_at Quiet said = no_moment turn.moment is.0 said
    uncut_at (Datagram source text) said = uncut line (decimal turn.moment) (ip_text source ++ (32 ∷ text)) none said.2

-- what a turn with a text says, where its line is cut at its first space
pub no_turn_cut : (line front rest : List ℕ) → IsCut line front rest →
    ((moment : ℕ) (source : Ip4) (text : List ℕ) → moment ≤ GREATEST_MOMENT → source.0 < 2 ^ 32 → IsVisibleText text →
    front ≡ decimal moment → rest ≡ ip_text source ++ (32 ∷ text) → ⊥) →
    (turn : FeedTurn) → IsTurnLine line turn → ⊥
no_turn_cut line front rest cut none turn is = cut_at_input turn.input is.1
  where
    cut_at_input : (input : Input) → IsLineAt line turn.moment input → ⊥
    cut_at_input Quiet said =
        let fits = is.0 in
        uncut (decimal turn.moment) front rest (no_space_in_decimal turn.moment (omega arith)) (sym said ∙ cut.whole)
    cut_at_input (Datagram source text) said =
        let fits = is.0 in
        let parts = cut_once line front rest (decimal turn.moment) (ip_text source ++ (32 ∷ text)) cut
        (record { whole = said.2; no_space = no_space_in_decimal turn.moment (omega arith) }) in
        none turn.moment source text is.0 said.0 said.1 parts.0 parts.1

-- the same, where what stands behind the first space is cut again
pub no_turn_cut_twice : (line front rest middle last : List ℕ) → IsCut line front rest → IsCut rest middle last →
    ((source : Ip4) → source.0 < 2 ^ 32 → IsVisibleText last → middle ≡ ip_text source → ⊥) →
    (turn : FeedTurn) → IsTurnLine line turn → ⊥
no_turn_cut_twice line front rest middle last cut cut' none = no_turn_cut line front rest cut
    (λ moment source text fits small visible first behind.
    let parts = cut_once rest middle last (ip_text source) text cut' (record { whole = behind; no_space = no_space_in_ip_text source }) in
    none source small (subst IsVisibleText (sym parts.1) visible) parts.0)

-- a reader that answers every right text has no right text where it fails
pub failed_read : {A E : Type 0} (r : Result A E) (o : Option A) (x : A) → o ≡ result_ok r → o ≡ None → r ≡ Ok x → ⊥
failed_read r o x value none read = let some = ap result_ok read in cc
