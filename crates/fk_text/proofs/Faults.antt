-- At most one fault is the first, and a text has none.
use Rattle.std.proofs.Common.{◌≡◌, ◌≢◌, ◌↔◌, ℕ, zero, suc, ◌-◌, ◌%◌, ◌==◌, ◌<◌, ◌≤◌, nat_lt, nat_eq, not, Bool, false, List, length, take, slice_index, slice_index_or, All, position, MatchOption, MatchBool, MatchResult, Option, Result, Ok, Err, refl, sym, ap, subst, ◌∙◌, inl, inr, arith, Fits, w8}
use Rattle.std.proofs.lemmas.List.{get_or-take, length-take-le}
use Rattle.std.proofs.lemmas.List.Sums.{fails_before_first, passes_at_first}
use Rattle.std.proofs.lemmas.List.Elements.{All-from_get_or}
use Rattle.std.proofs.lemmas.Bool.{cases_Bool, cases_lt, eqb-true, ne_eqb, eqb-false, ltb-true, ltb-false}
use Rattle.std.specs.List.{position_or_len}
use Rattle.base64.specs.declared.decode.DecodeError.{DecodeError}
use Rattle.fk_text.specs.declared.text_fault.TextFault.{TextFault}
use Rattle.fk_text.specs.declared.text_fault.TextFault.TheVariants.{BadByte, BadLength, LooseBits, NoMemory}
use Rattle.fk_base.specs.Bytes.{IsBytes}
use Rattle.fk_text.specs.Private.{IsText}
use Rattle.fk_text.specs.Text.{text_of}
use Rattle.fk_text.specs.TextFault.{IsLetter, letter_number, HasZeroRest, FirstTextFault}
use Rattle.fk_text.proofs.Letters.{letter_number_below, IsLetter_unless}
use Rattle.fk_text.proofs.Symbols.{length-text_of}
use Rattle.fk_text.proofs.Right.{text_of_one_list, All-text_of, rest-text_of}
use Rattle.fk_text.proofs.Rest.{two_rest, three_rest}

-- what a slice of bytes holds is bytes
pub IsBytes_from : (xs : List ℕ) → ((i : ℕ) → Fits w8 (slice_index_or xs i 0)) → IsBytes xs
IsBytes_from xs h i =
    let f = h i in
    omega arith

-- the first place whose byte has no number
pub bad_place : (text : List ℕ) → IsBytes text
    → MatchOption (position (λ c. letter_number c == 64) text) (All IsLetter text) (λ n. FirstTextFault text (BadByte n))
bad_place text bytes =
    let p : ℕ → Bool = λ c. letter_number c == 64 in
    let n : ℕ = position_or_len p text in
    let good : (k : ℕ) → k < n → IsLetter (slice_index text k) = λ k lt. IsLetter_unless (slice_index text k) (bytes k) (eqb-false (letter_number (slice_index text k)) 64 (fails_before_first p text k 0 lt)) in
    elim (cases_Bool (nat_lt n (length text))) [
      | inl some ↦
          let lt : n < length text = ltb-true n (length text) some in
          let bad : letter_number (slice_index text n) ≡ 64 = eqb-true (letter_number (slice_index text n)) 64 (passes_at_first p text 0 lt) in
          rw some (
            lt,
            λ is. absurd (omega (arith, letter_number_below (slice_index text n) is)),
            All-from_get_or IsLetter (take n text) 0 (λ k below. let short : k < n = omega (arith, length-take-le n text (omega arith)) in subst IsLetter (sym (get_or-take n text k 0 short)) (good k short)),
          )
      | inr none ↦
          let top : length text ≤ n = ltb-false n (length text) none in
          rw none (All-from_get_or IsLetter text 0 (λ k lt. good k (omega arith)))
    ]

letter_in : (text : List ℕ) (n : ℕ) → n < length text → All IsLetter text → IsLetter (slice_index text n)
letter_in text n lt h = h n 0 lt

letter_before : (text : List ℕ) (n m : ℕ) → m < length text → n < m → All IsLetter (take m text) → IsLetter (slice_index text n)
letter_before text n m short lt h =
    subst IsLetter (get_or-take m text n 0 lt) (h n 0 (omega (arith, length-take-le m text (omega arith))))

-- the first fault is one
pub FirstTextFault_one : (text : List ℕ) (e f : TextFault) → FirstTextFault text e → FirstTextFault text f → e ≡ f
FirstTextFault_one text (BadByte n) (BadByte m) (ln, bn, an) (lm, bm, am) = elim (cases_lt n m) [
  | inl less ↦ absurd (bn (letter_before text n m lm less am))
  | inr more ↦ elim (cases_lt m n) [
    | inl less ↦ absurd (bm (letter_before text m n ln less an))
    | inr same ↦
        let e : n ≡ m = omega arith in
        ap BadByte e
  ]
]
FirstTextFault_one text (BadByte n) BadLength (ln, bn, an) (a, l) = absurd (bn (letter_in text n ln a))
FirstTextFault_one text (BadByte n) LooseBits (ln, bn, an) (a, l, z) = absurd (bn (letter_in text n ln a))
FirstTextFault_one text BadLength (BadByte m) (a, l) (lm, bm, am) = absurd (bm (letter_in text m lm a))
FirstTextFault_one text BadLength BadLength x y = refl
FirstTextFault_one text BadLength LooseBits (a, l) (b, n, z) = absurd (n l)
FirstTextFault_one text LooseBits (BadByte m) (a, l, z) (lm, bm, am) = absurd (bm (letter_in text m lm a))
FirstTextFault_one text LooseBits BadLength (b, n, z) (a, l) = absurd (n l)
FirstTextFault_one text LooseBits LooseBits x y = refl
FirstTextFault_one text NoMemory f x y = absurd x
FirstTextFault_one text e NoMemory x y = absurd y

no_fault : (text : List ℕ) (e : TextFault) → All IsLetter text → length text % 4 ≢ 1 → HasZeroRest text → FirstTextFault text e → ⊥
no_fault text (BadByte n) letters len rest (ln, bn, an) = bn (letter_in text n ln letters)
no_fault text BadLength letters len rest (a, l) = len l
no_fault text LooseBits letters len rest (a, l, z) = z rest
no_fault text NoMemory letters len rest x = x

-- a text has no fault
pub text_has_no_fault : (text : List ℕ) (e : TextFault) → IsText text → FirstTextFault text e → ⊥
text_has_no_fault text e (bytes, are, is) fault =
    let l = length-text_of bytes in
    no_fault (text_of bytes) e (All-text_of bytes are) (λ one. absurd (omega arith)) (rest-text_of bytes are) (subst (λ (t : List ℕ). FirstTextFault t e) is fault)

ne_zero : (n : ℕ) (P : Type 0) → P ↔ (n ≡ 0) → MatchBool (not (nat_eq n 0)) (¬ P) P
ne_zero zero P (f, g) = g refl
ne_zero (suc n) P (f, g) =
    let ne : nat_eq (suc n) 0 ≡ false = ne_eqb (suc n) 0 (omega arith) in
    rw ne (λ p. absurd (omega (arith, f p)))

-- the last of two letters past the groups of four
pub loose_two : (text : List ℕ) (n : ℕ) → length text % 4 ≡ 2 → n ≡ letter_number (slice_index text (length text - 1))
    → MatchBool (not (nat_eq (n % 16) 0)) (¬ HasZeroRest text) (HasZeroRest text)
loose_two text n len is = ne_zero (n % 16) (HasZeroRest text) (rw is (two_rest text len))

-- the last of three letters past the groups of four
pub loose_three : (text : List ℕ) (n : ℕ) → length text % 4 ≡ 3 → n ≡ letter_number (slice_index text (length text - 1))
    → MatchBool (not (nat_eq (n % 4) 0)) (¬ HasZeroRest text) (HasZeroRest text)
loose_three text n len is = ne_zero (n % 4) (HasZeroRest text) (rw is (three_rest text len))

-- one result is not both
pub not_both : (r : Result (List ℕ) DecodeError) (x : List ℕ) (e : DecodeError) → r ≡ Ok x → r ≡ Err e → ⊥
not_both r x e ok err = cc

-- each byte is a letter where no place is bad, and the bad place is the first fault
pub letters_unless : (text : List ℕ) (r : Option ℕ) → IsBytes text → r ≡ position (λ c. letter_number c == 64) text
    → MatchOption r (All IsLetter text) (λ n. FirstTextFault text (BadByte n))
letters_unless text r bytes is = rw is (bad_place text bytes)

-- what `take_right_text` answers, of the one list whose text this is
pub taken_is : (text bytes : List ℕ) (r : Result (List ℕ) TextFault) → IsBytes bytes → text ≡ text_of bytes
    → MatchResult r (λ b. IsBytes b × (text ≡ text_of b)) (λ e. e ≡ NoMemory) → MatchResult r (λ b. b ≡ bytes) (λ e. e ≡ NoMemory)
taken_is text bytes (Ok b) are is (taken, e) = text_of_one_list b bytes taken are (sym e ∙ is)
taken_is text bytes (Err e) are is h = h
