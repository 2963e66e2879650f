-- A text has no fault, and what has no fault is the text of exactly one list of bytes.
use Rattle.std.proofs.Common.{◌≡◌, ◌≢◌, ℕ, zero, suc, ◌+◌, ◌*◌, ◌/◌, ◌%◌, ◌<◌, List, [], ◌∷◌, ◌++◌, map, length, take, drop, All, refl, sym, ap, subst, ◌∙◌, arith}
use Rattle.std.proofs.lemmas.List.{take_at}
use Rattle.base64.specs.GeneralPurpose.{encode_of}
use Rattle.base64.specs.Engines.{standard_no_pad}
use Rattle.fk_base.specs.Bytes.{IsBytes}
use Rattle.fk_text.specs.Private.{IsText}
use Rattle.fk_text.specs.Text.{letter_of, text_of}
use Rattle.fk_text.specs.TextFault.{IsLetter, letter_number, HasZeroRest}
use Rattle.fk_text.specs.Found.{bytes_of}
use Rattle.fk_text.proofs.Letters.{letter_number-letter_of, number_of_letter, letter_from_number, letter_number_below}
use Rattle.fk_text.proofs.Symbols.{numbers_of, text_of-numbers, text_of-encode_of, length-text_of}
use Rattle.fk_text.proofs.Rest.{unused_bits-four, rest_of_none, rest_of_two, rest_of_three}

-- ---- the bytes of a text

pub IsBytes-bytes_of : (text : List ℕ) → All IsLetter text → IsBytes (bytes_of text)
unfolding bytes_of
IsBytes-bytes_of [] h i = omega arith
IsBytes-bytes_of (w ∷ []) h i = omega arith
IsBytes-bytes_of (w ∷ x ∷ []) h zero =
    let lw = letter_number_below w (h 0 0 (omega arith)) in
    let lx = letter_number_below x (h 1 0 (omega arith)) in
    omega arith
IsBytes-bytes_of (w ∷ x ∷ []) h (suc i) = omega arith
IsBytes-bytes_of (w ∷ x ∷ y ∷ []) h zero =
    let lw = letter_number_below w (h 0 0 (omega arith)) in
    let lx = letter_number_below x (h 1 0 (omega arith)) in
    omega arith
IsBytes-bytes_of (w ∷ x ∷ y ∷ []) h (suc zero) =
    let lx = letter_number_below x (h 1 0 (omega arith)) in
    let ly = letter_number_below y (h 2 0 (omega arith)) in
    omega arith
IsBytes-bytes_of (w ∷ x ∷ y ∷ []) h (suc (suc i)) = omega arith
IsBytes-bytes_of (w ∷ x ∷ y ∷ z ∷ text) h zero =
    let lw = letter_number_below w (h 0 0 (omega arith)) in
    let lx = letter_number_below x (h 1 0 (omega arith)) in
    omega arith
IsBytes-bytes_of (w ∷ x ∷ y ∷ z ∷ text) h (suc zero) =
    let lx = letter_number_below x (h 1 0 (omega arith)) in
    let ly = letter_number_below y (h 2 0 (omega arith)) in
    omega arith
IsBytes-bytes_of (w ∷ x ∷ y ∷ z ∷ text) h (suc (suc zero)) =
    let ly = letter_number_below y (h 2 0 (omega arith)) in
    let lz = letter_number_below z (h 3 0 (omega arith)) in
    omega arith
IsBytes-bytes_of (w ∷ x ∷ y ∷ z ∷ text) h (suc (suc (suc i))) = IsBytes-bytes_of text (λ k d lt. h (suc (suc (suc (suc k)))) d (omega arith)) i

-- the letters of those bytes
letters-bytes_of : (text : List ℕ) → All IsLetter text → length text % 4 ≢ 1 → HasZeroRest text → map letter_of (numbers_of (bytes_of text)) ≡ text
unfolding bytes_of numbers_of
letters-bytes_of [] h n z = refl
letters-bytes_of (w ∷ []) h n z = absurd (n refl)
letters-bytes_of (w ∷ x ∷ []) h n z =
    let a : ℕ = letter_number w in
    let b : ℕ = letter_number x in
    let la : a < 64 = letter_number_below w (h 0 0 (omega arith)) in
    let lb : b < 64 = letter_number_below x (h 1 0 (omega arith)) in
    let zero_rest : b % 16 ≡ 0 = (rest_of_two w x).0 z in
    let e0 : (a * 4 + b / 16) / 4 ≡ a = omega arith in
    let e1 : (a * 4 + b / 16) % 4 * 16 ≡ b = omega arith in
    rw (e0, e1, number_of_letter w la, number_of_letter x lb) refl
letters-bytes_of (w ∷ x ∷ y ∷ []) h n z =
    let a : ℕ = letter_number w in
    let b : ℕ = letter_number x in
    let c : ℕ = letter_number y in
    let la : a < 64 = letter_number_below w (h 0 0 (omega arith)) in
    let lb : b < 64 = letter_number_below x (h 1 0 (omega arith)) in
    let lc : c < 64 = letter_number_below y (h 2 0 (omega arith)) in
    let zero_rest : c % 4 ≡ 0 = (rest_of_three w x y).0 z in
    let e0 : (a * 4 + b / 16) / 4 ≡ a = omega arith in
    let e1 : (a * 4 + b / 16) % 4 * 16 + (b % 16 * 16 + c / 4) / 16 ≡ b = omega arith in
    let e2 : (b % 16 * 16 + c / 4) % 16 * 4 ≡ c = omega arith in
    rw (e0, e1, e2, number_of_letter w la, number_of_letter x lb, number_of_letter y lc) refl
letters-bytes_of (w ∷ x ∷ y ∷ z ∷ text) h n rest =
    let a : ℕ = letter_number w in
    let b : ℕ = letter_number x in
    let c : ℕ = letter_number y in
    let d : ℕ = letter_number z in
    let la : a < 64 = letter_number_below w (h 0 0 (omega arith)) in
    let lb : b < 64 = letter_number_below x (h 1 0 (omega arith)) in
    let lc : c < 64 = letter_number_below y (h 2 0 (omega arith)) in
    let ld : d < 64 = letter_number_below z (h 3 0 (omega arith)) in
    let e0 : (a * 4 + b / 16) / 4 ≡ a = omega arith in
    let e1 : (a * 4 + b / 16) % 4 * 16 + (b % 16 * 16 + c / 4) / 16 ≡ b = omega arith in
    let e2 : (b % 16 * 16 + c / 4) % 16 * 4 + (c % 4 * 64 + d) / 64 ≡ c = omega arith in
    let e3 : (c % 4 * 64 + d) % 64 ≡ d = omega arith in
    let others = letters-bytes_of text (λ k d lt. h (suc (suc (suc (suc k)))) d (omega arith)) (λ one. n (omega arith))
    (rw (unused_bits-four w x y z text) at rest) in
    rw (e0, e1, e2, e3, number_of_letter w la, number_of_letter x lb, number_of_letter y lc, number_of_letter z ld, others) refl

-- what has no fault is a text
pub text_without_fault : (text : List ℕ) → All IsLetter text → length text % 4 ≢ 1 → HasZeroRest text → IsText text
text_without_fault text letters n rest =
    let bytes = IsBytes-bytes_of text letters in
    (bytes_of text, bytes, sym (text_of-numbers (bytes_of text) bytes ∙ letters-bytes_of text letters n rest))

-- ---- a text has no fault

letter_at : (n : ℕ) → n < 64 → IsLetter (letter_of n)
letter_at n lt = letter_from_number (letter_of n) (omega (arith, letter_number-letter_of n lt))

letters_of : (bytes : List ℕ) → IsBytes bytes → All IsLetter (map letter_of (numbers_of bytes))
unfolding numbers_of
letters_of [] h k d lt = absurd (omega arith)
letters_of (a ∷ []) h zero d lt =
    let la = h 0 in
    letter_at (a / 4) (omega arith)
letters_of (a ∷ []) h (suc zero) d lt =
    let la = h 0 in
    letter_at (a % 4 * 16) (omega arith)
letters_of (a ∷ []) h (suc (suc k)) d lt = absurd (omega arith)
letters_of (a ∷ b ∷ []) h zero d lt =
    let la = h 0 in
    letter_at (a / 4) (omega arith)
letters_of (a ∷ b ∷ []) h (suc zero) d lt =
    let la = h 0 in
    let lb = h 1 in
    letter_at (a % 4 * 16 + b / 16) (omega arith)
letters_of (a ∷ b ∷ []) h (suc (suc zero)) d lt =
    let lb = h 1 in
    letter_at (b % 16 * 4) (omega arith)
letters_of (a ∷ b ∷ []) h (suc (suc (suc k))) d lt = absurd (omega arith)
letters_of (a ∷ b ∷ c ∷ bytes) h zero d lt =
    let la = h 0 in
    letter_at (a / 4) (omega arith)
letters_of (a ∷ b ∷ c ∷ bytes) h (suc zero) d lt =
    let la = h 0 in
    let lb = h 1 in
    letter_at (a % 4 * 16 + b / 16) (omega arith)
letters_of (a ∷ b ∷ c ∷ bytes) h (suc (suc zero)) d lt =
    let lb = h 1 in
    let lc = h 2 in
    letter_at (b % 16 * 4 + c / 64) (omega arith)
letters_of (a ∷ b ∷ c ∷ bytes) h (suc (suc (suc zero))) d lt =
    let lc = h 2 in
    letter_at (c % 64) (omega arith)
letters_of (a ∷ b ∷ c ∷ bytes) h (suc (suc (suc (suc k)))) d lt = letters_of bytes (λ i. h (suc (suc (suc i)))) k d (omega arith)

rest_of : (bytes : List ℕ) → IsBytes bytes → HasZeroRest (map letter_of (numbers_of bytes))
unfolding numbers_of
rest_of [] h = rest_of_none
rest_of (a ∷ []) h =
    let la = h 0 in
    let e = letter_number-letter_of (a % 4 * 16) (omega arith) in
    (rest_of_two (letter_of (a / 4)) (letter_of (a % 4 * 16))).1 (omega arith)
rest_of (a ∷ b ∷ []) h =
    let lb = h 1 in
    let e = letter_number-letter_of (b % 16 * 4) (omega arith) in
    (rest_of_three (letter_of (a / 4)) (letter_of (a % 4 * 16 + b / 16)) (letter_of (b % 16 * 4))).1 (omega arith)
rest_of (a ∷ b ∷ c ∷ bytes) h =
    rw (unused_bits-four (letter_of (a / 4)) (letter_of (a % 4 * 16 + b / 16)) (letter_of (b % 16 * 4 + c / 64)) (letter_of (c % 64)) (map letter_of (numbers_of bytes)))
    (rest_of bytes (λ i. h (suc (suc (suc i)))))

pub All-text_of : (bytes : List ℕ) → IsBytes bytes → All IsLetter (text_of bytes)
All-text_of bytes h = subst (λ (t : List ℕ). All IsLetter t) (sym (text_of-numbers bytes h)) (letters_of bytes h)

pub rest-text_of : (bytes : List ℕ) → IsBytes bytes → HasZeroRest (text_of bytes)
rest-text_of bytes h = subst (λ (t : List ℕ). HasZeroRest t) (sym (text_of-numbers bytes h)) (rest_of bytes h)

-- ---- one list of bytes

bytes_of-letters : (bytes : List ℕ) → IsBytes bytes → bytes_of (map letter_of (numbers_of bytes)) ≡ bytes
unfolding bytes_of numbers_of
bytes_of-letters [] h = refl
bytes_of-letters (a ∷ []) h =
    let la : a < 256 = h 0 in
    let e0 = letter_number-letter_of (a / 4) (omega arith) in
    let e1 = letter_number-letter_of (a % 4 * 16) (omega arith) in
    let f0 : a / 4 * 4 + a % 4 * 16 / 16 ≡ a = omega arith in
    rw (e0, e1, f0) refl
bytes_of-letters (a ∷ b ∷ []) h =
    let la : a < 256 = h 0 in
    let lb : b < 256 = h 1 in
    let e0 = letter_number-letter_of (a / 4) (omega arith) in
    let e1 = letter_number-letter_of (a % 4 * 16 + b / 16) (omega arith) in
    let e2 = letter_number-letter_of (b % 16 * 4) (omega arith) in
    let f0 : a / 4 * 4 + (a % 4 * 16 + b / 16) / 16 ≡ a = omega arith in
    let f1 : (a % 4 * 16 + b / 16) % 16 * 16 + b % 16 * 4 / 4 ≡ b = omega arith in
    rw (e0, e1, e2, f0, f1) refl
bytes_of-letters (a ∷ b ∷ c ∷ bytes) h =
    let la : a < 256 = h 0 in
    let lb : b < 256 = h 1 in
    let lc : c < 256 = h 2 in
    let e0 = letter_number-letter_of (a / 4) (omega arith) in
    let e1 = letter_number-letter_of (a % 4 * 16 + b / 16) (omega arith) in
    let e2 = letter_number-letter_of (b % 16 * 4 + c / 64) (omega arith) in
    let e3 = letter_number-letter_of (c % 64) (omega arith) in
    let f0 : a / 4 * 4 + (a % 4 * 16 + b / 16) / 16 ≡ a = omega arith in
    let f1 : (a % 4 * 16 + b / 16) % 16 * 16 + (b % 16 * 4 + c / 64) / 4 ≡ b = omega arith in
    let f2 : (b % 16 * 4 + c / 64) % 4 * 64 + c % 64 ≡ c = omega arith in
    rw (e0, e1, e2, e3, f0, f1, f2, bytes_of-letters bytes (λ i. h (suc (suc (suc i))))) refl

pub bytes_of-text_of : (bytes : List ℕ) → IsBytes bytes → bytes_of (text_of bytes) ≡ bytes
bytes_of-text_of bytes h = ap bytes_of (text_of-numbers bytes h) ∙ bytes_of-letters bytes h

-- one text is of at most one list of bytes
pub text_of_one_list : (b c : List ℕ) → IsBytes b → IsBytes c → text_of b ≡ text_of c → b ≡ c
text_of_one_list b c hb hc e = sym (bytes_of-text_of b hb) ∙ ap bytes_of e ∙ bytes_of-text_of c hc

-- the front of a slice that the engine wrote over
pub front_is_text : (bytes over new : List ℕ) (n size : ℕ) → IsBytes bytes → n ≡ size → size ≡ (4 * length bytes + 2) / 3
    → new ≡ encode_of standard_no_pad bytes ++ drop size over → take n new ≡ text_of bytes
front_is_text bytes over new n size are is len written =
    let e = text_of-encode_of bytes are in
    let whole : new ≡ text_of bytes ++ drop size over = rw e written in
    let l = length-text_of bytes in
    rw (whole, is) (take_at (text_of bytes) (drop size over) size (omega arith))
