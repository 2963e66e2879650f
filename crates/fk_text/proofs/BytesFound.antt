-- The bytes that are found in a text are those whose text it is.
use Rattle.std.proofs.Common.{◌≡◌, ◌↔◌, ℕ, true, List, get_or, Option, Some, None, Ok, Err, All, refl, sym, ap, ◌∙◌}
use Rattle.std.specs.Prelude.{◌&&◌}
use Rattle.std.specs.List.{list_all}
use Rattle.std.specs.Str.{bytes_eq}
use Rattle.std.proofs.lemmas.Bool.{and_parts, lt-ltb, ltb-true}
use Rattle.std.proofs.lemmas.List.Sums.{AllPass-from_list_all, list_all-from_AllPass}
use Rattle.std.proofs.lemmas.Option.{cond_some}
use Rattle.std.proofs.lemmas.Slice.Eq.{bytes_eq-Decides}
use Rattle.base64.specs.declared.decode.DecodeError.{DecodeError}
use Rattle.base64.specs.Engines.{standard_no_pad}
use Rattle.base64.specs.GeneralPurpose.{decode_of}
use Rattle.base64.proofs.EngineFacts.{decode_of_strict, decode_of-encode_of}
use Rattle.fk_base.specs.Bytes.{IsBytes}
use Rattle.fk_text.specs.Text.{text_of}
use Rattle.fk_text.specs.TextFault.{IsLetter, letter_number}
use Rattle.fk_text.specs.Found.{is_letter, bytes_of, bytes_in}
use Rattle.fk_text.proofs.Letters.{letter_from_number, letter_number_below}
use Rattle.fk_text.proofs.Symbols.{text_of-encode_of}
use Rattle.fk_text.proofs.Right.{IsBytes-bytes_of, bytes_of-text_of, All-text_of}

letters_pass : (text : List ℕ) → list_all is_letter text ≡ true → All IsLetter text
letters_pass text all k d lt =
    letter_from_number (get_or text k d) (ltb-true (letter_number (get_or text k d)) 64 (AllPass-from_list_all is_letter text all k d lt))

letters_are : (text : List ℕ) → All IsLetter text → list_all is_letter text ≡ true
letters_are text all = list_all-from_AllPass is_letter text (λ k d lt. lt-ltb (letter_number (get_or text k d)) 64 (letter_number_below (get_or text k d) (all k d lt)))

pub bytes_in_some : (text bytes : List ℕ) → bytes_in text ≡ Some bytes → IsBytes bytes × (text ≡ text_of bytes)
unfolding bytes_in
bytes_in_some text bytes is =
    let passed = cond_some (list_all is_letter text && bytes_eq (text_of (bytes_of text)) text) (bytes_of text) bytes is in
    let both = and_parts (list_all is_letter text) (bytes_eq (text_of (bytes_of text)) text) passed.0 in
    let letters = letters_pass text both.0 in
    rw (← passed.1) (IsBytes-bytes_of text letters, sym ((bytes_eq-Decides (text_of (bytes_of text)) text).0 both.1))

pub bytes_in-text_of : (bytes : List ℕ) → IsBytes bytes → bytes_in (text_of bytes) ≡ Some bytes
unfolding bytes_in
bytes_in-text_of bytes are =
    rw (letters_are (text_of bytes) (All-text_of bytes are), bytes_of-text_of bytes are, (bytes_eq-Decides (text_of bytes) (text_of bytes)).1 refl) refl

pub bytes_in_iff : (text bytes : List ℕ) → (bytes_in text ≡ Some bytes) ↔ (IsBytes bytes × (text ≡ text_of bytes))
bytes_in_iff text bytes = (bytes_in_some text bytes, λ (are, is). ap bytes_in is ∙ bytes_in-text_of bytes are)

none_unless : (r : Option (List ℕ)) → ((bytes : List ℕ) → r ≡ Some bytes → ⊥) → r ≡ None
none_unless None never = refl
none_unless (Some bytes) never = absurd (never bytes refl)

-- what is the text of no bytes
pub bytes_in_none : (text : List ℕ) → ((bytes : List ℕ) → IsBytes bytes → text ≡ text_of bytes → ⊥) → bytes_in text ≡ None
bytes_in_none text never = none_unless (bytes_in text) (λ bytes is. let h = bytes_in_some text bytes is in never bytes h.0 h.1)

-- what the engine answers, as the bytes that are found

pub engine_found : (text bytes : List ℕ) → IsBytes text → IsBytes bytes → decode_of standard_no_pad text ≡ Ok bytes → bytes_in text ≡ Some bytes
engine_found text bytes of_text are ok =
    (bytes_in_iff text bytes).1 (are, decode_of_strict standard_no_pad text bytes (refl, refl) of_text ok ∙ sym (text_of-encode_of bytes are))

pub engine_found_none : (text : List ℕ) (e : DecodeError) → decode_of standard_no_pad text ≡ Err e → bytes_in text ≡ None
engine_found_none text e err =
    bytes_in_none text
    (λ bytes are is.
    let ok = decode_of-encode_of standard_no_pad bytes refl are in
    let same = is ∙ text_of-encode_of bytes are in
    let both : Ok bytes ≡ Err e = sym ok ∙ ap (decode_of standard_no_pad) (sym same) ∙ err in
    cc)
