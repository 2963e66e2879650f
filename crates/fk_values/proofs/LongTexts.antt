-- A text of more letters than any key has is that of no key.
use Rattle.std.proofs.Common.{◌≡◌, ℕ, ◌<◌, List, length, Option, Some, None, refl, sym, ap, ◌∙◌, arith, inl, inr}
use Rattle.std.specs.Prelude.{nat_le}
use Rattle.std.specs.Option.{option_and_then}
use Rattle.std.proofs.lemmas.Bool.{cases_Bool, and_parts, leb-true}
use Rattle.fk_text.specs.Found.{bytes_in}
use Rattle.fk_text.proofs.BytesFound.{bytes_in_some}
use Rattle.fk_text.proofs.Symbols.{length-text_of}
use Rattle.fk_values.specs.Values.{base64_key_in, has_len_within, key_in, without_padding}

long_is_none : (text : List ℕ) (found : Option (List ℕ)) → bytes_in text ≡ found → 256 < length text → option_and_then key_in found ≡ None
long_is_none text None e long = refl
long_is_none text (Some bytes) e long = elim (cases_Bool (has_len_within 128 bytes)) [
  | inr fails ↦ rw fails refl
  | inl holds ↦ absurd (
      let parts = and_parts (nat_le 1 (length bytes)) (nat_le (length bytes) 128) holds in
      let few = leb-true (length bytes) 128 parts.1 in
      let is = bytes_in_some text bytes e in
      let size = length-text_of bytes in
      let same = ap length is.1 in
      omega arith)
]

pub base64_key_in-long : (text : List ℕ) → 256 < length (without_padding text) → base64_key_in text ≡ None
unfolding base64_key_in
base64_key_in-long text long = long_is_none (without_padding text) (bytes_in (without_padding text)) refl long

pub base64_key_in-none : (value text : List ℕ) → text ≡ without_padding value → bytes_in text ≡ None → base64_key_in value ≡ None
unfolding base64_key_in
base64_key_in-none value text same none = ap (λ (t : List ℕ). option_and_then key_in (bytes_in t)) (sym same) ∙ ap (option_and_then key_in) none

pub base64_key_in-some : (value text key : List ℕ) → text ≡ without_padding value → bytes_in text ≡ Some key → base64_key_in value ≡ key_in key
unfolding base64_key_in
base64_key_in-some value text key same some = ap (λ (t : List ℕ). option_and_then key_in (bytes_in t)) (sym same) ∙ ap (option_and_then key_in) some
