-- A digest's text: its letters, and that its length names the hash.
use Rattle.std.proofs.Common.{◌≡◌, ℕ, false, not, List, length, get_or, Some, refl, ap, ◌∙◌, inl, inr}
use Rattle.std.specs.Prelude.{◌==◌}
use Rattle.std.proofs.lemmas.Bool.{cases_lt, not-true}
use Rattle.std.proofs.lemmas.List.{get_or_past}
use Rattle.std.proofs.lemmas.List.Elements.{All-map}
use Rattle.std.proofs.lemmas.List.Sums.{AllPass-from_list_all}
use Rattle.fk_base.specs.declared.hash_kind.HashKind.{HashKind}
use Rattle.fk_base.specs.declared.hash_kind.HashKind.TheVariants.{Md5, Sha1, Sha256, Sha384, Sha512}
use Rattle.fk_base.specs.HashKind.{kind_by_len, text_len}
use Rattle.fk_base.proofs.Joined.{Lacks}
use Rattle.fk_text.specs.Text.{alphabet, letter_of, bits_of, group_numbers, text_of}
use Rattle.fk_mac.specs.Hmac.{hash_of}
use Rattle.fk_mac.proofs.Lengths.{length-hash_of, length-text}
use Rattle.fk_codec.specs.Spells.{digest_text}

-- no letter is `:`
letter_apart : (n : ℕ) → (letter_of n == 58) ≡ false
letter_apart n = elim (cases_lt n 64) [
  | inl lt ↦ not-true (letter_of n == 58) (AllPass-from_list_all (λ c. not (c == 58)) alphabet refl n 0 lt)
  | inr past ↦ ap (λ c. c == 58) (get_or_past alphabet n 0 past)
]

pub Lacks-text_of : (bytes : List ℕ) → Lacks 58 (text_of bytes)
unfolding text_of
Lacks-text_of bytes =
    All-map (λ x. (x == 58) ≡ false) letter_of (group_numbers (bits_of bytes)) (λ k d lt. letter_apart (get_or (group_numbers (bits_of bytes)) k d))

pub length-digest_text : (kind : HashKind) (front : List ℕ) → length (digest_text kind front) ≡ text_len kind
length-digest_text kind front = length-text kind (hash_of kind front) (length-hash_of kind front)

kind_by_len-text_len : (kind : HashKind) → kind_by_len (text_len kind) ≡ Some kind
kind_by_len-text_len Md5 = refl
kind_by_len-text_len Sha1 = refl
kind_by_len-text_len Sha256 = refl
kind_by_len-text_len Sha384 = refl
kind_by_len-text_len Sha512 = refl

pub kind_of_digest : (front : List ℕ) (kind : HashKind) → kind_by_len (length (digest_text kind front)) ≡ Some kind
kind_of_digest front kind = ap kind_by_len (length-digest_text kind front) ∙ kind_by_len-text_len kind
