-- A plaintext is a list of bytes.
use Rattle.std.proofs.Common.{◌≡◌, ℕ, ◌<◌, ◌^◌, true, List, ◌∷◌, ◌++◌, length, get_or, refl, sym, subst, inl, inr, arith, lit<}
use Rattle.std.specs.Prelude.{◌==◌, ◌&&◌, nat_le, nat_lt, codes, All}
use Rattle.std.specs.List.{AllByRecursion, list_all}
use Rattle.std.specs.Char.{is_ascii_digit}
use Rattle.std.specs.Fmt.{decimal}
use Rattle.std.proofs.lemmas.Bool.{and_parts, cases_lt, ltb-true}
use Rattle.std.proofs.lemmas.Bool.Decides.{nat_tests}
use Rattle.std.proofs.lemmas.List.{get_or_past}
use Rattle.std.proofs.lemmas.List.Elements.{All-append, All-cons, All-from_recursion, All-map}
use Rattle.std.proofs.lemmas.List.Sums.{AllPass-from_list_all}
use Rattle.fk_base.specs.Bytes.{IsBytes}
use Rattle.fk_base.proofs.Joined.{All-decimal, All-join}
use Rattle.fk_text.specs.Text.{alphabet, bits_of, group_numbers, letter_of, text_of}
use Rattle.fk_mac.specs.Hmac.{hash_of}
use Rattle.fk_fields.specs.FieldText.{is_rand, is_version, is_version_byte}
use Rattle.fk_fields.specs.Fields.{IsFields, asked_ip, asked_pairs, has_timeout}
use Rattle.fk_fields.specs.Message.{message_text}
use Rattle.fk_fields.specs.declared.fields.Ask.{Ask}
use Rattle.fk_fields.specs.declared.fields.Ask.TheVariants.{Access, Timed}
use Rattle.fk_fields.specs.declared.fields.Fields.{Fields}
use Rattle.fk_codec.specs.Spells.{digest_text, front_of, parts_of, spelled, timeout_parts, type_text}
use Rattle.fk_codec.proofs.Law.{are_checked}
use Rattle.fk_codec.proofs.Values.{IsBytes-All, timeout_bounds}

abbrev AreBytes : List ℕ → Type 0
AreBytes text = All (λ b. b < 256) text

letter_is_byte : (n : ℕ) → letter_of n < 256
letter_is_byte n = elim (cases_lt n 64) [
  | inl lt ↦ ltb-true (letter_of n) 256 (AllPass-from_list_all (λ c. nat_lt c 256) alphabet refl n 0 lt)
  | inr past ↦ subst (λ (c : ℕ). c < 256) (sym (get_or_past alphabet n 0 past)) (omega arith)
]

text_bytes : (bytes : List ℕ) → AreBytes (text_of bytes)
unfolding text_of
text_bytes bytes =
    All-map (λ b. b < 256) letter_of (group_numbers (bits_of bytes)) (λ k d lt. letter_is_byte (get_or (group_numbers (bits_of bytes)) k d))

decimal_bytes : (n : ℕ) → n < 2 ^ 64 → AreBytes (decimal n)
decimal_bytes n small = All-decimal (λ b. b < 256) (λ x within. omega arith) n small

digit_is_byte : (c : ℕ) → is_ascii_digit c ≡ true → c < 256
digit_is_byte c is = grind (arith, nat_tests)

rand_bytes : (rand : List ℕ) → is_rand rand ≡ true → AreBytes rand
rand_bytes rand is =
    let digits = AllPass-from_list_all is_ascii_digit rand (and_parts (length rand == 16) (list_all is_ascii_digit rand) is).1 in
    λ k d lt. digit_is_byte (get_or rand k d) (digits k d lt)

version_byte_is_byte : (c : ℕ) → is_version_byte c ≡ true → c < 256
version_byte_is_byte c is = grind (arith, nat_tests)

version_bytes : (version : List ℕ) → is_version version ≡ true → AreBytes version
version_bytes version is =
    let all = AllPass-from_list_all is_version_byte version
    (and_parts (nat_le 1 (length version) && nat_le (length version) 16) (list_all is_version_byte version) is).1 in
    λ k d lt. version_byte_is_byte (get_or version k d) (all k d lt)

type_bytes : (ask : Ask) → AreBytes (type_text ask)
type_bytes (Access ip pairs) = All-from_recursion (λ b. b < 256) (codes "1") (lit< tt, tt)
type_bytes (Timed ip pairs seconds) = All-from_recursion (λ b. b < 256) (codes "3") (lit< tt, tt)

timeout_bytes : (ask : Ask) → has_timeout ask ≡ true → AllByRecursion AreBytes (timeout_parts ask)
timeout_bytes (Access ip pairs) is = tt
timeout_bytes (Timed ip pairs seconds) is =
    let within = timeout_bounds seconds is in
    (decimal_bytes seconds (let most = within.1 in omega arith), tt)

front_bytes : (f : Fields) → IsFields f → AreBytes (front_of f)
unfolding front_of
front_bytes f is =
    let checked = are_checked f is.checked in
    let fits = checked.fits in
    let message = text_bytes (message_text (asked_ip f.ask) (asked_pairs f.ask)) in
    All-join (λ b. b < 256) 58 (omega arith) (parts_of f) (
      rand_bytes f.rand is.rand,
      (
        text_bytes f.user,
        (
          decimal_bytes f.stamp (omega arith),
          (
            version_bytes f.version checked.version_is,
            (type_bytes f.ask, (message, timeout_bytes f.ask checked.timeout_is)),
          ),
        ),
      ),
    )

pub IsBytes-spelled : (f : Fields) → IsFields f → IsBytes (spelled f)
unfolding spelled
IsBytes-spelled f is =
    let digest : AreBytes (digest_text f.kind (front_of f)) = text_bytes (hash_of f.kind (front_of f)) in
    IsBytes-All (front_of f ++ 58 ∷ digest_text f.kind (front_of f))
    (All-append (λ b. b < 256) (front_of f) (58 ∷ digest_text f.kind (front_of f)) (front_bytes f is)
    (All-cons (λ b. b < 256) 58 (digest_text f.kind (front_of f)) (omega arith) digest))
