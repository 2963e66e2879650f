-- Each plaintext of bytes can be sealed with each salt.
use Rattle.std.proofs.Common.{◌≡◌, ℕ, zero, suc, ◌+◌, ◌-◌, ◌*◌, ◌/◌, ◌%◌, ◌<◌, ◌≤◌, List, [], ◌∷◌, ◌++◌, length, take, drop, refl, sym, ap, ◌∙◌, inl, inr, arith}
use Rattle.std.proofs.lemmas.Bool.{cases_lt}
use Rattle.std.proofs.lemmas.List.{get_or-drop, get_or-take, get_or_past, length-drop, length-take, take-append-drop}
use Rattle.std.proofs.lemmas.List.Elements.{All-append, All-from_get_or, All-replicate}
use Rattle.fk_base.specs.Bytes.{HasBytes, IsBytes}
use Rattle.fk_aes.specs.Cipher.{cipher}
use Rattle.fk_aes.specs.Field.{xor_bytes}
use Rattle.fk_cbc.specs.Chain.{Encrypts}
use Rattle.fk_cbc.specs.KeyDerivation.{cipher_key, initial_vector}
use Rattle.fk_cbc.specs.Padding.{padded, padding}
use Rattle.fk_cbc.specs.Seals.{Seals, salt_mark}
use Rattle.fk_cbc.proofs.SealLemmas.{length-padded}
use Rattle.fk_codec.proofs.Values.{IsBytes-All}

no_bytes : (text : List ℕ) → length text ≡ 0 → text ≡ []
no_bytes [] size = refl
no_bytes (b ∷ text) size = absurd (omega arith)

pub IsBytes-drop : (n : ℕ) (bytes : List ℕ) → IsBytes bytes → IsBytes (drop n bytes)
IsBytes-drop n bytes are i = rw (get_or-drop n bytes i 0) (are (n + i))

HasBytes-take : (n : ℕ) (bytes : List ℕ) → IsBytes bytes → n ≤ length bytes → HasBytes n (take n bytes)
HasBytes-take n bytes are room =
    let size : length (take n bytes) ≡ n = omega (arith, length-take n bytes) in
    record {
      size = size;
      each = λ i. elim (cases_lt i n) [
        | inl lt ↦ rw (get_or-take n bytes i 0 lt) (are i)
        | inr past ↦ rw (get_or_past (take n bytes) i 0 (omega arith)) (omega arith)
      ];
    }

chained : (key before : List ℕ) (n : ℕ) (text : List ℕ) → IsBytes text → length text ≡ 16 * n → (encrypted : List ℕ) × Encrypts key before text encrypted
chained key before zero text are size =
    ([], record { ps = []; cs = []; text_is = no_bytes text (omega arith); encrypted_is = refl; chained = tt })
chained key before (suc n) text are size =
    let p : List ℕ = take 16 text in
    let block : HasBytes 16 p = HasBytes-take 16 text are (omega arith) in
    let c : List ℕ = cipher key (xor_bytes p before) in
    let rest = chained key c n (drop 16 text) (IsBytes-drop 16 text are) (omega (arith, length-drop 16 text)) in (
      c ++ rest.0,
      record {
        ps = p ∷ rest.1.ps;
        cs = c ∷ rest.1.cs;
        text_is = sym (take-append-drop 16 text) ∙ ap (λ (t : List ℕ). p ++ t) rest.1.text_is;
        encrypted_is = ap (λ (t : List ℕ). c ++ t) rest.1.encrypted_is;
        chained = (block, refl, rest.1.chained);
      },
    )

IsBytes-padded : (plain : List ℕ) → IsBytes plain → IsBytes (padded plain)
IsBytes-padded plain are =
    let n = 16 - length plain % 16 in
    IsBytes-All (padded plain)
    (All-append (λ b. b < 256) plain (padding n) (All-from_get_or (λ b. b < 256) plain 0 (λ i lt. are i)) (All-replicate (λ b. b < 256) n n (omega arith)))

pub sealed_with : (key salt plain : List ℕ) → HasBytes 8 salt → IsBytes plain → (sealed : List ℕ) × Seals key salt plain sealed
sealed_with key salt plain salt_is are =
    let whole = length-padded plain in
    let blocks = chained (cipher_key key salt) (initial_vector key salt) (1 + length plain / 16) (padded plain) (IsBytes-padded plain are) (omega arith) in
    (salt_mark ++ salt ++ blocks.0, record { blocks = blocks.0; salt_is = salt_is; sealed_is = refl; encrypts = blocks.1 })
