-- What a key opens is the plaintext that was sealed.
use Rattle.std.proofs.Common.{◌≡◌, ◌↔◌, ℕ, zero, suc, ◌+◌, ◌-◌, ◌*◌, ◌%◌, ◌≤◌, true, List, [], ◌∷◌, ◌++◌, length, take, drop, Some, None, refl, sym, ap, ◌∙◌, subst, arith, inl, inr}
use Rattle.std.specs.Prelude.{◌&&◌, ◌==◌, nat_le}
use Rattle.std.specs.Str.{bytes_eq}
use Rattle.std.proofs.lemmas.Bool.{and_parts, and_from, cases_Bool, cases_lt, le-leb, leb-true, eqb-true, eqb-false}
use Rattle.std.proofs.lemmas.List.{get_or-drop, length-drop, take-append-drop}
use Rattle.std.proofs.lemmas.Option.{cond_some}
use Rattle.std.proofs.lemmas.Slice.Eq.{bytes_eq-Decides}
use Rattle.fk_base.specs.Bytes.{IsBytes, HasBytes}
use Rattle.fk_aes.specs.Cipher.{cipher, decipher}
use Rattle.fk_aes.specs.Field.{xor_bytes}
use Rattle.fk_aes.proofs.ByteLists.{HasBytes-xor_bytes, xor_bytes-twice}
use Rattle.fk_aes.proofs.CipherLaws.{HasBytes-decipher, cipher-decipher}
use Rattle.fk_cbc.specs.Chain.{Encrypts}
use Rattle.fk_cbc.specs.KeyDerivation.{cipher_key, initial_vector}
use Rattle.fk_cbc.specs.OpenFault.{Deciphers, HasBadLength, HasMark}
use Rattle.fk_cbc.specs.Opens.{deciphered_blocks, deciphered_text, is_marked, opened, padding_len, unpadded}
use Rattle.fk_cbc.specs.Padding.{padded, padding}
use Rattle.fk_cbc.specs.Seals.{Seals, block_count, salt_in, salt_mark}
use Rattle.fk_cbc.proofs.ChainLemmas.{HasBytes-part}
use Rattle.fk_cbc.proofs.KeyLemmas.{HasBytes-cipher_key, HasBytes-initial_vector}
use Rattle.fk_cbc.proofs.PaddingLemmas.{IsPaddedBy-of}
use Rattle.fk_cbc.proofs.SealLemmas.{sealed_parts, text-same, Seals-from_parts}

IsBytes-drop : (n : ℕ) (xs : List ℕ) → IsBytes xs → IsBytes (drop n xs)
IsBytes-drop n xs all i = rw (get_or-drop n xs i 0) (all (n + i))

-- one block more in front
Encrypts-front : (key before text encrypted p c : List ℕ) → HasBytes 16 p → c ≡ cipher key (xor_bytes p before) → Encrypts key c text encrypted
    → Encrypts key before (p ++ text) (c ++ encrypted)
Encrypts-front key before text encrypted p c is e h = record {
  ps = p ∷ h.ps;
  cs = c ∷ h.cs;
  text_is = ap (λ t. p ++ t) h.text_is;
  encrypted_is = ap (λ t. c ++ t) h.encrypted_is;
  chained = (is, e, h.chained);
}

none_left : (bytes : List ℕ) → length bytes ≡ 0 → bytes ≡ []
none_left [] e = refl
none_left (b ∷ bytes) e = absurd (omega arith)

pub deciphered_encrypts : (key before : List ℕ) (n : ℕ) (bytes : List ℕ) → HasBytes 32 key → HasBytes 16 before → IsBytes bytes → length bytes ≡ 16 * n
    → Encrypts key before (deciphered_blocks key before n bytes) bytes
unfolding deciphered_blocks
deciphered_encrypts key before zero bytes wide vector are size =
    record { ps = []; cs = []; text_is = refl; encrypted_is = none_left bytes (omega arith); chained = tt }
deciphered_encrypts key before (suc n) bytes wide vector are size =
    let c : List ℕ = take 16 bytes in
    let block : HasBytes 16 c = HasBytes-part 16 bytes 0 16 are (omega arith) refl in
    let d = HasBytes-decipher key c wide block in
    let p : List ℕ = xor_bytes (decipher key c) before in
    let plain : HasBytes 16 p = HasBytes-xor_bytes 16 (decipher key c) before d vector in
    let back : xor_bytes p before ≡ decipher key c = xor_bytes-twice (decipher key c) before (omega (arith, d.size, vector.size)) in
    let link : c ≡ cipher key (xor_bytes p before) = sym (cipher-decipher key c wide block) ∙ ap (cipher key) (sym back) in
    let others = deciphered_encrypts key c n (drop 16 bytes) wide block (IsBytes-drop 16 bytes are) (omega (arith, length-drop 16 bytes)) in
    subst (λ r. Encrypts key before (p ++ deciphered_blocks key c n (drop 16 bytes)) r) (take-append-drop 16 bytes)
    (Encrypts-front key before (deciphered_blocks key c n (drop 16 bytes)) (drop 16 bytes) p c plain link others)

pub deciphers_to : (key sealed : List ℕ) → IsBytes sealed → 16 ≤ length sealed → length sealed % 16 ≡ 0 → Deciphers key sealed (deciphered_text key sealed)
unfolding deciphered_text
deciphers_to key sealed are some whole =
    deciphered_encrypts (cipher_key key (salt_in sealed)) (initial_vector key (salt_in sealed)) (block_count sealed) (drop 16 sealed)
    (HasBytes-cipher_key key (salt_in sealed)) (HasBytes-initial_vector key (salt_in sealed)) (IsBytes-drop 16 sealed are) (omega (arith, length-drop 16 sealed))

-- the padding

pub unpadded_some : (text plain : List ℕ) → unpadded text ≡ Some plain → (n : ℕ) × (1 ≤ n) × (n ≤ 16) × (text ≡ plain ++ padding n)
unfolding unpadded
unpadded_some text plain e =
    let n = padding_len text in
    let back = bytes_eq (drop (length text - n) text) (padding n) in
    let passed = cond_some (nat_le 1 n && nat_le n 16 && nat_le n (length text) && back) (take (length text - n) text) plain e in
    let three = and_parts (nat_le 1 n && nat_le n 16 && nat_le n (length text)) back passed.0 in
    let two = and_parts (nat_le 1 n && nat_le n 16) (nat_le n (length text)) three.0 in
    let one = and_parts (nat_le 1 n) (nat_le n 16) two.0 in
    let rest = (bytes_eq-Decides (drop (length text - n) text) (padding n)).0 three.1 in (
      n,
      leb-true 1 n one.0,
      leb-true n 16 one.1,
      sym (take-append-drop (length text - n) text) ∙ ap (λ t. take (length text - n) text ++ t) rest ∙ ap (λ t. t ++ padding n) passed.1,
    )

pub unpadded-padding : (text plain : List ℕ) (n : ℕ) → 1 ≤ n → n ≤ 16 → text ≡ plain ++ padding n → unpadded text ≡ Some plain
unfolding unpadded
unpadded-padding text plain n least most e =
    let p = IsPaddedBy-of text plain n least e in
    let size = p.len in
    let a : nat_le 1 n ≡ true = le-leb 1 n least in
    let b : nat_le n 16 ≡ true = le-leb n 16 most in
    let c : nat_le n (length text) ≡ true = le-leb n (length text) (omega arith) in
    let d : bytes_eq (drop (length text - n) text) (padding n) ≡ true = (bytes_eq-Decides (drop (length text - n) text) (padding n)).1 p.back in
    rw (p.last, a, b, c, d) (ap Some p.front)

-- the mark and the length

marked_parts : (sealed : List ℕ) → is_marked sealed ≡ true → HasMark sealed × (32 ≤ length sealed) × (length sealed % 16 ≡ 0)
marked_parts sealed e =
    let two = and_parts (bytes_eq (take 8 sealed) salt_mark && nat_le 32 (length sealed)) (length sealed % 16 == 0) e in
    let one = and_parts (bytes_eq (take 8 sealed) salt_mark) (nat_le 32 (length sealed)) two.0 in
    ((bytes_eq-Decides (take 8 sealed) salt_mark).0 one.0, leb-true 32 (length sealed) one.1, eqb-true (length sealed % 16) 0 two.1)

long_enough : (sealed : List ℕ) → (HasBadLength sealed → ⊥) → 32 ≤ length sealed
long_enough sealed right = elim (cases_lt (length sealed) 32) [ inl short ↦ absurd (right (inl short)) | inr long ↦ long ]

whole_blocks : (sealed : List ℕ) → (HasBadLength sealed → ⊥) → (length sealed % 16 == 0) ≡ true
whole_blocks sealed right = elim (cases_Bool (length sealed % 16 == 0)) [
  | inl is_so ↦ is_so
  | inr is_not ↦ absurd (right (inr (eqb-false (length sealed % 16) 0 is_not)))
]

pub marked_from : (sealed : List ℕ) → HasMark sealed → (HasBadLength sealed → ⊥) → is_marked sealed ≡ true
marked_from sealed mark right =
    and_from (bytes_eq (take 8 sealed) salt_mark && nat_le 32 (length sealed)) (length sealed % 16 == 0)
    (and_from (bytes_eq (take 8 sealed) salt_mark) (nat_le 32 (length sealed)) ((bytes_eq-Decides (take 8 sealed) salt_mark).1 mark)
    (le-leb 32 (length sealed) (long_enough sealed right)))
    (whole_blocks sealed right)

-- the law

pub opened_seals : (key plain sealed : List ℕ) → IsBytes sealed → opened key sealed ≡ Some plain → (salt : List ℕ) × Seals key salt plain sealed
unfolding opened
opened_seals key plain sealed are e = elim (cases_Bool (is_marked sealed)) [
  | inl is_so ↦
      let m = marked_parts sealed is_so in
      let long = m.1 in
      let whole = m.2 in
      let text = unpadded_some (deciphered_text key sealed) plain (rw is_so at e) in
      let right : HasBadLength sealed → ⊥ = λ bad. elim bad [ inl short ↦ omega arith | inr part ↦ part whole ] in
      (salt_in sealed, Seals-from_parts key sealed (deciphered_text key sealed) plain text.0 are m.0 right (deciphers_to key sealed are (omega arith) whole) text.1 text.2 text.3)
  | inr is_not ↦ absurd (let none : None ≡ Some plain = rw is_not at e in cc)
]

pub opened-sealed : (key salt plain sealed : List ℕ) → IsBytes sealed → Seals key salt plain sealed → opened key sealed ≡ Some plain
unfolding opened
opened-sealed key salt plain sealed are h =
    let p = sealed_parts key salt plain sealed h in
    let marked = marked_from sealed p.mark p.right_len in
    let m = marked_parts sealed marked in
    let long = m.1 in
    let text = text-same key sealed (deciphered_text key sealed) (padded plain) (deciphers_to key sealed are (omega arith) m.2) p.text in
    rw marked (unpadded-padding (deciphered_text key sealed) plain (16 - length plain % 16) (omega arith) (omega arith) text)

pub opened_iff : (key plain sealed : List ℕ) → IsBytes sealed → (opened key sealed ≡ Some plain) ↔ ((salt : List ℕ) × Seals key salt plain sealed)
opened_iff key plain sealed are = (opened_seals key plain sealed are, λ (salt, h). opened-sealed key salt plain sealed are h)
