-- Sealed bytes from their parts and back, and which bytes have no plaintext.
use Rattle.std.proofs.Common.{◌≡◌, ℕ, ◌+◌, ◌-◌, ◌*◌, ◌/◌, ◌%◌, ◌<◌, ◌≤◌, List, [], ◌++◌, length, take, drop, replicate, refl, sym, ap, ◌∙◌, subst, arith, append_assoc, inl, inr}
use Rattle.std.proofs.lemmas.List.{drop-drop, drop_at, drop_all, length-append, length-drop, length-replicate, append-nil, take-append-drop, take-replicate, take_at, take_rest}
use borrow.Rule.Slice.PartMut.{put_mid}
use Rattle.fk_base.specs.Bytes.{IsBytes, HasBytes}
use Rattle.fk_cbc.specs.Chain.{Encrypts}
use Rattle.fk_cbc.specs.KeyDerivation.{cipher_key, initial_vector}
use Rattle.fk_cbc.specs.OpenFault.{Deciphers, FirstOpenFault, HasBadLength, HasMark}
use Rattle.fk_cbc.specs.declared.open_fault.OpenFault.{OpenFault}
use Rattle.fk_cbc.specs.declared.open_fault.OpenFault.TheVariants.{NotSalted, BadLength, BadPadding, NoMemory}
use Rattle.fk_cbc.specs.Padding.{HasPadding, padded, padding}
use Rattle.fk_cbc.specs.Seals.{Seals, salt_in, salt_mark}
use Rattle.fk_cbc.proofs.ChainLemmas.{Encrypts-blocks, Encrypts-same, HasBytes-part}
use Rattle.fk_cbc.proofs.KeyLemmas.{HasBytes-cipher_key, HasBytes-initial_vector}
use Rattle.fk_cbc.proofs.PaddingLemmas.{IsPaddedBy-of}

-- one block more than the plaintext has whole ones
pub length-padded : (plain : List ℕ) → length (padded plain) ≡ 16 + length plain / 16 * 16
length-padded plain =
    omega (arith, length-append plain (padding (16 - length plain % 16)), length-replicate (16 - length plain % 16) (16 - length plain % 16))

-- what stands at which place of sealed bytes
pub record SealedParts (key salt plain sealed : List ℕ) : Type 0 where
  pub mark : HasMark sealed
  pub right_len : HasBadLength sealed → ⊥
  pub salt_is : salt_in sealed ≡ salt
  pub text : Deciphers key sealed (padded plain)

sealed_parts-of : (key salt plain blocks : List ℕ) → length salt ≡ 8 → Encrypts (cipher_key key salt) (initial_vector key salt) (padded plain) blocks
    → SealedParts key salt plain (salt_mark ++ salt ++ blocks)
sealed_parts-of key salt plain blocks size h =
    let sealed : List ℕ = salt_mark ++ salt ++ blocks in
    let front : length (salt_mark ++ salt) ≡ 16 = length-append salt_mark salt ∙ ap (λ n. 8 + n) size in
    let after_mark : drop 8 sealed ≡ salt ++ blocks = ap (drop 8) (append_assoc salt_mark salt blocks) ∙ drop_at salt_mark (salt ++ blocks) 8 refl in
    let salt_is : salt_in sealed ≡ salt = ap (take 8) after_mark ∙ take_at salt blocks 8 size in
    let blocks_are : drop 16 sealed ≡ blocks = drop_at (salt_mark ++ salt) blocks 16 front in
    let b = Encrypts-blocks (HasBytes-cipher_key key salt) (HasBytes-initial_vector key salt) h in
    let total : length sealed ≡ 16 + 16 * b.n = omega (arith, length-append (salt_mark ++ salt) blocks, front, b.encrypted_len) in
    let some : 1 ≤ b.n = omega (arith, length-append plain (padding (16 - length plain % 16)), b.text_len, IsPaddedBy-of (padded plain) plain (16 - length plain % 16) (omega arith) refl) in
    record {
      mark = ap (take 8) (append_assoc salt_mark salt blocks) ∙ take_at salt_mark (salt ++ blocks) 8 refl;
      right_len = λ bad. elim bad [ inl short ↦ omega arith | inr part ↦ part (omega arith) ];
      salt_is = salt_is;
      text =
          subst (λ s. Encrypts (cipher_key key s) (initial_vector key s) (padded plain) (drop 16 sealed)) (sym salt_is)
          (subst (λ r. Encrypts (cipher_key key salt) (initial_vector key salt) (padded plain) r) (sym blocks_are) h);
    }

pub sealed_parts : (key salt plain sealed : List ℕ) → Seals key salt plain sealed → SealedParts key salt plain sealed
sealed_parts key salt plain sealed h =
    subst (λ s. SealedParts key salt plain s) (sym h.sealed_is) (sealed_parts-of key salt plain h.blocks h.salt_is.size h.encrypts)

-- what is deciphered is one text
pub text-same : (key sealed text other : List ℕ) → Deciphers key sealed text → Deciphers key sealed other → text ≡ other
text-same key sealed text other h g =
    Encrypts-same (HasBytes-cipher_key key (salt_in sealed)) (HasBytes-initial_vector key (salt_in sealed)) h g

-- a padded text has one plaintext
padded-same : (plain other : List ℕ) → padded plain ≡ padded other → plain ≡ other
padded-same plain other e =
    let h = IsPaddedBy-of (padded plain) plain (16 - length plain % 16) (omega arith) refl in
    let g = IsPaddedBy-of (padded plain) other (16 - length other % 16) (omega arith) e in
    let n : 16 - length plain % 16 ≡ 16 - length other % 16 = sym h.last ∙ g.last in
    sym h.front ∙ ap (λ k. take (length (padded plain) - k) (padded plain)) n ∙ g.front

pub plaintext-same : (key salt plain other_salt other sealed : List ℕ) → Seals key salt plain sealed → Seals key other_salt other sealed
    → (plain ≡ other) × (salt ≡ other_salt)
plaintext-same key salt plain other_salt other sealed h g =
    let p = sealed_parts key salt plain sealed h in
    let q = sealed_parts key other_salt other sealed g in
    (padded-same plain other (text-same key sealed (padded plain) (padded other) p.text q.text), sym p.salt_is ∙ q.salt_is)

padded-has_padding : (plain : List ℕ) → HasPadding (padded plain)
padded-has_padding plain =
    record { plain = plain; n = 16 - length plain % 16; least = omega arith; most = omega arith; text_is = refl }

-- what nothing is sealed to
pub no_fault : (key salt plain sealed : List ℕ) → Seals key salt plain sealed → (e : OpenFault) → FirstOpenFault key sealed e → ⊥
no_fault key salt plain sealed h NotSalted w = w (sealed_parts key salt plain sealed h).mark
no_fault key salt plain sealed h BadLength w = (sealed_parts key salt plain sealed h).right_len w.1
no_fault key salt plain sealed h BadPadding w =
    let p = sealed_parts key salt plain sealed h in
    w.2.2 (subst HasPadding (text-same key sealed (padded plain) w.2.0 p.text w.2.1) (padded-has_padding plain))
no_fault key salt plain sealed h NoMemory w = w

-- the mark, the salt and the rest are the whole
whole : (sealed : List ℕ) → HasMark sealed → sealed ≡ salt_mark ++ salt_in sealed ++ drop 16 sealed
whole sealed mark =
    let rest : drop 8 sealed ≡ salt_in sealed ++ drop 16 sealed =
    sym (take-append-drop 8 (drop 8 sealed)) ∙ ap (λ r. salt_in sealed ++ r) (drop-drop 8 8 sealed) in
    sym (take-append-drop 8 sealed) ∙ ap (λ r. r ++ drop 8 sealed) mark ∙ ap (λ r. salt_mark ++ r) rest ∙ sym (append_assoc salt_mark (salt_in sealed) (drop 16 sealed))

-- bytes with the mark and a right length whose text has a right padding
pub Seals-from_parts : (key sealed text plain : List ℕ) (n : ℕ) → IsBytes sealed → HasMark sealed → (HasBadLength sealed → ⊥) → Deciphers key sealed text
    → 1 ≤ n → n ≤ 16 → text ≡ plain ++ padding n → Seals key (salt_in sealed) plain sealed
Seals-from_parts key sealed text plain n bytes mark right deciphers least most e =
    let b = Encrypts-blocks (HasBytes-cipher_key key (salt_in sealed)) (HasBytes-initial_vector key (salt_in sealed)) deciphers in
    let p = IsPaddedBy-of text plain n least e in
    let all : n ≡ 16 - length plain % 16 = omega (arith, p.len, b.text_len) in
    let long : (length sealed < 32) → ⊥ = λ short. right (inl short) in
    record {
      blocks = drop 16 sealed;
      salt_is = HasBytes-part 8 sealed 8 8 bytes (omega (arith, long)) refl;
      sealed_is = whole sealed mark;
      encrypts = subst (λ t. Encrypts (cipher_key key (salt_in sealed)) (initial_vector key (salt_in sealed)) t (drop 16 sealed)) (e ∙ ap (λ k. plain ++ padding k) all) deciphers;
    }

-- ---- what the calls write and read

-- the mark, the salt, the plaintext and the first n of sixteen bytes
pub marked_text : (salt plain : List ℕ) (n m : ℕ) → m ≡ 16 - length plain % 16 → n ≡ m
    → salt_mark ++ salt ++ plain ++ take n (replicate 16 m) ≡ salt_mark ++ salt ++ padded plain
marked_text salt plain n m em en =
    let cut : take n (replicate 16 m) ≡ padding (16 - length plain % 16) =
    take-replicate n 16 m (omega arith) ∙ ap (λ k. replicate k m) en ∙ ap (λ k. replicate k k) em in
    append_assoc (salt_mark ++ salt) plain (take n (replicate 16 m)) ∙ ap (λ r. salt_mark ++ salt ++ (plain ++ r)) cut

-- a list whose part from place 16 on is written over
pub put_mid-rest : (r new : List ℕ) → 16 ≤ length r → put_mid 16 (length r - 16) r new ≡ take 16 r ++ new
put_mid-rest r new long =
    let none : drop (length r - 16) (drop 16 r) ≡ [] = drop_all (length r - 16) (drop 16 r) (omega (arith, length-drop 16 r)) in
    rw (none, append-nil) refl

-- the buffer r with the mark, the salt and the padded plaintext, whose blocks are encrypted then
pub Seals-from_writes : (key salt plain ck iv r new out : List ℕ) → HasBytes 8 salt → r ≡ salt_mark ++ salt ++ padded plain
    → ck ≡ cipher_key key salt → iv ≡ initial_vector key salt → Encrypts ck iv (take (length r - 16) (drop 16 r)) new
    → out ≡ take 16 r ++ new → Seals key salt plain out
Seals-from_writes key salt plain ck iv r new out salt_is er ek ei h eo =
    let front : length (salt_mark ++ salt) ≡ 16 = length-append salt_mark salt ∙ ap (λ n. 8 + n) salt_is.size in
    let blocks : take (length r - 16) (drop 16 r) ≡ padded plain =
    take_rest r 16 ∙ ap (drop 16) er ∙ drop_at (salt_mark ++ salt) (padded plain) 16 front in
    record {
      blocks = new;
      salt_is = salt_is;
      sealed_is = eo ∙ ap (λ l. take 16 l ++ new) er ∙ ap (λ l. l ++ new) (take_at (salt_mark ++ salt) (padded plain) 16 front);
      encrypts =
          subst (λ k. Encrypts k (initial_vector key salt) (padded plain) new) ek
          (subst (λ v. Encrypts ck v (padded plain) new) ei
          (subst (λ t. Encrypts ck iv t new) blocks h));
    }

-- the blocks are read from place 16 on, under the salt that stands before them
pub Deciphers-from_reads : (key sealed salt text : List ℕ) → salt ≡ salt_in sealed
    → Encrypts (cipher_key key salt) (initial_vector key salt) text (take (length sealed - 16) (drop 16 sealed)) → Deciphers key sealed text
Deciphers-from_reads key sealed salt text e h =
    subst (λ s. Encrypts (cipher_key key s) (initial_vector key s) text (drop 16 sealed)) e
    (subst (λ r. Encrypts (cipher_key key salt) (initial_vector key salt) text r) (take_rest sealed 16) h)
