-- How many sealed bytes there are, and that they are bytes.
use Rattle.std.proofs.Common.{◌≡◌, ℕ, ◌+◌, ◌*◌, ◌/◌, ◌<◌, lit<, List, [], ◌∷◌, ◌++◌, length, ap, ◌∙◌, subst, sym, arith, inl, inr}
use Rattle.std.specs.List.{All, concat}
use Rattle.std.proofs.lemmas.Bool.{cases_lt}
use Rattle.std.proofs.lemmas.List.{get_or_past, length-append}
use Rattle.std.proofs.lemmas.List.Elements.{All-append, All-nil, All-from_get_or, All-from_recursion}
use Rattle.fk_base.specs.Bytes.{HasBytes, IsBytes}
use Rattle.fk_cbc.specs.Chain.{Chained}
use Rattle.fk_cbc.specs.KeyDerivation.{cipher_key, initial_vector}
use Rattle.fk_cbc.specs.Seals.{Seals, salt_mark}
use Rattle.fk_cbc.proofs.ChainLemmas.{Encrypts-blocks, HasBytes-next}
use Rattle.fk_cbc.proofs.KeyLemmas.{HasBytes-cipher_key, HasBytes-initial_vector}
use Rattle.fk_cbc.proofs.SealLemmas.{length-padded}

bytes_All : (bytes : List ℕ) → IsBytes bytes → All (λ b. b < 256) bytes
bytes_All bytes are = All-from_get_or (λ b. b < 256) bytes 0 (λ i lt. are i)

All_bytes : (bytes : List ℕ) → All (λ b. b < 256) bytes → IsBytes bytes
All_bytes bytes all i = elim (cases_lt i (length bytes)) [
  | inl in' ↦ all i 0 in'
  | inr past ↦ rw (get_or_past bytes i 0 past) (omega arith)
]

chained_bytes : (key v : List ℕ) (ps cs : List (List ℕ)) → HasBytes 32 key → HasBytes 16 v → Chained key v ps cs → All (λ b. b < 256) (concat cs)
chained_bytes key v [] [] hk hv h = All-nil (λ b. b < 256)
chained_bytes key v [] (c ∷ cs) hk hv h = absurd h
chained_bytes key v (p ∷ ps) [] hk hv h = absurd h
chained_bytes key v (p ∷ ps) (c ∷ cs) hk hv h =
    let hc = HasBytes-next key v p c hk hv h.0 h.1 in
    All-append (λ b. b < 256) c (concat cs) (bytes_All c hc.each) (chained_bytes key c ps cs hk hc h.2)

mark_bytes : All (λ b. b < 256) salt_mark
mark_bytes =
    All-from_recursion (λ b. b < 256) salt_mark (lit< tt, (lit< tt, (lit< tt, (lit< tt, (lit< tt, (lit< tt, (lit< tt, (lit< tt, tt))))))))

pub IsBytes-sealed : (key salt plain sealed : List ℕ) → Seals key salt plain sealed → IsBytes sealed
IsBytes-sealed key salt plain sealed h =
    let e = h.encrypts in
    let blocks = chained_bytes (cipher_key key salt) (initial_vector key salt) e.ps e.cs (HasBytes-cipher_key key salt) (HasBytes-initial_vector key salt) e.chained in
    let are : All (λ b. b < 256) h.blocks = subst (All (λ b. b < 256)) (sym e.encrypted_is) blocks in
    let front = All-append (λ b. b < 256) salt_mark salt mark_bytes (bytes_All salt h.salt_is.each) in
    All_bytes sealed (subst (All (λ b. b < 256)) (sym h.sealed_is) (All-append (λ b. b < 256) (salt_mark ++ salt) h.blocks front are))

pub length-sealed : (key salt plain sealed : List ℕ) → Seals key salt plain sealed → length sealed ≡ 32 + length plain / 16 * 16
length-sealed key salt plain sealed h =
    let b = Encrypts-blocks (HasBytes-cipher_key key salt) (HasBytes-initial_vector key salt) h.encrypts in
    let padded = length-padded plain in
    let text = b.text_len in
    let encrypted = b.encrypted_len in
    let front : length (salt_mark ++ salt) ≡ 16 = length-append salt_mark salt ∙ ap (λ n. 8 + n) h.salt_is.size in
    let whole = ap length h.sealed_is ∙ length-append (salt_mark ++ salt) h.blocks in
    omega arith
