-- Chains of blocks: one block more at the end, and that the encrypted blocks leave one text.
use Rattle.std.proofs.Common.{◌≡◌, ℕ, ◌+◌, ◌*◌, ◌/◌, ◌%◌, ◌<◌, ◌≤◌, List, [], ◌∷◌, ◌++◌, length, get_or, take, drop, refl, sym, ap, ◌∙◌, subst, arith, append_assoc, inl, inr}
use Rattle.std.specs.List.{concat}
use Rattle.std.proofs.Math.Seq.{take-add}
use Rattle.std.proofs.lemmas.Bool.{cases_lt}
use Rattle.std.proofs.lemmas.List.{append-nil, drop-drop, drop_at, get_or-drop, get_or-take, get_or_past, length-append, length-drop, length-take, take_all, take_at}
use Rattle.std.proofs.lemmas.Slice.{drop-put_mid, take-put_mid}
use borrow.Rule.Slice.PartMut.{put_mid}
use Rattle.fk_aes.specs.Cipher.{cipher, decipher}
use Rattle.fk_base.specs.Bytes.{IsBytes, HasBytes}
use Rattle.fk_aes.specs.Field.{xor_bytes}
use Rattle.fk_aes.proofs.ByteLists.{HasBytes-xor_bytes, xor_bytes-twice}
use Rattle.fk_aes.proofs.CipherLaws.{HasBytes-cipher, decipher-cipher}
use Rattle.fk_cbc.specs.Chain.{Chained, Encrypts}

-- the last of some blocks, and `before` where there is none
abbrev pub last_block : List ℕ → List (List ℕ) → List ℕ
last_block before [] = before
last_block before (c ∷ cs) = last_block c cs

-- what `Encrypts` says, and which encrypted block is the last
pub record EncryptsUpTo (key vector text encrypted last : List ℕ) : Type 0 where
  pub ps : List (List ℕ)
  pub cs : List (List ℕ)
  pub text_is : text ≡ concat ps
  pub encrypted_is : encrypted ≡ concat cs
  pub chained : Chained key vector ps cs
  pub last_is : last ≡ last_block vector cs

concat-push : (xs : List (List ℕ)) (x : List ℕ) → concat (xs ++ x ∷ []) ≡ concat xs ++ x
concat-push [] x = append-nil x
concat-push (y ∷ xs) x = ap (λ r. y ++ r) (concat-push xs x) ∙ sym (append_assoc y (concat xs) x)

last_block-push : (v : List ℕ) (cs : List (List ℕ)) (c : List ℕ) → last_block v (cs ++ c ∷ []) ≡ c
last_block-push v [] c = refl
last_block-push v (d ∷ cs) c = last_block-push d cs c

Chained-push : (key v : List ℕ) (ps cs : List (List ℕ)) (p c : List ℕ) → Chained key v ps cs → HasBytes 16 p
    → c ≡ cipher key (xor_bytes p (last_block v cs)) → Chained key v (ps ++ p ∷ []) (cs ++ c ∷ [])
Chained-push key v [] [] p c h b e = (b, e, tt)
Chained-push key v [] (d ∷ cs) p c h b e = absurd h
Chained-push key v (q ∷ ps) [] p c h b e = absurd h
Chained-push key v (q ∷ ps) (d ∷ cs) p c h b e = (h.0, h.1, Chained-push key d ps cs p c h.2 b e)

pub EncryptsUpTo-none : (key vector : List ℕ) → EncryptsUpTo key vector [] [] vector
EncryptsUpTo-none key vector =
    record { ps = []; cs = []; text_is = refl; encrypted_is = refl; chained = tt; last_is = refl }

pub EncryptsUpTo-more : {key vector text encrypted last : List ℕ} (p c : List ℕ) → EncryptsUpTo key vector text encrypted last
    → HasBytes 16 p → c ≡ cipher key (xor_bytes p last) → EncryptsUpTo key vector (text ++ p) (encrypted ++ c) c
EncryptsUpTo-more {key = key} {vector = vector} p c h b e =
    let from_last : c ≡ cipher key (xor_bytes p (last_block vector h.cs)) = e ∙ ap (λ r. cipher key (xor_bytes p r)) h.last_is in
    record {
      ps = h.ps ++ p ∷ [];
      cs = h.cs ++ c ∷ [];
      text_is = ap (λ r. r ++ p) h.text_is ∙ sym (concat-push h.ps p);
      encrypted_is = ap (λ r. r ++ c) h.encrypted_is ∙ sym (concat-push h.cs c);
      chained = Chained-push key vector h.ps h.cs p c h.chained b from_last;
      last_is = sym (last_block-push vector h.cs c);
    }

pub EncryptsUpTo-all : {key vector text encrypted last : List ℕ} → EncryptsUpTo key vector text encrypted last → Encrypts key vector text encrypted
EncryptsUpTo-all h = record { ps = h.ps; cs = h.cs; text_is = h.text_is; encrypted_is = h.encrypted_is; chained = h.chained }

-- ---- blocks that are written in place

-- n bytes of a list of bytes
pub HasBytes-part : (n : ℕ) (xs : List ℕ) (a k : ℕ) → IsBytes xs → a + n ≤ length xs → k ≡ n → HasBytes n (take k (drop a xs))
HasBytes-part n xs a k h room e =
    let size : length (take k (drop a xs)) ≡ n = simp (length-take, length-drop) (omega arith) in
    record {
      size = size;
      each = λ j. elim (cases_lt j k) [
        | inl lt ↦ rw (get_or-take k (drop a xs) j 0 lt, get_or-drop a xs j 0) (h (a + j))
        | inr ge ↦ let past : length (take k (drop a xs)) ≤ j = omega arith in rw (get_or_past (take k (drop a xs)) j 0 past) (omega arith)
      ];
    }

-- the list ys is xs with its first blocks changed, and one more is written over
record WritesBlock (xs ys new : List ℕ) (i k : ℕ) : Type 0 where
  size : length (put_mid (16 * i) k ys new) ≡ length xs
  before : take (16 * (i + 1)) xs ≡ take (16 * i) xs ++ take k (drop (16 * i) ys)
  after : take (16 * (i + 1)) (put_mid (16 * i) k ys new) ≡ take (16 * i) ys ++ new
  rest : drop (16 * (i + 1)) (put_mid (16 * i) k ys new) ≡ drop (16 * (i + 1)) xs

writes_block : (xs ys new : List ℕ) (i k : ℕ) → k ≡ 16 → length ys ≡ length xs → 16 * i + 16 ≤ length xs → length new ≡ 16
    → drop (16 * i) ys ≡ drop (16 * i) xs → WritesBlock xs ys new i k
writes_block xs ys new i k ek same room size rest =
    let next : 16 * (i + 1) ≡ 16 * i + k = omega arith in
    let here : 16 * i ≤ length ys = omega arith in
    let new_size : length new ≡ k = omega arith in
    record {
      size = simp (length-append, length-take, length-drop) (omega arith);
      before = ap (λ n. take n xs) next ∙ take-add (16 * i) k xs ∙ ap (λ r. take (16 * i) xs ++ take k r) (sym rest);
      after = take-put_mid (16 * i) k ys new (16 * (i + 1)) (omega arith) here;
      rest =
          drop-put_mid (16 * i) k ys new (16 * (i + 1)) (omega arith) here new_size
          ∙ ap (λ n. drop n ys) next
          ∙ sym (drop-drop k (16 * i) ys)
          ∙ ap (drop k) rest
          ∙ drop-drop k (16 * i) xs
          ∙ ap (λ n. drop n xs) (sym next);
    }

-- the first i blocks of xs are encrypted in ys, and the others are as they were
pub record SealedUpTo (key vector xs ys : List ℕ) (i : ℕ) (last : List ℕ) : Type 0 where
  pub size : length ys ≡ length xs
  pub bytes : (j : ℕ) → get_or xs j 0 < 256
  pub rest : drop (16 * i) ys ≡ drop (16 * i) xs
  pub done : EncryptsUpTo key vector (take (16 * i) xs) (take (16 * i) ys) last

-- the first i blocks of xs are decrypted in ys, and the others are as they were
pub record OpenedUpTo (key vector xs ys : List ℕ) (i : ℕ) (last : List ℕ) : Type 0 where
  pub size : length ys ≡ length xs
  pub rest : drop (16 * i) ys ≡ drop (16 * i) xs
  pub done : EncryptsUpTo key vector (take (16 * i) ys) (take (16 * i) xs) last

pub SealedUpTo-none : (key vector xs : List ℕ) → ((j : ℕ) → get_or xs j 0 < 256) → SealedUpTo key vector xs xs 0 vector
SealedUpTo-none key vector xs h = record { size = refl; bytes = h; rest = refl; done = EncryptsUpTo-none key vector }

pub OpenedUpTo-none : (key vector xs : List ℕ) → OpenedUpTo key vector xs xs 0 vector
OpenedUpTo-none key vector xs = record { size = refl; rest = refl; done = EncryptsUpTo-none key vector }

pub SealedUpTo-more : (key vector xs ys : List ℕ) (i : ℕ) (last new next : List ℕ) (k : ℕ) → SealedUpTo key vector xs ys i last
    → k ≡ 16 → i < length xs / 16 → length new ≡ 16 → new ≡ next → next ≡ cipher key (xor_bytes (take k (drop (16 * i) ys)) last)
    → SealedUpTo key vector xs (put_mid (16 * i) k ys new) (i + 1) next
SealedUpTo-more key vector xs ys i last new next k h ek lt size written sealed =
    let room : 16 * i + 16 ≤ length xs = omega arith in
    let block : HasBytes 16 (take k (drop (16 * i) ys)) = rw h.rest (HasBytes-part 16 xs (16 * i) k h.bytes room ek) in
    let w = writes_block xs ys new i k ek h.size room size h.rest in
    let more : EncryptsUpTo key vector (take (16 * i) xs ++ take k (drop (16 * i) ys)) (take (16 * i) ys ++ next) next =
    EncryptsUpTo-more (take k (drop (16 * i) ys)) next h.done block sealed in
    record {
      size = w.size;
      bytes = h.bytes;
      rest = w.rest;
      done =
          subst (λ r. EncryptsUpTo key vector (take (16 * (i + 1)) xs) r next) (sym (w.after ∙ ap (λ r. take (16 * i) ys ++ r) written))
          (subst (λ r. EncryptsUpTo key vector r (take (16 * i) ys ++ next) next) (sym w.before) more);
    }

pub OpenedUpTo-more : (key vector xs ys : List ℕ) (i : ℕ) (last new next : List ℕ) (k : ℕ) → OpenedUpTo key vector xs ys i last
    → k ≡ 16 → i < length xs / 16 → HasBytes 16 new → next ≡ take k (drop (16 * i) ys)
    → take k (drop (16 * i) ys) ≡ cipher key (xor_bytes new last)
    → OpenedUpTo key vector xs (put_mid (16 * i) k ys new) (i + 1) next
OpenedUpTo-more key vector xs ys i last new next k h ek lt new_bytes was plain =
    let room : 16 * i + 16 ≤ length xs = omega arith in
    let w = writes_block xs ys new i k ek h.size room new_bytes.size h.rest in
    let more : EncryptsUpTo key vector (take (16 * i) ys ++ new) (take (16 * i) xs ++ next) next =
    EncryptsUpTo-more new next h.done new_bytes (was ∙ plain) in
    record {
      size = w.size;
      rest = w.rest;
      done =
          subst (λ r. EncryptsUpTo key vector r (take (16 * (i + 1)) xs) next) (sym w.after)
          (subst (λ r. EncryptsUpTo key vector (take (16 * i) ys ++ new) r next) (sym (w.before ∙ ap (λ r. take (16 * i) xs ++ r) (sym was))) more);
    }

pub SealedUpTo-all : (key vector xs ys : List ℕ) (i : ℕ) (last : List ℕ) → SealedUpTo key vector xs ys i last
    → length xs % 16 ≡ 0 → length xs / 16 ≤ i → Encrypts key vector xs ys
SealedUpTo-all key vector xs ys i last h whole done =
    let far : length xs ≤ 16 * i = omega arith in
    let far_too : length ys ≤ 16 * i = omega (arith, h.size) in
    subst (λ r. Encrypts key vector xs r) (take_all (16 * i) ys far_too)
    (subst (λ r. Encrypts key vector r (take (16 * i) ys)) (take_all (16 * i) xs far) (EncryptsUpTo-all h.done))

pub OpenedUpTo-all : (key vector xs ys : List ℕ) (i : ℕ) (last : List ℕ) → OpenedUpTo key vector xs ys i last
    → length xs % 16 ≡ 0 → length xs / 16 ≤ i → Encrypts key vector ys xs
OpenedUpTo-all key vector xs ys i last h whole done =
    let far : length xs ≤ 16 * i = omega arith in
    let far_too : length ys ≤ 16 * i = omega (arith, h.size) in
    subst (λ r. Encrypts key vector r xs) (take_all (16 * i) ys far_too)
    (subst (λ r. Encrypts key vector (take (16 * i) ys) r) (take_all (16 * i) xs far) (EncryptsUpTo-all h.done))

-- ---- one text for the encrypted blocks

-- two lists with fronts of one length
front-same : (a b xs ys : List ℕ) → length a ≡ length b → a ++ xs ≡ b ++ ys → a ≡ b
front-same a b xs ys l e = sym (take_at a xs (length a) refl) ∙ ap (take (length a)) e ∙ take_at b ys (length a) (sym l)

back-same : (a b xs ys : List ℕ) → length a ≡ length b → a ++ xs ≡ b ++ ys → xs ≡ ys
back-same a b xs ys l e = sym (drop_at a xs (length a) refl) ∙ ap (drop (length a)) e ∙ drop_at b ys (length a) (sym l)

-- a block of the cipher has one plain block
plain-same : (key v p q : List ℕ) → HasBytes 32 key → HasBytes 16 v → HasBytes 16 p → HasBytes 16 q
    → cipher key (xor_bytes p v) ≡ cipher key (xor_bytes q v) → p ≡ q
plain-same key v p q hk hv hp hq e =
    let under : xor_bytes p v ≡ xor_bytes q v =
    sym (decipher-cipher key (xor_bytes p v) hk (HasBytes-xor_bytes 16 p v hp hv)) ∙ ap (decipher key) e ∙ decipher-cipher key (xor_bytes q v) hk (HasBytes-xor_bytes 16 q v hq hv) in
    sym (xor_bytes-twice p v (hp.size ∙ sym hv.size)) ∙ ap (λ r. xor_bytes r v) under ∙ xor_bytes-twice q v (hq.size ∙ sym hv.size)

pub HasBytes-next : (key v p c : List ℕ) → HasBytes 32 key → HasBytes 16 v → HasBytes 16 p → c ≡ cipher key (xor_bytes p v) → HasBytes 16 c
HasBytes-next key v p c hk hv hp e =
    subst (HasBytes 16) (sym e) (HasBytes-cipher key (xor_bytes p v) hk (HasBytes-xor_bytes 16 p v hp hv))

texts-same : (key v : List ℕ) (ps cs qs ds : List (List ℕ)) → HasBytes 32 key → HasBytes 16 v → Chained key v ps cs → Chained key v qs ds
    → concat cs ≡ concat ds → concat ps ≡ concat qs
texts-same key v [] [] [] [] hk hv h g e = refl
texts-same key v [] [] [] (d ∷ ds) hk hv h g e = absurd g
texts-same key v [] [] (q ∷ qs) [] hk hv h g e = absurd g
texts-same key v [] [] (q ∷ qs) (d ∷ ds) hk hv h g e =
    absurd (omega (arith, (HasBytes-next key v q d hk hv g.0 g.1).size, ap length e, length-append d (concat ds)))
texts-same key v [] (c ∷ cs) qs ds hk hv h g e = absurd h
texts-same key v (p ∷ ps) [] qs ds hk hv h g e = absurd h
texts-same key v (p ∷ ps) (c ∷ cs) [] [] hk hv h g e =
    absurd (omega (arith, (HasBytes-next key v p c hk hv h.0 h.1).size, ap length e, length-append c (concat cs)))
texts-same key v (p ∷ ps) (c ∷ cs) [] (d ∷ ds) hk hv h g e = absurd g
texts-same key v (p ∷ ps) (c ∷ cs) (q ∷ qs) [] hk hv h g e = absurd g
texts-same key v (p ∷ ps) (c ∷ cs) (q ∷ qs) (d ∷ ds) hk hv h g e =
    let hc = HasBytes-next key v p c hk hv h.0 h.1 in
    let hd = HasBytes-next key v q d hk hv g.0 g.1 in
    let sizes : length c ≡ length d = hc.size ∙ sym hd.size in
    let firsts : c ≡ d = front-same c d (concat cs) (concat ds) sizes e in
    let rests : concat cs ≡ concat ds = back-same c d (concat cs) (concat ds) sizes e in
    let plains : p ≡ q = plain-same key v p q hk hv h.0 g.0 (sym h.1 ∙ firsts ∙ g.1) in
    let more : concat ps ≡ concat qs = texts-same key c ps cs qs ds hk hc h.2 (subst (λ r. Chained key r qs ds) (sym firsts) g.2) rests in
    λ i. plains i ++ more i

pub Encrypts-same : {key vector text other encrypted : List ℕ} → HasBytes 32 key → HasBytes 16 vector
    → Encrypts key vector text encrypted → Encrypts key vector other encrypted → text ≡ other
Encrypts-same {key = key} {vector = vector} hk hv h g =
    h.text_is ∙ texts-same key vector h.ps h.cs g.ps g.cs hk hv h.chained g.chained (sym h.encrypted_is ∙ g.encrypted_is) ∙ sym g.text_is

-- as many blocks in the text as in the encrypted one
pub record HasBlocks (text encrypted : List ℕ) : Type 0 where
  pub n : ℕ
  pub text_len : length text ≡ 16 * n
  pub encrypted_len : length encrypted ≡ 16 * n

Chained-blocks : (key v : List ℕ) (ps cs : List (List ℕ)) → HasBytes 32 key → HasBytes 16 v → Chained key v ps cs → HasBlocks (concat ps) (concat cs)
Chained-blocks key v [] [] hk hv h = record { n = 0; text_len = refl; encrypted_len = refl }
Chained-blocks key v [] (c ∷ cs) hk hv h = absurd h
Chained-blocks key v (p ∷ ps) [] hk hv h = absurd h
Chained-blocks key v (p ∷ ps) (c ∷ cs) hk hv h =
    let hc = HasBytes-next key v p c hk hv h.0 h.1 in
    let more = Chained-blocks key c ps cs hk hc h.2 in
    record {
      n = more.n + 1;
      text_len = omega (arith, length-append p (concat ps), h.0.size, more.text_len);
      encrypted_len = omega (arith, length-append c (concat cs), hc.size, more.encrypted_len);
    }

pub Encrypts-blocks : {key vector text encrypted : List ℕ} → HasBytes 32 key → HasBytes 16 vector → Encrypts key vector text encrypted → HasBlocks text encrypted
Encrypts-blocks {key = key} {vector = vector} hk hv h =
    let b = Chained-blocks key vector h.ps h.cs hk hv h.chained in
    record { n = b.n; text_len = ap length h.text_is ∙ b.text_len; encrypted_len = ap length h.encrypted_is ∙ b.encrypted_len }
