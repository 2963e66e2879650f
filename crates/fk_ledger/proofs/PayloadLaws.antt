-- What is read of a payload was written so, and what was written is read again.
use Rattle.std.proofs.Common.{◌≡◌, ℕ, zero, suc, ◌+◌, ◌^◌, ◌<◌, ◌≤◌, Bool, true, false, cond, ltb, eqb, List, [], ◌∷◌, ◌++◌, length, take, drop, Option, Some, None, refl, sym, ap, subst, ◌∙◌, append_assoc, arith, inl, inr}
use Rattle.std.specs.Int.{Width, w16, w32, w64, byte_len, from_be_bytes, to_be_bytes}
use Rattle.std.specs.List.{flat_map, All}
use Rattle.std.proofs.lemmas.Bool.{cases_lt, ltb-false, le-ltb, eqb-true}
use Rattle.std.proofs.lemmas.List.{take_at, drop_at, take-append-drop, length-append, length-take, length-take-le, get_or-drop, get_or-take, get_or_past, append-nil, nil_from_length}
use Rattle.std.proofs.lemmas.List.Elements.{All-head, All-tail}
use Rattle.std.proofs.lemmas.Nat.{be_bytes_2, be_bytes_4, be_bytes_8, from_be_bytes-to_be_bytes_2, from_be_bytes-to_be_bytes_4, from_be_bytes-to_be_bytes_8}
use Rattle.fk_base.specs.Bytes.{IsBytes, HasBytes}
use Rattle.fk_ledger.specs.Payloads.{word_bytes, words_bytes}
use Rattle.fk_ledger.specs.declared.reading.Head.{Head}
use Rattle.fk_ledger.specs.Reading.{◌>>=◌, number_at, piece_at, byte_at, word_at, texts_at, words_in, head_at, pair_at}

IsBytes-drop : (n : ℕ) (bytes : List ℕ) → IsBytes bytes → IsBytes (drop n bytes)
IsBytes-drop n bytes h i = rw get_or-drop (h (n + i))

IsBytes-take : (n : ℕ) (bytes : List ℕ) → IsBytes bytes → IsBytes (take n bytes)
IsBytes-take n bytes h i =
    elim (cases_lt i n) [
      | inl lt ↦ rw (get_or-take n bytes i 0 lt) (h i)
      | inr le ↦ rw (get_or_past (take n bytes) i 0 (omega (arith, length-take n bytes))) (omega arith)
    ]

-- the value of a step that did not fail
pub bind_some : {A B : Type 0} (r : Option A) (f : A → Option B) (y : B) → (r >>= f) ≡ Some y → (x : A) × (r ≡ Some x) × (f x ≡ Some y)
bind_some (Some x) f y e = (x, refl, e)
bind_some None f y e = absurd cc

-- a test that did not fail
pub guard_some : {A : Type 0} (b : Bool) (x y : A) → cond b None (Some x) ≡ Some y → (b ≡ false) × (x ≡ y)
guard_some true x y e = absurd cc
guard_some false x y e = (refl, cc)

guard_ended : {A : Type 0} (b : Bool) (x y : A) → cond b (Some x) None ≡ Some y → (b ≡ true) × (x ≡ y)
guard_ended true x y e = (refl, cc)
guard_ended false x y e = absurd cc

pub some_is : {A : Type 0} (x y : A) → Some x ≡ Some y → x ≡ y
some_is x y e = cc

-- what a reader took from the front
pub record Takes (bytes text rest : List ℕ) : Type 0 where
  pub parts : bytes ≡ text ++ rest
  pub rest_fits : IsBytes rest

-- ---- numbers

pub record IsWide (w : Width) (limit : ℕ) : Type 0 where
  pub len : (n : ℕ) → length (to_be_bytes w n) ≡ byte_len w
  pub back : (bytes : List ℕ) → length bytes ≡ byte_len w → IsBytes bytes → to_be_bytes w (from_be_bytes w bytes) ≡ bytes
  pub again : (n : ℕ) → n < limit → from_be_bytes w (to_be_bytes w n) ≡ n
  pub below : (bytes : List ℕ) → IsBytes bytes → from_be_bytes w bytes < limit

pub wide16 : IsWide w16 (2 ^ 16)
wide16 = record {
  len = λ n. refl;
  back = λ bytes len fits. be_bytes_2 bytes _ len fits refl;
  again = λ n lt. from_be_bytes-to_be_bytes_2 n lt;
  below = λ bytes fits. omega (arith, fits 0, fits 1);
}

pub wide32 : IsWide w32 (2 ^ 32)
wide32 = record {
  len = λ n. refl;
  back = λ bytes len fits. be_bytes_4 bytes _ len fits refl;
  again = λ n lt. from_be_bytes-to_be_bytes_4 n lt;
  below = λ bytes fits. omega (arith, fits 0, fits 1, fits 2, fits 3);
}

pub wide64 : IsWide w64 (2 ^ 64)
wide64 = record {
  len = λ n. refl;
  back = λ bytes len fits. be_bytes_8 bytes _ len fits refl;
  again = λ n lt. from_be_bytes-to_be_bytes_8 n lt;
  below = λ bytes fits. omega (arith, fits 0, fits 1, fits 2, fits 3, fits 4, fits 5, fits 6, fits 7);
}

pub number_takes : (w : Width) (limit : ℕ) (wide : IsWide w limit) (bytes : List ℕ) (n : ℕ) (rest : List ℕ) → IsBytes bytes → number_at w bytes ≡ Some (n, rest) → Takes bytes (to_be_bytes w n) rest × (n < limit)
number_takes w limit wide bytes n rest fits e =
    let g = guard_some (ltb (length bytes) (byte_len w)) (from_be_bytes w (take (byte_len w) bytes), drop (byte_len w) bytes) (n, rest) e in
    let long : byte_len w ≤ length bytes = ltb-false _ _ g.0 in
    let n-is : from_be_bytes w (take (byte_len w) bytes) ≡ n = ap (λ (p : ℕ × List ℕ). p.0) g.1 in
    let rest-is : drop (byte_len w) bytes ≡ rest = ap (λ (p : ℕ × List ℕ). p.1) g.1 in
    let front : to_be_bytes w n ≡ take (byte_len w) bytes = rw (← n-is) (wide.back (take (byte_len w) bytes) (omega (arith, length-take (byte_len w) bytes)) (IsBytes-take (byte_len w) bytes fits)) in
    (record { parts = rw (front, ← rest-is) (sym (take-append-drop (byte_len w) bytes)); rest_fits = rw (← rest-is) (IsBytes-drop (byte_len w) bytes fits) }, rw (← n-is) (wide.below (take (byte_len w) bytes) (IsBytes-take (byte_len w) bytes fits)))

pub number_again : (w : Width) (limit : ℕ) (wide : IsWide w limit) (n : ℕ) (rest : List ℕ) → n < limit → number_at w (to_be_bytes w n ++ rest) ≡ Some (n, rest)
number_again w limit wide n rest lt =
    let len = wide.len n in
    let long : ltb (length (to_be_bytes w n ++ rest)) (byte_len w) ≡ false = le-ltb _ _ (omega (arith, length-append (to_be_bytes w n) rest)) in
    rw (long, take_at (to_be_bytes w n) rest (byte_len w) len, drop_at (to_be_bytes w n) rest (byte_len w) len, wide.again n lt) refl

-- ---- pieces and bytes

pub piece_takes : (n : ℕ) (bytes piece rest : List ℕ) → IsBytes bytes → piece_at n bytes ≡ Some (piece, rest) → Takes bytes piece rest × HasBytes n piece
piece_takes n bytes piece rest fits e =
    let g = guard_some (ltb (length bytes) n) (take n bytes, drop n bytes) (piece, rest) e in
    let long : n ≤ length bytes = ltb-false _ _ g.0 in
    subst (λ (p : List ℕ × List ℕ). Takes bytes p.0 p.1 × HasBytes n p.0) g.1
    (record { parts = sym (take-append-drop n bytes); rest_fits = IsBytes-drop n bytes fits }, record { size = length-take-le n bytes long; each = IsBytes-take n bytes fits })

pub piece_again : (n : ℕ) (piece rest : List ℕ) → length piece ≡ n → piece_at n (piece ++ rest) ≡ Some (piece, rest)
piece_again n piece rest size =
    let long : ltb (length (piece ++ rest)) n ≡ false = le-ltb _ _ (omega (arith, length-append piece rest)) in
    rw (long, take_at piece rest n size, drop_at piece rest n size) refl

pub byte_takes : (bytes : List ℕ) (byte : ℕ) (rest : List ℕ) → IsBytes bytes → byte_at bytes ≡ Some (byte, rest) → (bytes ≡ byte ∷ rest) × (byte < 256) × IsBytes rest
unfolding byte_at
byte_takes [] byte rest fits e = absurd cc
byte_takes (first ∷ others) byte rest fits e =
    subst (λ (p : ℕ × List ℕ). (first ∷ others ≡ p.0 ∷ p.1) × (p.0 < 256) × IsBytes p.1) (some_is (first, others) (byte, rest) e) (refl, fits 0, λ i. fits (suc i))

pub byte_again : (byte : ℕ) (rest : List ℕ) → byte_at (byte ∷ rest) ≡ Some (byte, rest)
unfolding byte_at
byte_again byte rest = refl

-- ---- words

pub word_takes : (bytes word rest : List ℕ) → IsBytes bytes → word_at bytes ≡ Some (word, rest) → Takes bytes (word_bytes word) rest
unfolding word_at
word_takes bytes word rest fits e =
    let b = bind_some (number_at w16 bytes) (λ size. piece_at size.0 size.1) (word, rest) e in
    let t = number_takes w16 (2 ^ 16) wide16 bytes b.0.0 b.0.1 fits b.1 in
    let p = piece_takes b.0.0 b.0.1 word rest t.0.rest_fits b.2 in
    record {
      parts = t.0.parts ∙ ap (λ (x : List ℕ). to_be_bytes w16 b.0.0 ++ x) p.0.parts ∙ sym (append_assoc (to_be_bytes w16 b.0.0) word rest) ∙ ap (λ (n : ℕ). (to_be_bytes w16 n ++ word) ++ rest) (sym p.1.size);
      rest_fits = p.0.rest_fits;
    }

pub word_again : (word rest : List ℕ) → length word < 2 ^ 16 → word_at (word_bytes word ++ rest) ≡ Some (word, rest)
unfolding word_at
word_again word rest small =
    let regrouped : word_bytes word ++ rest ≡ to_be_bytes w16 (length word) ++ (word ++ rest) = append_assoc (to_be_bytes w16 (length word)) word rest in
    ap word_at regrouped ∙ rw (number_again w16 (2 ^ 16) wide16 (length word) (word ++ rest) small, piece_again (length word) word rest refl) refl

pub texts_take : (n : ℕ) (bytes : List ℕ) (x : List (List ℕ) × List ℕ) → IsBytes bytes → texts_at n bytes ≡ Some x → Takes bytes (flat_map word_bytes x.0) x.1 × (length x.0 ≡ n)
unfolding texts_at
texts_take zero bytes x fits e =
    subst (λ (y : List (List ℕ) × List ℕ). Takes bytes (flat_map word_bytes y.0) y.1 × (length y.0 ≡ 0)) (some_is ([], bytes) x e) (record { parts = refl; rest_fits = fits }, refl)
texts_take (suc n) bytes x fits e =
    let a = bind_some (word_at bytes) (λ first. texts_at n first.1 >>= λ others. Some (first.0 ∷ others.0, others.1)) x e in
    let b = bind_some (texts_at n a.0.1) (λ others. Some (a.0.0 ∷ others.0, others.1)) x a.2 in
    let first = word_takes bytes a.0.0 a.0.1 fits a.1 in
    let second = texts_take n a.0.1 b.0 first.rest_fits b.1 in
    let parts : bytes ≡ flat_map word_bytes (a.0.0 ∷ b.0.0) ++ b.0.1 = first.parts ∙ ap (λ (t : List ℕ). word_bytes a.0.0 ++ t) second.0.parts ∙ sym (append_assoc (word_bytes a.0.0) (flat_map word_bytes b.0.0) b.0.1) in
    let made : List (List ℕ) × List ℕ = (a.0.0 ∷ b.0.0, b.0.1) in
    subst (λ (y : List (List ℕ) × List ℕ). Takes bytes (flat_map word_bytes y.0) y.1 × (length y.0 ≡ suc n)) (some_is made x b.2) (record { parts = parts; rest_fits = second.0.rest_fits }, ap suc second.1)

pub texts_again : (words : List (List ℕ)) (rest : List ℕ) → All (λ word. length word < 2 ^ 16) words → texts_at (length words) (flat_map word_bytes words ++ rest) ≡ Some (words, rest)
unfolding texts_at
texts_again [] rest small = refl
texts_again (word ∷ words) rest small =
    let regrouped : flat_map word_bytes (word ∷ words) ++ rest ≡ word_bytes word ++ (flat_map word_bytes words ++ rest) = append_assoc (word_bytes word) (flat_map word_bytes words) rest in
    ap (texts_at (suc (length words))) regrouped ∙ rw (word_again word (flat_map word_bytes words ++ rest) (All-head (λ (word : List ℕ). length word < 2 ^ 16) word words small), texts_again words rest (All-tail (λ (word : List ℕ). length word < 2 ^ 16) word words small)) refl

pub words_take : (bytes : List ℕ) (words : List (List ℕ)) → IsBytes bytes → words_in bytes ≡ Some words → bytes ≡ words_bytes words
unfolding words_in
words_take bytes words fits e =
    let a = bind_some (byte_at bytes) (λ count. texts_at count.0 count.1 >>= λ x. cond (eqb (length x.1) 0) (Some x.0) None) words e in
    let b = bind_some (texts_at a.0.0 a.0.1) (λ x. cond (eqb (length x.1) 0) (Some x.0) None) words a.2 in
    let g = guard_ended (eqb (length b.0.1) 0) b.0.0 words b.2 in
    let first = byte_takes bytes a.0.0 a.0.1 fits a.1 in
    let second = texts_take a.0.0 a.0.1 b.0 first.2 b.1 in
    let nothing : b.0.1 ≡ [] = nil_from_length b.0.1 (eqb-true _ _ g.0) in
    let rest : a.0.1 ≡ flat_map word_bytes b.0.0 = second.0.parts ∙ ap (λ (r : List ℕ). flat_map word_bytes b.0.0 ++ r) nothing ∙ append-nil (flat_map word_bytes b.0.0) in
    let whole : bytes ≡ words_bytes b.0.0 = first.0 ∙ ap (λ (r : List ℕ). a.0.0 ∷ r) rest ∙ ap (λ (n : ℕ). n ∷ flat_map word_bytes b.0.0) (sym second.1) in
    subst (λ (v : List (List ℕ)). bytes ≡ words_bytes v) g.1 whole

pub words_again : (words : List (List ℕ)) → All (λ word. length word < 2 ^ 16) words → words_in (words_bytes words) ≡ Some words
unfolding words_in byte_at
words_again words small =
    let rest : texts_at (length words) (flat_map word_bytes words) ≡ Some (words, []) = ap (texts_at (length words)) (sym (append-nil (flat_map word_bytes words))) ∙ texts_again words [] small in
    rw rest refl

-- ---- what stands before the words

-- a head's bytes, and bytes behind them
abbrev pub head_then : Head → List ℕ → List ℕ
head_then h rest =
    to_be_bytes w64 h.id ++ (h.digest ++ (to_be_bytes w64 h.stamp ++ (to_be_bytes w64 h.moment ++ (to_be_bytes w64 h.due ++ (to_be_bytes w32 h.ip ++ (h.proto ∷ (to_be_bytes w16 h.port ++ rest)))))))

pub record HeadFits (h : Head) : Type 0 where
  pub id : h.id < 2 ^ 64
  pub digest : HasBytes 32 h.digest
  pub stamp : h.stamp < 2 ^ 64
  pub moment : h.moment < 2 ^ 64
  pub due : h.due < 2 ^ 64
  pub ip : h.ip < 2 ^ 32
  pub port : h.port < 2 ^ 16

abbrev head_with : ℕ → List ℕ → ℕ → ℕ → ℕ → ℕ → ℕ → ℕ → Head
head_with id digest stamp moment due ip proto port = record { id = id; digest = digest; stamp = stamp; moment = moment; due = due; ip = ip; proto = proto; port = port }

-- what is read from the port on, and then from each field before it on
port_takes : (i : ℕ) (g : List ℕ) (s m d p t : ℕ) (bytes : List ℕ) (x : Head × List ℕ) → IsBytes bytes → (number_at w16 bytes >>= λ port. Some (head_with i g s m d p t port.0, port.1)) ≡ Some x
    → (bytes ≡ to_be_bytes w16 x.0.port ++ x.1) × (x.0.port < 2 ^ 16) × IsBytes x.1 × (x.0 ≡ head_with i g s m d p t x.0.port)
port_takes i g s m d p t bytes x fits e =
    let b = bind_some (number_at w16 bytes) (λ port. Some (head_with i g s m d p t port.0, port.1)) x e in
    let n = number_takes w16 (2 ^ 16) wide16 bytes b.0.0 b.0.1 fits b.1 in
    subst (λ (y : Head × List ℕ). (bytes ≡ to_be_bytes w16 y.0.port ++ y.1) × (y.0.port < 2 ^ 16) × IsBytes y.1 × (y.0 ≡ head_with i g s m d p t y.0.port)) (some_is (head_with i g s m d p t b.0.0, b.0.1) x b.2) (n.0.parts, n.1, n.0.rest_fits, refl)

proto_takes : (i : ℕ) (g : List ℕ) (s m d p : ℕ) (bytes : List ℕ) (x : Head × List ℕ) → IsBytes bytes
    → (byte_at bytes >>= λ proto. number_at w16 proto.1 >>= λ port. Some (head_with i g s m d p proto.0 port.0, port.1)) ≡ Some x
    → (bytes ≡ x.0.proto ∷ (to_be_bytes w16 x.0.port ++ x.1)) × (x.0.port < 2 ^ 16) × IsBytes x.1 × (x.0 ≡ head_with i g s m d p x.0.proto x.0.port)
proto_takes i g s m d p bytes x fits e =
    let b = bind_some (byte_at bytes) (λ proto. number_at w16 proto.1 >>= λ port. Some (head_with i g s m d p proto.0 port.0, port.1)) x e in
    let t = byte_takes bytes b.0.0 b.0.1 fits b.1 in
    let r = port_takes i g s m d p b.0.0 b.0.1 x t.2 b.2 in
    let same : b.0.0 ≡ x.0.proto = sym (ap (λ (h : Head). h.proto) r.3) in
    (t.0 ∙ ap (λ rest. b.0.0 ∷ rest) r.0 ∙ ap (λ byte. byte ∷ (to_be_bytes w16 x.0.port ++ x.1)) same, r.1, r.2, r.3 ∙ ap (λ n. head_with i g s m d p n x.0.port) same)

ip_takes : (i : ℕ) (g : List ℕ) (s m d : ℕ) (bytes : List ℕ) (x : Head × List ℕ) → IsBytes bytes
    → (number_at w32 bytes >>= λ ip. byte_at ip.1 >>= λ proto. number_at w16 proto.1 >>= λ port. Some (head_with i g s m d ip.0 proto.0 port.0, port.1)) ≡ Some x
    → (bytes ≡ to_be_bytes w32 x.0.ip ++ (x.0.proto ∷ (to_be_bytes w16 x.0.port ++ x.1))) × (x.0.port < 2 ^ 16) × IsBytes x.1 × (x.0 ≡ head_with i g s m d x.0.ip x.0.proto x.0.port) × (x.0.ip < 2 ^ 32)
ip_takes i g s m d bytes x fits e =
    let b = bind_some (number_at w32 bytes) (λ ip. byte_at ip.1 >>= λ proto. number_at w16 proto.1 >>= λ port. Some (head_with i g s m d ip.0 proto.0 port.0, port.1)) x e in
    let t = number_takes w32 (2 ^ 32) wide32 bytes b.0.0 b.0.1 fits b.1 in
    let r = proto_takes i g s m d b.0.0 b.0.1 x t.0.rest_fits b.2 in
    let same : b.0.0 ≡ x.0.ip = sym (ap (λ (h : Head). h.ip) r.3) in
    (t.0.parts ∙ ap (λ rest. to_be_bytes w32 b.0.0 ++ rest) r.0 ∙ ap (λ n. to_be_bytes w32 n ++ (x.0.proto ∷ (to_be_bytes w16 x.0.port ++ x.1))) same, r.1, r.2, r.3 ∙ ap (λ n. head_with i g s m d n x.0.proto x.0.port) same, subst (λ n. n < 2 ^ 32) same t.1)

due_takes : (i : ℕ) (g : List ℕ) (s m : ℕ) (bytes : List ℕ) (x : Head × List ℕ) → IsBytes bytes
    → (number_at w64 bytes >>= λ due. number_at w32 due.1 >>= λ ip. byte_at ip.1 >>= λ proto. number_at w16 proto.1 >>= λ port. Some (head_with i g s m due.0 ip.0 proto.0 port.0, port.1)) ≡ Some x
    → (bytes ≡ to_be_bytes w64 x.0.due ++ (to_be_bytes w32 x.0.ip ++ (x.0.proto ∷ (to_be_bytes w16 x.0.port ++ x.1)))) × (x.0.port < 2 ^ 16) × IsBytes x.1
    × (x.0 ≡ head_with i g s m x.0.due x.0.ip x.0.proto x.0.port) × (x.0.ip < 2 ^ 32) × (x.0.due < 2 ^ 64)
due_takes i g s m bytes x fits e =
    let b = bind_some (number_at w64 bytes) (λ due. number_at w32 due.1 >>= λ ip. byte_at ip.1 >>= λ proto. number_at w16 proto.1 >>= λ port. Some (head_with i g s m due.0 ip.0 proto.0 port.0, port.1)) x e in
    let t = number_takes w64 (2 ^ 64) wide64 bytes b.0.0 b.0.1 fits b.1 in
    let r = ip_takes i g s m b.0.0 b.0.1 x t.0.rest_fits b.2 in
    let same : b.0.0 ≡ x.0.due = sym (ap (λ (h : Head). h.due) r.3) in
    (t.0.parts ∙ ap (λ rest. to_be_bytes w64 b.0.0 ++ rest) r.0 ∙ ap (λ n. to_be_bytes w64 n ++ (to_be_bytes w32 x.0.ip ++ (x.0.proto ∷ (to_be_bytes w16 x.0.port ++ x.1)))) same, r.1, r.2, r.3 ∙ ap (λ n. head_with i g s m n x.0.ip x.0.proto x.0.port) same, r.4, subst (λ n. n < 2 ^ 64) same t.1)

moment_takes : (i : ℕ) (g : List ℕ) (s : ℕ) (bytes : List ℕ) (x : Head × List ℕ) → IsBytes bytes
    → (number_at w64 bytes >>= λ moment. number_at w64 moment.1 >>= λ due. number_at w32 due.1 >>= λ ip. byte_at ip.1 >>= λ proto. number_at w16 proto.1 >>= λ port. Some (head_with i g s moment.0 due.0 ip.0 proto.0 port.0, port.1)) ≡ Some x
    → (bytes ≡ to_be_bytes w64 x.0.moment ++ (to_be_bytes w64 x.0.due ++ (to_be_bytes w32 x.0.ip ++ (x.0.proto ∷ (to_be_bytes w16 x.0.port ++ x.1))))) × (x.0.port < 2 ^ 16) × IsBytes x.1
    × (x.0 ≡ head_with i g s x.0.moment x.0.due x.0.ip x.0.proto x.0.port) × (x.0.ip < 2 ^ 32) × (x.0.due < 2 ^ 64) × (x.0.moment < 2 ^ 64)
moment_takes i g s bytes x fits e =
    let b = bind_some (number_at w64 bytes) (λ moment. number_at w64 moment.1 >>= λ due. number_at w32 due.1 >>= λ ip. byte_at ip.1 >>= λ proto. number_at w16 proto.1 >>= λ port. Some (head_with i g s moment.0 due.0 ip.0 proto.0 port.0, port.1)) x e in
    let t = number_takes w64 (2 ^ 64) wide64 bytes b.0.0 b.0.1 fits b.1 in
    let r = due_takes i g s b.0.0 b.0.1 x t.0.rest_fits b.2 in
    let same : b.0.0 ≡ x.0.moment = sym (ap (λ (h : Head). h.moment) r.3) in
    (t.0.parts ∙ ap (λ rest. to_be_bytes w64 b.0.0 ++ rest) r.0 ∙ ap (λ n. to_be_bytes w64 n ++ (to_be_bytes w64 x.0.due ++ (to_be_bytes w32 x.0.ip ++ (x.0.proto ∷ (to_be_bytes w16 x.0.port ++ x.1))))) same, r.1, r.2, r.3 ∙ ap (λ n. head_with i g s n x.0.due x.0.ip x.0.proto x.0.port) same, r.4, r.5, subst (λ n. n < 2 ^ 64) same t.1)

stamp_takes : (i : ℕ) (g : List ℕ) (bytes : List ℕ) (x : Head × List ℕ) → IsBytes bytes
    → (number_at w64 bytes >>= λ stamp. number_at w64 stamp.1 >>= λ moment. number_at w64 moment.1 >>= λ due. number_at w32 due.1 >>= λ ip. byte_at ip.1 >>= λ proto. number_at w16 proto.1 >>= λ port. Some (head_with i g stamp.0 moment.0 due.0 ip.0 proto.0 port.0, port.1)) ≡ Some x
    → (bytes ≡ to_be_bytes w64 x.0.stamp ++ (to_be_bytes w64 x.0.moment ++ (to_be_bytes w64 x.0.due ++ (to_be_bytes w32 x.0.ip ++ (x.0.proto ∷ (to_be_bytes w16 x.0.port ++ x.1)))))) × (x.0.port < 2 ^ 16) × IsBytes x.1
    × (x.0 ≡ head_with i g x.0.stamp x.0.moment x.0.due x.0.ip x.0.proto x.0.port) × (x.0.ip < 2 ^ 32) × (x.0.due < 2 ^ 64) × (x.0.moment < 2 ^ 64) × (x.0.stamp < 2 ^ 64)
stamp_takes i g bytes x fits e =
    let b = bind_some (number_at w64 bytes) (λ stamp. number_at w64 stamp.1 >>= λ moment. number_at w64 moment.1 >>= λ due. number_at w32 due.1 >>= λ ip. byte_at ip.1 >>= λ proto. number_at w16 proto.1 >>= λ port. Some (head_with i g stamp.0 moment.0 due.0 ip.0 proto.0 port.0, port.1)) x e in
    let t = number_takes w64 (2 ^ 64) wide64 bytes b.0.0 b.0.1 fits b.1 in
    let r = moment_takes i g b.0.0 b.0.1 x t.0.rest_fits b.2 in
    let same : b.0.0 ≡ x.0.stamp = sym (ap (λ (h : Head). h.stamp) r.3) in
    (t.0.parts ∙ ap (λ rest. to_be_bytes w64 b.0.0 ++ rest) r.0 ∙ ap (λ n. to_be_bytes w64 n ++ (to_be_bytes w64 x.0.moment ++ (to_be_bytes w64 x.0.due ++ (to_be_bytes w32 x.0.ip ++ (x.0.proto ∷ (to_be_bytes w16 x.0.port ++ x.1)))))) same, r.1, r.2, r.3 ∙ ap (λ n. head_with i g n x.0.moment x.0.due x.0.ip x.0.proto x.0.port) same, r.4, r.5, r.6, subst (λ n. n < 2 ^ 64) same t.1)

digest_takes : (i : ℕ) (bytes : List ℕ) (x : Head × List ℕ) → IsBytes bytes
    → (piece_at 32 bytes >>= λ digest. number_at w64 digest.1 >>= λ stamp. number_at w64 stamp.1 >>= λ moment. number_at w64 moment.1 >>= λ due. number_at w32 due.1 >>= λ ip. byte_at ip.1 >>= λ proto. number_at w16 proto.1 >>= λ port. Some (head_with i digest.0 stamp.0 moment.0 due.0 ip.0 proto.0 port.0, port.1)) ≡ Some x
    → (bytes ≡ x.0.digest ++ (to_be_bytes w64 x.0.stamp ++ (to_be_bytes w64 x.0.moment ++ (to_be_bytes w64 x.0.due ++ (to_be_bytes w32 x.0.ip ++ (x.0.proto ∷ (to_be_bytes w16 x.0.port ++ x.1))))))) × (x.0.port < 2 ^ 16) × IsBytes x.1
    × (x.0 ≡ head_with i x.0.digest x.0.stamp x.0.moment x.0.due x.0.ip x.0.proto x.0.port) × (x.0.ip < 2 ^ 32) × (x.0.due < 2 ^ 64) × (x.0.moment < 2 ^ 64) × (x.0.stamp < 2 ^ 64) × HasBytes 32 x.0.digest
digest_takes i bytes x fits e =
    let b = bind_some (piece_at 32 bytes) (λ digest. number_at w64 digest.1 >>= λ stamp. number_at w64 stamp.1 >>= λ moment. number_at w64 moment.1 >>= λ due. number_at w32 due.1 >>= λ ip. byte_at ip.1 >>= λ proto. number_at w16 proto.1 >>= λ port. Some (head_with i digest.0 stamp.0 moment.0 due.0 ip.0 proto.0 port.0, port.1)) x e in
    let t = piece_takes 32 bytes b.0.0 b.0.1 fits b.1 in
    let r = stamp_takes i b.0.0 b.0.1 x t.0.rest_fits b.2 in
    let same : b.0.0 ≡ x.0.digest = sym (ap (λ (h : Head). h.digest) r.3) in
    (t.0.parts ∙ ap (λ rest. b.0.0 ++ rest) r.0 ∙ ap (λ n. n ++ (to_be_bytes w64 x.0.stamp ++ (to_be_bytes w64 x.0.moment ++ (to_be_bytes w64 x.0.due ++ (to_be_bytes w32 x.0.ip ++ (x.0.proto ∷ (to_be_bytes w16 x.0.port ++ x.1))))))) same, r.1, r.2, r.3 ∙ ap (λ n. head_with i n x.0.stamp x.0.moment x.0.due x.0.ip x.0.proto x.0.port) same, r.4, r.5, r.6, r.7, subst (HasBytes 32) same t.1)

pub head_takes : (bytes : List ℕ) (x : Head × List ℕ) → IsBytes bytes → head_at bytes ≡ Some x → (bytes ≡ head_then x.0 x.1) × HeadFits x.0 × IsBytes x.1
unfolding head_at
head_takes bytes x fits e =
    let b = bind_some (number_at w64 bytes) (λ id. piece_at 32 id.1 >>= λ digest. number_at w64 digest.1 >>= λ stamp. number_at w64 stamp.1 >>= λ moment. number_at w64 moment.1 >>= λ due. number_at w32 due.1 >>= λ ip. byte_at ip.1 >>= λ proto. number_at w16 proto.1 >>= λ port. Some (head_with id.0 digest.0 stamp.0 moment.0 due.0 ip.0 proto.0 port.0, port.1)) x e in
    let t = number_takes w64 (2 ^ 64) wide64 bytes b.0.0 b.0.1 fits b.1 in
    let r = digest_takes b.0.0 b.0.1 x t.0.rest_fits b.2 in
    let same : b.0.0 ≡ x.0.id = sym (ap (λ (h : Head). h.id) r.3) in (
      t.0.parts ∙ ap (λ rest. to_be_bytes w64 b.0.0 ++ rest) r.0 ∙ ap (λ n. to_be_bytes w64 n ++ (x.0.digest ++ (to_be_bytes w64 x.0.stamp ++ (to_be_bytes w64 x.0.moment ++ (to_be_bytes w64 x.0.due ++ (to_be_bytes w32 x.0.ip ++ (x.0.proto ∷ (to_be_bytes w16 x.0.port ++ x.1)))))))) same,
      record { id = subst (λ n. n < 2 ^ 64) same t.1; digest = r.8; stamp = r.7; moment = r.6; due = r.5; ip = r.4; port = r.1 },
      r.2,
    )

pub head_again : (h : Head) (rest : List ℕ) → HeadFits h → head_at (head_then h rest) ≡ Some (h, rest)
unfolding head_at byte_at
head_again h rest fits =
    let after_port : List ℕ = rest in
    let from_port : List ℕ = to_be_bytes w16 h.port ++ rest in
    let from_ip : List ℕ = to_be_bytes w32 h.ip ++ (h.proto ∷ from_port) in
    let from_due : List ℕ = to_be_bytes w64 h.due ++ from_ip in
    let from_moment : List ℕ = to_be_bytes w64 h.moment ++ from_due in
    let from_stamp : List ℕ = to_be_bytes w64 h.stamp ++ from_moment in
    rw (number_again w64 (2 ^ 64) wide64 h.id (h.digest ++ from_stamp) fits.id, piece_again 32 h.digest from_stamp fits.digest.size, number_again w64 (2 ^ 64) wide64 h.stamp from_moment fits.stamp, number_again w64 (2 ^ 64) wide64 h.moment from_due fits.moment, number_again w64 (2 ^ 64) wide64 h.due from_ip fits.due, number_again w32 (2 ^ 32) wide32 h.ip (h.proto ∷ from_port) fits.ip, number_again w16 (2 ^ 16) wide16 h.port rest fits.port) refl

-- ---- two numbers

pub pair_takes : (bytes : List ℕ) (a b : ℕ) (rest : List ℕ) → IsBytes bytes → pair_at bytes ≡ Some ((a, b), rest)
    → (bytes ≡ to_be_bytes w64 a ++ (to_be_bytes w64 b ++ rest)) × (a < 2 ^ 64) × (b < 2 ^ 64) × IsBytes rest
unfolding pair_at
pair_takes bytes a b rest fits e =
    let one = bind_some (number_at w64 bytes) (λ first. number_at w64 first.1 >>= λ second. Some ((first.0, second.0), second.1)) ((a, b), rest) e in
    let two = bind_some (number_at w64 one.0.1) (λ second. Some ((one.0.0, second.0), second.1)) ((a, b), rest) one.2 in
    let t = number_takes w64 (2 ^ 64) wide64 bytes one.0.0 one.0.1 fits one.1 in
    let u = number_takes w64 (2 ^ 64) wide64 one.0.1 two.0.0 two.0.1 t.0.rest_fits two.1 in
    subst (λ (x : (ℕ × ℕ) × List ℕ). (bytes ≡ to_be_bytes w64 x.0.0 ++ (to_be_bytes w64 x.0.1 ++ x.1)) × (x.0.0 < 2 ^ 64) × (x.0.1 < 2 ^ 64) × IsBytes x.1)
    (some_is ((one.0.0, two.0.0), two.0.1) ((a, b), rest) two.2)
    (t.0.parts ∙ ap (λ (more : List ℕ). to_be_bytes w64 one.0.0 ++ more) u.0.parts, t.1, u.1, u.0.rest_fits)

pub pair_again : (a b : ℕ) (rest : List ℕ) → a < 2 ^ 64 → b < 2 ^ 64 → pair_at (to_be_bytes w64 a ++ (to_be_bytes w64 b ++ rest)) ≡ Some ((a, b), rest)
unfolding pair_at
pair_again a b rest small also = rw (number_again w64 (2 ^ 64) wide64 a (to_be_bytes w64 b ++ rest) small, number_again w64 (2 ^ 64) wide64 b rest also) refl
