-- What a payload that is read, or is not, says of records.
use Rattle.std.proofs.Common.{◌≡◌, ℕ, ◌<◌, ◌≤◌, ◌^◌, List, [], ◌++◌, length, sym, ap, subst, ◌∙◌, arith, Some, None}
use Rattle.std.specs.Int.{w64, to_be_bytes}
use Rattle.std.proofs.lemmas.List.{append-nil}
use Rattle.fk_base.specs.Bytes.{IsBytes, HasBytes}
use Rattle.fk_base.specs.CommandWords.{AreCommandWords}
use Rattle.fk_base.specs.declared.moment.TheConstants.{GREATEST_MOMENT}
use Rattle.fk_base.specs.declared.digest.Digest.{Digest}
use Rattle.fk_base.specs.declared.pair.Pair.{Pair}
use Rattle.fk_trace.specs.declared.change.OpenRecord.{OpenRecord}
use Rattle.fk_ledger.specs.declared.reading.Head.{Head}
use Rattle.fk_ledger.specs.declared.reading.PayloadErr.{PayloadErr}
use Rattle.fk_ledger.specs.declared.reading.PayloadErr.TheVariants.{Malformed, NoMemory}
use Rattle.fk_ledger.specs.Payloads.{greatest_stamp, proto_number, words_bytes, record_bytes, settled_bytes, floor_bytes, IsRecord}
use Rattle.fk_ledger.specs.Reading.{Fails, number_at, head_at, pair_at, words_in}
use Rattle.fk_ledger.proofs.PayloadLaws.{some_is, head_takes, head_then, number_takes, number_again, pair_takes, pair_again, words_take, wide64}
use Rattle.fk_ledger.proofs.LedgerLaws.{head_of, record_read}

pub read_none : (bytes : List ℕ) (item : OpenRecord) → None ≡ head_at bytes → IsRecord item → bytes ≡ record_bytes item → ⊥
read_none bytes item none is same = let r = record_read item bytes is same in let no = none ∙ r.0 in absurd cc

pub read_same : (bytes : List ℕ) (h : Head) (rest : List ℕ) (item : OpenRecord) → Some (h, rest) ≡ head_at bytes → IsRecord item → bytes ≡ record_bytes item → (h ≡ head_of item) × (rest ≡ words_bytes item.close)
read_same bytes h rest item read is same =
    let r = record_read item bytes is same in
    let pairs : (h, rest) ≡ (head_of item, words_bytes item.close) = some_is (h, rest) (head_of item, words_bytes item.close) (read ∙ r.0) in
    (ap (λ (p : Head × List ℕ). p.0) pairs, ap (λ (p : Head × List ℕ). p.1) pairs)

pub late_moment : (bytes : List ℕ) (h : Head) (rest : List ℕ) (item : OpenRecord) → Some (h, rest) ≡ head_at bytes → (h.moment ≤ GREATEST_MOMENT → ⊥) → IsRecord item → bytes ≡ record_bytes item → ⊥
late_moment bytes h rest item read late is same =
    let r = read_same bytes h rest item read is same in
    late (subst (λ (n : ℕ). n ≤ GREATEST_MOMENT) (sym (ap (λ (h : Head). h.moment) r.0)) is.moment)

pub late_stamp : (bytes : List ℕ) (h : Head) (rest : List ℕ) (item : OpenRecord) → Some (h, rest) ≡ head_at bytes → greatest_stamp < h.stamp → IsRecord item → bytes ≡ record_bytes item → ⊥
late_stamp bytes h rest item read late is same =
    let r = read_same bytes h rest item read is same in
    let stamps : h.stamp ≡ item.stamp = ap (λ (h : Head). h.stamp) r.0 in
    omega (arith, stamps, late, is.stamp)

pub no_pair : (bytes : List ℕ) (h : Head) (rest : List ℕ) (item : OpenRecord) → Some (h, rest) ≡ head_at bytes → ((pair : Pair) → proto_number pair.proto ≡ h.proto → pair.port ≡ h.port → ⊥) → IsRecord item → bytes ≡ record_bytes item → ⊥
no_pair bytes h rest item read none is same =
    let r = read_same bytes h rest item read is same in
    none item.pair (sym (ap (λ (h : Head). h.proto) r.0)) (sym (ap (λ (h : Head). h.port) r.0))

pub words_same : (bytes : List ℕ) (h : Head) (rest : List ℕ) (item : OpenRecord) → Some (h, rest) ≡ head_at bytes → IsRecord item → bytes ≡ record_bytes item → words_in rest ≡ Some item.close
words_same bytes h rest item read is same =
    let r = read_same bytes h rest item read is same in
    ap words_in r.1 ∙ (record_read item bytes is same).1

pub bad_words : (e : PayloadErr) (bytes : List ℕ) (h : Head) (rest : List ℕ) (item : OpenRecord) → Some (h, rest) ≡ head_at bytes → Fails e (words_in rest) → e ≡ Malformed → IsRecord item → bytes ≡ record_bytes item → ⊥
bad_words NoMemory bytes h rest item read fails other is same = absurd cc
bad_words Malformed bytes h rest item read fails malformed is same = let words = words_same bytes h rest item read is same in let none : words_in rest ≡ None = fails in absurd cc

pub good_close : (bytes : List ℕ) (h : Head) (rest : List ℕ) (item : OpenRecord) (close : List (List ℕ)) → Some (h, rest) ≡ head_at bytes → words_in rest ≡ Some close → IsRecord item → bytes ≡ record_bytes item → AreCommandWords close
good_close bytes h rest item close read words is same = subst AreCommandWords (sym (some_is close item.close (sym words ∙ words_same bytes h rest item read is same))) is.close

abbrev made : Head → ℕ → Pair → List (List ℕ) → OpenRecord
made h moment pair close = record { id = h.id; digest = record { 0 = h.digest }; stamp = h.stamp; moment = moment; due = h.due; ip = record { 0 = h.ip }; pair = pair; close = close }

pub record_found : (bytes : List ℕ) (h : Head) (rest : List ℕ) (moment : ℕ) (pair : Pair) (close : List (List ℕ)) → IsBytes bytes → Some (h, rest) ≡ head_at bytes → words_in rest ≡ Some close
    → h.stamp ≤ greatest_stamp → h.moment ≤ GREATEST_MOMENT → moment ≡ h.moment → proto_number pair.proto ≡ h.proto → pair.port ≡ h.port → AreCommandWords close
    → IsRecord (made h moment pair close) × (bytes ≡ record_bytes (made h moment pair close))
record_found bytes h rest moment pair close fits read words old_enough early moments protos ports are =
    let t = head_takes bytes (h, rest) fits (sym read) in
    let rest_is : rest ≡ words_bytes close = words_take rest close t.2 words in
    let is : IsRecord (made h moment pair close) = record { id = t.1.id; digest = t.1.digest; stamp = old_enough; moment = subst (λ (n : ℕ). n ≤ GREATEST_MOMENT) (sym moments) early; due = t.1.due; ip = t.1.ip; port = subst (λ (n : ℕ). n < 2 ^ 16) (sym ports) t.1.port; close = are } in
    let head : Head → List ℕ = λ x. head_then x (words_bytes close) in
    let with : ℕ → ℕ → ℕ → Head = λ m p q. record { id = h.id; digest = h.digest; stamp = h.stamp; moment = m; due = h.due; ip = h.ip; proto = p; port = q } in
    (is, t.0 ∙ ap (head_then h) rest_is ∙ ap (λ (m : ℕ). head (with m h.proto h.port)) (sym moments) ∙ ap (λ (p : ℕ). head (with moment p h.port)) (sym protos) ∙ ap (λ (q : ℕ). head (with moment (proto_number pair.proto) q)) (sym ports))

-- ---- the number of a Done

pub done_found : (bytes : List ℕ) (id : ℕ) (rest : List ℕ) → IsBytes bytes → Some (id, rest) ≡ number_at w64 bytes → rest ≡ [] → (id < 2 ^ 64) × (bytes ≡ to_be_bytes w64 id)
done_found bytes id rest fits read none =
    let t = number_takes w64 (2 ^ 64) wide64 bytes id rest fits (sym read) in
    (t.1, t.0.parts ∙ ap (λ (r : List ℕ). to_be_bytes w64 id ++ r) none ∙ append-nil (to_be_bytes w64 id))

pub done_read : (bytes : List ℕ) (id : ℕ) → id < 2 ^ 64 → bytes ≡ to_be_bytes w64 id → number_at w64 bytes ≡ Some (id, [])
done_read bytes id small same = ap (number_at w64) (same ∙ sym (append-nil (to_be_bytes w64 id))) ∙ number_again w64 (2 ^ 64) wide64 id [] small

-- ---- what a Settled and a Floor say

pub settled_found : (bytes : List ℕ) (id stamp : ℕ) (rest digest : List ℕ) → IsBytes bytes → Some ((id, stamp), rest) ≡ pair_at bytes → rest ≡ digest → length digest ≡ 32
    → (id < 2 ^ 64) × HasBytes 32 digest × (bytes ≡ settled_bytes id stamp (record { 0 = digest }))
settled_found bytes id stamp rest digest fits read same size =
    let t = pair_takes bytes id stamp rest fits (sym read) in
    (t.1, record { size = size; each = subst IsBytes same t.3 }, t.0 ∙ ap (λ (r : List ℕ). to_be_bytes w64 id ++ (to_be_bytes w64 stamp ++ r)) same)

pub settled_read : (bytes : List ℕ) (id stamp : ℕ) (digest : List ℕ) → id < 2 ^ 64 → stamp ≤ greatest_stamp → bytes ≡ settled_bytes id stamp (record { 0 = digest }) → pair_at bytes ≡ Some ((id, stamp), digest)
settled_read bytes id stamp digest small old_enough same = ap pair_at same ∙ pair_again id stamp digest small (omega (arith, old_enough))

pub floor_found : (bytes : List ℕ) (floor next : ℕ) (rest : List ℕ) → IsBytes bytes → Some ((floor, next), rest) ≡ pair_at bytes → rest ≡ [] → (floor < 2 ^ 64) × (bytes ≡ floor_bytes floor next)
floor_found bytes floor next rest fits read none =
    let t = pair_takes bytes floor next rest fits (sym read) in
    (t.1, t.0 ∙ ap (λ (r : List ℕ). to_be_bytes w64 floor ++ (to_be_bytes w64 next ++ r)) none ∙ ap (λ (r : List ℕ). to_be_bytes w64 floor ++ r) (append-nil (to_be_bytes w64 next)))

pub floor_read : (bytes : List ℕ) (floor next : ℕ) → floor < 2 ^ 64 → next ≤ 2 ^ 63 → bytes ≡ floor_bytes floor next → pair_at bytes ≡ Some ((floor, next), [])
floor_read bytes floor next small low same =
    ap pair_at (same ∙ ap (λ (r : List ℕ). to_be_bytes w64 floor ++ r) (sym (append-nil (to_be_bytes w64 next)))) ∙ pair_again floor next [] small (omega (arith, low))

-- what is read of a payload, where one of these is written there
pub settled_same : (bytes : List ℕ) (a b : ℕ) (rest : List ℕ) (id stamp : ℕ) (digest : Digest) → Some ((a, b), rest) ≡ pair_at bytes → (id < 2 ^ 64) × (stamp ≤ greatest_stamp) × HasBytes 32 digest.0 → bytes ≡ settled_bytes id stamp digest
    → (b ≡ stamp) × (length rest ≡ 32)
settled_same bytes a b rest id stamp digest read is same =
    let both : ((a, b), rest) ≡ ((id, stamp), digest.0) = some_is ((a, b), rest) ((id, stamp), digest.0) (read ∙ settled_read bytes id stamp digest.0 is.0 is.1 same) in
    (ap (λ (p : (ℕ × ℕ) × List ℕ). p.0.1) both, ap (λ (p : (ℕ × ℕ) × List ℕ). length p.1) both ∙ is.2.size)

pub settled_unread : (bytes : List ℕ) (id stamp : ℕ) (digest : Digest) → None ≡ pair_at bytes → (id < 2 ^ 64) × (stamp ≤ greatest_stamp) × HasBytes 32 digest.0 → bytes ≡ settled_bytes id stamp digest → ⊥
settled_unread bytes id stamp digest none is same = let no = none ∙ settled_read bytes id stamp digest.0 is.0 is.1 same in absurd cc

pub floor_same : (bytes : List ℕ) (a b : ℕ) (rest : List ℕ) (floor next : ℕ) → Some ((a, b), rest) ≡ pair_at bytes → (floor < 2 ^ 64) × (1 ≤ next) × (next ≤ 2 ^ 63) → bytes ≡ floor_bytes floor next → (b ≡ next) × (length rest ≡ 0)
floor_same bytes a b rest floor next read is same =
    let both : ((a, b), rest) ≡ ((floor, next), []) = some_is ((a, b), rest) ((floor, next), []) (read ∙ floor_read bytes floor next is.0 is.2 same) in
    (ap (λ (p : (ℕ × ℕ) × List ℕ). p.0.1) both, ap (λ (p : (ℕ × ℕ) × List ℕ). length p.1) both)

pub floor_unread : (bytes : List ℕ) (floor next : ℕ) → None ≡ pair_at bytes → (floor < 2 ^ 64) × (1 ≤ next) × (next ≤ 2 ^ 63) → bytes ≡ floor_bytes floor next → ⊥
floor_unread bytes floor next none is same = let no = none ∙ floor_read bytes floor next is.0 is.2 same in absurd cc
