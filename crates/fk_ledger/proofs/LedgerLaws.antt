-- One ledger at most is held, and nothing that is held is damaged.
use Rattle.std.proofs.Common.{◌≡◌, ◌≢◌, ℕ, ◌<◌, ◌^◌, List, [], ◌∷◌, ◌++◌, length, take, map, refl, sym, ap, subst, ◌∙◌, append_assoc, arith, inl, inr, Some}
use Rattle.std.specs.Int.{w64, to_be_bytes, from_be_bytes}
use Rattle.std.specs.List.{AllByRecursion, All}
use Rattle.std.specs.Prelude.{slice_index}
use Rattle.std.proofs.lemmas.List.{append-nil, length-map, map-append, take_at}
use Rattle.fk_base.specs.declared.pair.Proto.{Proto}
use Rattle.fk_base.specs.declared.pair.Proto.TheVariants.{Tcp, Udp}
use Rattle.fk_base.specs.declared.pair.Pair.{Pair}
use Rattle.fk_base.specs.declared.address.Ip4.{Ip4}
use Rattle.fk_base.specs.declared.digest.Digest.{Digest}
use Rattle.fk_base.specs.CommandWords.{AreCommandWords}
use Rattle.fk_base.proofs.PairTexts.{Pair-same}
use Rattle.fk_trace.specs.declared.change.OpenRecord.{OpenRecord}
use Rattle.fk_trace.specs.declared.change.Change.{Change}
use Rattle.fk_trace.specs.declared.change.Change.TheVariants.{Open, Done, Settled, Floor}
use Rattle.fk_trace.specs.Ledger.{MayFollow, IsLedgerFrom, compacted}
use Rattle.fk_host.specs.Disk.{Areas}
use Rattle.fk_journal.specs.Entries.{Content, format_byte, entries_bytes, place_behind, HoldsEntries, IsDamagedAt}
use Rattle.fk_journal.specs.Older.{IsOlder, in_format}
use Rattle.fk_journal.specs.Keeps.{selected}
use Rattle.fk_journal.proofs.Uniqueness.{one_list, not_both, one_place}
use Rattle.fk_ledger.specs.declared.reading.Head.{Head}
use Rattle.fk_ledger.specs.Payloads.{proto_number, words_bytes, record_bytes, settled_bytes, floor_bytes, content_of, ledger_contents, IsRecord, IsChange}
use Rattle.fk_ledger.specs.Older.{stamped, itself}
use Rattle.fk_ledger.specs.Holds.{HoldsCurrent, HoldsOlder, HoldsChanges, HoldsLedger, IsBroken, Breaks, IsCurrentDamagedAt, IsOldDamagedAt, IsLedgerDamagedAt}
use Rattle.fk_ledger.specs.Reading.{head_at, words_in, pair_at}
use Rattle.fk_ledger.proofs.WordLists.{length-concat-take}
use Rattle.fk_ledger.proofs.PayloadLaws.{some_is, HeadFits, head_again, words_again, pair_again, wide64}

-- the values of a record before its words
abbrev pub head_of : OpenRecord → Head
head_of item = record { id = item.id; digest = item.digest.0; stamp = item.stamp; moment = item.moment; due = item.due; ip = item.ip.0; proto = proto_number item.pair.proto; port = item.pair.port }

pub head_fits : (item : OpenRecord) → IsRecord item → HeadFits (head_of item)
head_fits item is = record { id = is.id; digest = is.digest; stamp = (let s = is.stamp in omega arith); moment = (let m = is.moment in omega arith); due = is.due; ip = is.ip; port = is.port }

pub small_words : (words : List (List ℕ)) → AreCommandWords words → All (λ word. length word < 2 ^ 16) words
small_words words are = λ k d within. let sizes = length-concat-take words k d within in let short = are.short in omega arith

-- what a record's payload is read as
pub record_read : (item : OpenRecord) (bytes : List ℕ) → IsRecord item → bytes ≡ record_bytes item → (head_at bytes ≡ Some (head_of item, words_bytes item.close)) × (words_in (words_bytes item.close) ≡ Some item.close)
record_read item bytes is same = (ap head_at same ∙ head_again (head_of item) (words_bytes item.close) (head_fits item is), words_again item.close (small_words item.close is.close))

proto-same : (a b : Proto) → proto_number a ≡ proto_number b → a ≡ b
proto-same Tcp Tcp same = refl
proto-same Tcp Udp same = absurd (omega arith)
proto-same Udp Tcp same = absurd (omega arith)
proto-same Udp Udp same = refl

abbrev record_with : ℕ → Digest → ℕ → ℕ → ℕ → Ip4 → Pair → List (List ℕ) → OpenRecord
record_with id digest stamp moment due ip pair close = record { id = id; digest = digest; stamp = stamp; moment = moment; due = due; ip = ip; pair = pair; close = close }

-- a record is its values
record-same : (a b : OpenRecord) → head_of a ≡ head_of b → a.close ≡ b.close → a ≡ b
record-same a b heads closes =
    let ids : a.id ≡ b.id = ap (λ (h : Head). h.id) heads in
    let digests : a.digest.0 ≡ b.digest.0 = ap (λ (h : Head). h.digest) heads in
    let stamps : a.stamp ≡ b.stamp = ap (λ (h : Head). h.stamp) heads in
    let moments : a.moment ≡ b.moment = ap (λ (h : Head). h.moment) heads in
    let dues : a.due ≡ b.due = ap (λ (h : Head). h.due) heads in
    let ips : a.ip.0 ≡ b.ip.0 = ap (λ (h : Head). h.ip) heads in
    let pairs : a.pair ≡ b.pair = Pair-same a.pair b.pair (proto-same a.pair.proto b.pair.proto (ap (λ (h : Head). h.proto) heads)) (ap (λ (h : Head). h.port) heads) in
    ap (λ (x : ℕ). record_with x a.digest a.stamp a.moment a.due a.ip a.pair a.close) ids
    ∙ ap (λ (x : List ℕ). record_with b.id (record { 0 = x }) a.stamp a.moment a.due a.ip a.pair a.close) digests
    ∙ ap (λ (x : ℕ). record_with b.id b.digest x a.moment a.due a.ip a.pair a.close) stamps
    ∙ ap (λ (x : ℕ). record_with b.id b.digest b.stamp x a.due a.ip a.pair a.close) moments
    ∙ ap (λ (x : ℕ). record_with b.id b.digest b.stamp b.moment x a.ip a.pair a.close) dues
    ∙ ap (λ (x : ℕ). record_with b.id b.digest b.stamp b.moment b.due (record { 0 = x }) a.pair a.close) ips
    ∙ ap (λ (x : Pair). record_with b.id b.digest b.stamp b.moment b.due b.ip x a.close) pairs
    ∙ ap (λ (x : List (List ℕ)). record_with b.id b.digest b.stamp b.moment b.due b.ip b.pair x) closes

abbrev payload : Content → List ℕ
payload content = content.payload

-- entries of two kinds are two
other_kind : (m n : ℕ) → m ≢ n → (a b : Content) → a.kind ≡ m → b.kind ≡ n → a ≡ b → ⊥
other_kind m n differ a b of_m of_n same = differ (sym of_m ∙ ap (λ (c : Content). c.kind) same ∙ of_n)

pairs_same : (a b c d : ℕ) (x y : List ℕ) → a < 2 ^ 64 → b < 2 ^ 64 → c < 2 ^ 64 → d < 2 ^ 64 → to_be_bytes w64 a ++ (to_be_bytes w64 b ++ x) ≡ to_be_bytes w64 c ++ (to_be_bytes w64 d ++ y)
    → (a ≡ c) × (b ≡ d) × (x ≡ y)
pairs_same a b c d x y small_a small_b small_c small_d same =
    let both : ((a, b), x) ≡ ((c, d), y) = some_is ((a, b), x) ((c, d), y) (sym (pair_again a b x small_a small_b) ∙ ap pair_at same ∙ pair_again c d y small_c small_d) in
    (ap (λ (p : (ℕ × ℕ) × List ℕ). p.0.0) both, ap (λ (p : (ℕ × ℕ) × List ℕ). p.0.1) both, ap (λ (p : (ℕ × ℕ) × List ℕ). p.1) both)

settled-same : (id other stamp later : ℕ) (digest text : Digest) → stamp < 2 ^ 64 → later < 2 ^ 64 → id < 2 ^ 64 → other < 2 ^ 64 → settled_bytes id stamp digest ≡ settled_bytes other later text → Settled id stamp digest ≡ Settled other later text
settled-same id other stamp later digest text small_s small_l small_i small_o same =
    let parts = pairs_same id stamp other later digest.0 text.0 small_i small_s small_o small_l same in
    ap (λ (n : ℕ). Settled n stamp digest) parts.0 ∙ ap (λ (n : ℕ). Settled other n digest) parts.1 ∙ ap (λ (bytes : List ℕ). Settled other later (record { 0 = bytes })) parts.2

floor-same : (floor upper next later : ℕ) → floor < 2 ^ 64 → upper < 2 ^ 64 → next < 2 ^ 64 → later < 2 ^ 64 → floor_bytes floor next ≡ floor_bytes upper later → Floor floor next ≡ Floor upper later
floor-same floor upper next later small_f small_u small_n small_l same =
    let parts = pairs_same floor next upper later [] [] small_f small_n small_u small_l
    (ap (λ (bytes : List ℕ). to_be_bytes w64 floor ++ bytes) (append-nil (to_be_bytes w64 next)) ∙ same ∙ ap (λ (bytes : List ℕ). to_be_bytes w64 upper ++ bytes) (sym (append-nil (to_be_bytes w64 later)))) in
    ap (λ (n : ℕ). Floor n next) parts.0 ∙ ap (λ (n : ℕ). Floor upper n) parts.1

pub content-injective : (a b : Change) → IsChange a → IsChange b → content_of a ≡ content_of b → a ≡ b
content-injective (Open a) (Open b) is_a is_b same =
    let bytes : record_bytes a ≡ record_bytes b = ap payload same in
    let read_a = record_read a (record_bytes a) is_a refl in
    let read_b = record_read b (record_bytes a) is_b bytes in
    let heads : (head_of a, words_bytes a.close) ≡ (head_of b, words_bytes b.close) = some_is (head_of a, words_bytes a.close) (head_of b, words_bytes b.close) (sym read_a.0 ∙ read_b.0) in
    let words : words_bytes a.close ≡ words_bytes b.close = ap (λ (p : Head × List ℕ). p.1) heads in
    let closes : a.close ≡ b.close = some_is a.close b.close (sym read_a.1 ∙ ap words_in words ∙ read_b.1) in
    ap Open (record-same a b (ap (λ (p : Head × List ℕ). p.0) heads) closes)
content-injective (Open a) (Done b) is_a is_b same = absurd (other_kind 1 2 (λ e. omega (arith, e)) _ _ refl refl same)
content-injective (Open a) (Settled id stamp digest) is_a is_b same = absurd (other_kind 1 3 (λ e. omega (arith, e)) _ _ refl refl same)
content-injective (Open a) (Floor floor next) is_a is_b same = absurd (other_kind 1 4 (λ e. omega (arith, e)) _ _ refl refl same)
content-injective (Done a) (Open b) is_a is_b same = absurd (other_kind 2 1 (λ e. omega (arith, e)) _ _ refl refl same)
content-injective (Done a) (Settled id stamp digest) is_a is_b same = absurd (other_kind 2 3 (λ e. omega (arith, e)) _ _ refl refl same)
content-injective (Done a) (Floor floor next) is_a is_b same = absurd (other_kind 2 4 (λ e. omega (arith, e)) _ _ refl refl same)
content-injective (Settled id stamp digest) (Open b) is_a is_b same = absurd (other_kind 3 1 (λ e. omega (arith, e)) _ _ refl refl same)
content-injective (Settled id stamp digest) (Done b) is_a is_b same = absurd (other_kind 3 2 (λ e. omega (arith, e)) _ _ refl refl same)
content-injective (Settled id stamp digest) (Settled other later text) is_a is_b same =
    settled-same id other stamp later digest text (let s = is_a.1 in omega arith) (let s = is_b.1 in omega arith) is_a.0 is_b.0 (ap payload same)
content-injective (Settled id stamp digest) (Floor floor next) is_a is_b same = absurd (other_kind 3 4 (λ e. omega (arith, e)) _ _ refl refl same)
content-injective (Floor floor next) (Open b) is_a is_b same = absurd (other_kind 4 1 (λ e. omega (arith, e)) _ _ refl refl same)
content-injective (Floor floor next) (Done b) is_a is_b same = absurd (other_kind 4 2 (λ e. omega (arith, e)) _ _ refl refl same)
content-injective (Floor floor next) (Settled id stamp digest) is_a is_b same = absurd (other_kind 4 3 (λ e. omega (arith, e)) _ _ refl refl same)
content-injective (Floor floor next) (Floor upper later) is_a is_b same =
    floor-same floor upper next later is_a.0 is_b.0 (let s = is_a.2 in omega arith) (let s = is_b.2 in omega arith) (ap payload same)
content-injective (Done a) (Done b) is_a is_b same =
    let bytes : to_be_bytes w64 a ≡ to_be_bytes w64 b = ap payload same in
    ap Done (sym (wide64.again a is_a) ∙ ap (from_be_bytes w64) bytes ∙ wide64.again b is_b)

cons_is : (x y : Content) (xs ys : List Content) → x ∷ xs ≡ y ∷ ys → (x ≡ y) × (xs ≡ ys)
cons_is x y xs ys e = (cc, cc)

pub contents-injective : (a b : List Change) → AllByRecursion IsChange a → AllByRecursion IsChange b → ledger_contents a ≡ ledger_contents b → a ≡ b
contents-injective [] [] all_a all_b same = refl
contents-injective [] (y ∷ ys) all_a all_b same = absurd cc
contents-injective (x ∷ xs) [] all_a all_b same = absurd cc
contents-injective (x ∷ xs) (y ∷ ys) all_a all_b same =
    let parts = cons_is (content_of x) (content_of y) (ledger_contents xs) (ledger_contents ys) same in
    ap (λ (z : Change). z ∷ xs) (content-injective x y all_a.0 all_b.0 parts.0) ∙ ap (λ (zs : List Change). y ∷ zs) (contents-injective xs ys all_a.1 all_b.1 parts.1)

-- what stands behind the first changes of a ledger may stand there
pub next_follows : (start ledger before : List Change) (content : Content) (later : List Content) → AllByRecursion IsChange ledger → AllByRecursion IsChange before → IsLedgerFrom start ledger
    → ledger_contents ledger ≡ ledger_contents before ++ content ∷ later → (change : Change) × IsChange change × (content ≡ content_of change) × MayFollow (start ++ before) change
next_follows start [] [] content later all_l all_b follow same = absurd cc
next_follows start (x ∷ xs) [] content later all_l all_b follow same =
    let parts = cons_is (content_of x) content (ledger_contents xs) later same in
    (x, all_l.0, sym parts.0, subst (λ (ledger : List Change). MayFollow ledger x) (sym (append-nil start)) follow.0)
next_follows start [] (b ∷ bs) content later all_l all_b follow same = absurd cc
next_follows start (x ∷ xs) (b ∷ bs) content later all_l all_b follow same =
    let parts = cons_is (content_of x) (content_of b) (ledger_contents xs) (ledger_contents bs ++ content ∷ later) same in
    let first : x ≡ b = content-injective x b all_l.0 all_b.0 parts.0 in
    let r = next_follows (start ++ x ∷ []) xs bs content later all_l.1 all_b.1 follow.1 parts.1 in
    (r.0, r.1, r.2, subst (λ (ledger : List Change). MayFollow ledger r.0) (append_assoc start (x ∷ []) bs ∙ ap (λ (z : Change). start ++ z ∷ bs) first) r.3)

-- one first break
pub one_break : (start a b : List Change) (c d : Content) (more others : List Content) → AllByRecursion IsChange a → AllByRecursion IsChange b → IsLedgerFrom start a → IsLedgerFrom start b
    → IsBroken (start ++ a) c → IsBroken (start ++ b) d → ledger_contents a ++ c ∷ more ≡ ledger_contents b ++ d ∷ others → a ≡ b
one_break start [] [] c d more others all_a all_b follow_a follow_b broken_a broken_b same = refl
one_break start [] (y ∷ ys) c d more others all_a all_b follow_a follow_b broken_a broken_b same =
    let parts = cons_is c (content_of y) more (ledger_contents ys ++ d ∷ others) same in
    absurd (broken_a y all_b.0 parts.0 (subst (λ (ledger : List Change). MayFollow ledger y) (sym (append-nil start)) follow_b.0))
one_break start (x ∷ xs) [] c d more others all_a all_b follow_a follow_b broken_a broken_b same =
    let parts = cons_is (content_of x) d (ledger_contents xs ++ c ∷ more) others same in
    absurd (broken_b x all_a.0 (sym parts.0) (subst (λ (ledger : List Change). MayFollow ledger x) (sym (append-nil start)) follow_a.0))
one_break start (x ∷ xs) (y ∷ ys) c d more others all_a all_b follow_a follow_b broken_a broken_b same =
    let parts = cons_is (content_of x) (content_of y) (ledger_contents xs ++ c ∷ more) (ledger_contents ys ++ d ∷ others) same in
    let first : x ≡ y = content-injective x y all_a.0 all_b.0 parts.0 in
    let left : IsBroken ((start ++ x ∷ []) ++ xs) c = subst (λ (ledger : List Change). IsBroken ledger c) (sym (append_assoc start (x ∷ []) xs)) broken_a in
    let right : IsBroken ((start ++ x ∷ []) ++ ys) d = subst (λ (ledger : List Change). IsBroken ledger d) (ap (λ (z : Change). start ++ z ∷ ys) (sym first) ∙ sym (append_assoc start (x ∷ []) ys)) broken_b in
    let follow : IsLedgerFrom (start ++ x ∷ []) ys = subst (λ (z : Change). IsLedgerFrom (start ++ z ∷ []) ys) (sym first) follow_b.1 in
    ap (λ (z : Change). z ∷ xs) first ∙ ap (λ (zs : List Change). y ∷ zs) (one_break (start ++ x ∷ []) xs ys c d more others all_a.1 all_b.1 follow_a.1 follow left right parts.1)

-- two breaks of the same entries have one place
one_place_of : (says : Content → Content) (contents : List Content) (a b : ℕ) → Breaks says contents a → Breaks says contents b → a ≡ b
one_place_of says contents a b x y =
    let length_of : (xs ys : List Change) → xs ≡ ys → (m n : List Content) → map says m ≡ ledger_contents xs → map says n ≡ ledger_contents ys → length m ≡ length n =
    λ xs ys same m n left right. sym (length-map m says) ∙ ap length (left ∙ ap ledger_contents same ∙ sym right) ∙ length-map n says in
    let parts : (m : List Content) (c : Content) (rest : List Content) → map says (m ++ c ∷ rest) ≡ map says m ++ says c ∷ map says rest = λ m c rest. map-append says m (c ∷ rest) in
    let all : ledger_contents x.before ++ says x.content ∷ map says x.later ≡ ledger_contents y.before ++ says y.content ∷ map says y.later =
    ap (λ (front : List Content). front ++ says x.content ∷ map says x.later) (sym x.same) ∙ sym (parts x.earlier x.content x.later) ∙ ap (map says) (sym x.parts ∙ y.parts) ∙ parts y.earlier y.content y.later
    ∙ ap (λ (front : List Content). front ++ says y.content ∷ map says y.later) y.same in
    let befores : x.before ≡ y.before = one_break [] x.before y.before (says x.content) (says y.content) (map says x.later) (map says y.later) x.each y.each x.follow y.follow x.broken y.broken all in
    let sizes : length x.earlier ≡ length y.earlier = length_of x.before y.before befores x.earlier y.earlier x.same y.same in
    let fronts : x.earlier ≡ y.earlier = sym (take_at x.earlier (x.content ∷ x.later) (length y.earlier) sizes) ∙ ap (take (length y.earlier)) (sym x.parts ∙ y.parts) ∙ take_at y.earlier (y.content ∷ y.later) (length y.earlier) refl in
    x.placed ∙ ap place_behind fronts ∙ sym y.placed

-- entries that are those of a ledger have no break
no_break : (says : Content → Content) (contents : List Content) (ledger : List Change) (place : ℕ) → map says contents ≡ ledger_contents ledger → AllByRecursion IsChange ledger → IsLedgerFrom [] ledger → Breaks says contents place → ⊥
no_break says contents ledger place same each follow breaks =
    let all : ledger_contents ledger ≡ ledger_contents breaks.before ++ says breaks.content ∷ map says breaks.later =
    sym same ∙ ap (map says) breaks.parts ∙ map-append says breaks.earlier (breaks.content ∷ breaks.later) ∙ ap (λ (front : List Content). front ++ says breaks.content ∷ map says breaks.later) breaks.same in
    let r = next_follows [] ledger breaks.before (says breaks.content) (map says breaks.later) each breaks.each follow all in
    breaks.broken r.0 r.1 r.2 r.3

itself_map : (contents : List Content) → map itself contents ≡ contents
itself_map [] = refl
itself_map (content ∷ contents) = ap (λ (rest : List Content). content ∷ rest) (itself_map contents)

-- ---- an area of this format is not of the older one

first_byte : (area : List ℕ) (format : ℕ) (rest : List ℕ) → area ≡ format ∷ rest → slice_index area 0 ≡ format
first_byte area format rest is = ap (λ (bytes : List ℕ). slice_index bytes 0) is

pub not_older : (area : List ℕ) (contents : List Content) → HoldsEntries area contents → IsOlder area → ⊥
not_older area contents (inl short) older = let few = short.0 in let long = older.0 in omega arith
not_older area contents (inr closed) older =
    let is = first_byte area format_byte (entries_bytes contents ++ closed.0 ∷ closed.1) closed.3.bytes in
    let other = older.1 in omega arith

-- one that is damaged behind its first byte is not
pub damaged_older : (area : List ℕ) (place : ℕ) → IsDamagedAt area place → place ≢ 0 → IsOlder area → ⊥
damaged_older area place (long, inl format) apart older = apart format.1
damaged_older area place (long, inr (contents, rest, begins, broken, at)) apart older =
    let is = first_byte area format_byte (entries_bytes contents ++ rest) begins.bytes in
    let other = older.1 in omega arith

pub one_current : (image : Areas) (a b : List Change) → HoldsCurrent image a → HoldsCurrent image b → a ≡ b
one_current image a b x y = contents-injective a b x.each y.each (one_list (selected image) (ledger_contents a) (ledger_contents b) x.entries y.entries)

pub one_older : (image : Areas) (a b : List Change) → HoldsOlder image a → HoldsOlder image b → a ≡ b
one_older image a b x y =
    let contents : x.contents ≡ y.contents = one_list (in_format (selected image)) x.contents y.contents x.entries.entries y.entries.entries in
    contents-injective a b x.each y.each (sym x.same ∙ ap (map stamped) contents ∙ y.same)

pub apart_formats : (image : Areas) (a b : List Change) → HoldsCurrent image a → HoldsOlder image b → ⊥
apart_formats image a b x y = not_older (selected image) (ledger_contents a) x.entries y.entries.older

pub current_undamaged : (image : Areas) (ledger : List Change) (place : ℕ) → HoldsCurrent image ledger → IsCurrentDamagedAt (selected image) place → ⊥
current_undamaged image ledger place held (inl damaged) = not_both (selected image) (ledger_contents ledger) place held.entries damaged
current_undamaged image ledger place held (inr (contents, entries, breaks)) =
    let same = one_list (selected image) contents (ledger_contents ledger) entries held.entries in
    no_break itself contents ledger place (itself_map contents ∙ same) held.each held.follow breaks

pub older_undamaged : (image : Areas) (changes : List Change) (place : ℕ) → HoldsOlder image changes → IsOldDamagedAt (selected image) place → ⊥
older_undamaged image changes place held (inl damaged) = not_both (in_format (selected image)) held.contents place held.entries.entries damaged.damaged
older_undamaged image changes place held (inr (contents, entries, breaks)) =
    let same = one_list (in_format (selected image)) contents held.contents entries.entries held.entries.entries in
    no_break stamped contents changes place (ap (map stamped) same ∙ held.same) held.each held.follow breaks

-- what is damaged in the older format is of it
old_is_older : (area : List ℕ) (place : ℕ) → IsOldDamagedAt area place → IsOlder area
old_is_older area place (inl damaged) = damaged.older
old_is_older area place (inr (contents, entries, breaks)) = entries.older

pub one_shown : (image : Areas) (a b : List Change) → HoldsChanges image a → HoldsChanges image b → a ≡ b
one_shown image a b (inl x) (inl y) = one_current image a b x y
one_shown image a b (inl x) (inr y) = absurd (apart_formats image a b x y)
one_shown image a b (inr x) (inl y) = absurd (apart_formats image b a y x)
one_shown image a b (inr x) (inr y) = one_older image a b x y

pub shown_undamaged : (image : Areas) (changes : List Change) (place : ℕ) → HoldsChanges image changes → IsLedgerDamagedAt image place → ⊥
shown_undamaged image changes place (inl held) (inl damaged) = current_undamaged image changes place held damaged.1
shown_undamaged image changes place (inl held) (inr damaged) = not_older (selected image) (ledger_contents changes) held.entries (old_is_older (selected image) place damaged)
shown_undamaged image changes place (inr held) (inl damaged) = damaged.0 held.entries.older
shown_undamaged image changes place (inr held) (inr damaged) = older_undamaged image changes place held damaged

pub held_shown : (image : Areas) (ledger : List Change) → HoldsLedger image ledger → (changes : List Change) × HoldsChanges image changes
held_shown image ledger (inl held) = (ledger, inl held)
held_shown image ledger (inr (changes, held, is)) = (changes, inr held)

pub one_ledger : (image : Areas) (a b : List Change) → HoldsLedger image a → HoldsLedger image b → a ≡ b
one_ledger image a b (inl x) (inl y) = one_current image a b x y
one_ledger image a b (inl x) (inr (changes, y, is)) = absurd (apart_formats image a changes x y)
one_ledger image a b (inr (changes, x, is)) (inl y) = absurd (apart_formats image b changes y x)
one_ledger image a b (inr (changes, x, is)) (inr (others, y, also)) = is ∙ ap (compacted 0) (one_older image changes others x y) ∙ sym also

pub held_undamaged : (image : Areas) (ledger : List Change) (place : ℕ) → HoldsLedger image ledger → IsLedgerDamagedAt image place → ⊥
held_undamaged image ledger place held damaged = let r = held_shown image ledger held in shown_undamaged image r.0 place r.1 damaged

one_current_place : (area : List ℕ) (a b : ℕ) → IsCurrentDamagedAt area a → IsCurrentDamagedAt area b → a ≡ b
one_current_place area a b (inl x) (inl y) = one_place area a b x y
one_current_place area a b (inl x) (inr (contents, entries, breaks)) = absurd (not_both area contents a entries x)
one_current_place area a b (inr (contents, entries, breaks)) (inl y) = absurd (not_both area contents b entries y)
one_current_place area a b (inr (contents, entries, breaks)) (inr (others, also, other)) =
    one_place_of itself contents a b breaks (subst (λ (cs : List Content). Breaks itself cs b) (one_list area others contents also entries) other)

one_old_place : (area : List ℕ) (a b : ℕ) → IsOldDamagedAt area a → IsOldDamagedAt area b → a ≡ b
one_old_place area a b (inl x) (inl y) = one_place (in_format area) a b x.damaged y.damaged
one_old_place area a b (inl x) (inr (contents, entries, breaks)) = absurd (not_both (in_format area) contents a entries.entries x.damaged)
one_old_place area a b (inr (contents, entries, breaks)) (inl y) = absurd (not_both (in_format area) contents b entries.entries y.damaged)
one_old_place area a b (inr (contents, entries, breaks)) (inr (others, also, other)) =
    one_place_of stamped contents a b breaks (subst (λ (cs : List Content). Breaks stamped cs b) (one_list (in_format area) others contents also.entries entries.entries) other)

pub one_damage : (image : Areas) (a b : ℕ) → IsLedgerDamagedAt image a → IsLedgerDamagedAt image b → a ≡ b
one_damage image a b (inl x) (inl y) = one_current_place (selected image) a b x.1 y.1
one_damage image a b (inl x) (inr y) = absurd (x.0 (old_is_older (selected image) b y))
one_damage image a b (inr x) (inl y) = absurd (y.0 (old_is_older (selected image) a x))
one_damage image a b (inr x) (inr y) = one_old_place (selected image) a b x y
