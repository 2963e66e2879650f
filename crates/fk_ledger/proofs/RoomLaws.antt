-- How many bytes and how many live records a ledger has, and one more change of it.
use Rattle.std.proofs.Common.{◌≡◌, ℕ, ◌+◌, ◌-◌, ◌*◌, ◌<◌, ◌≤◌, ◌==◌, ◌^◌, min, max, Bool, true, false, not, cond, List, [], ◌∷◌, ◌++◌, length, map, drop, get_or, refl, sym, ap, subst, ◌∙◌, arith, inl, inr, append_assoc, append-nil, Option, Some, None, Vec, Global, vec_capacity}
use Rattle.std.specs.Prelude.{nat_lt, nat_le, ◌&&◌}
use Rattle.std.specs.List.{sum_by, filter, filter_map, AllByRecursion, Contains, list_any}
use Rattle.std.proofs.lemmas.List.{length-append, length-map, length_push, drop_more, map-append}
use Rattle.std.proofs.lemmas.List.Sums.{sum_by-append}
use Rattle.std.proofs.lemmas.List.Elements.{All-from_recursion, recursion_from_All, All-map, All-contains}
use Rattle.std.proofs.lemmas.Bool.Decides.{nat_tests}
use Rattle.fk_trace.specs.declared.change.OpenRecord.{OpenRecord}
use Rattle.fk_trace.specs.declared.change.Change.{Change}
use Rattle.fk_trace.specs.declared.change.Change.TheVariants.{Open, Done, Settled, Floor}
use Rattle.std.specs.HashSet.{hash_set_len, spare}
use Rattle.fk_ledger.specs.Index.{holds}
use Rattle.fk_ledger.proofs.IndexLaws.{indexed_done}
use Rattle.fk_trace.specs.Ledger.{is_seen, opens, dones, live, numbers, free_by, first_free, floor_of, next_by, next_from, next_id, IsNumber, MayFollow, MayMake, IsLedger, IsLedgerFrom, Key, IsSeen, seen, kept_by, kept, rise, after_one}
use Rattle.fk_trace.proofs.Lists.{Contains-cases, Contains-map, Contains-unmap}
use Rattle.fk_trace.proofs.Ledgers.{opens-append, dones-append, numbers-append, floor_from-append, opens-push_open, opens-push_done, dones-push_open, dones-push_done, live-push_open, live-push_done, next_from-above, next_id-push, next_id-push_open, none_at_bound, live-rise, floor-rise, next_id-rise, seen-kept}
use Rattle.fk_trace.proofs.RiseLaws.{ledger-rise}
use Rattle.fk_host.specs.declared.disk.Area.{Area}
use Rattle.fk_host.specs.Disk.{Areas, Told}
use Rattle.fk_journal.specs.Entries.{Content, entry_bytes, entries_bytes, place_behind}
use Rattle.fk_journal.specs.Keeps.{Log, Keeps, StandsOn}
use Rattle.fk_ledger.specs.declared.ledger.Ledger.TheInside.{Inside}
use Rattle.fk_ledger.specs.Payloads.{content_of, ledger_contents, record_bytes, IsRecord, IsChange}
use Rattle.fk_ledger.specs.Book.{Book, used, needs, making_record, live_ids}
use Rattle.fk_ledger.specs.Holds.{KeepsLedger}
use Rattle.fk_ledger.specs.Private.{book_of, said_in, AreLedger, IsInOrder}
use Rattle.fk_ledger.specs.declared.older.Format.TheVariants.{Current}
use Rattle.fk_ledger.proofs.OpeningLaws.{current_entries}
use Rattle.fk_ledger.specs.Anew.{cost, kept_as}
use Rattle.fk_ledger.proofs.AnewLaws.{kept_live, kept_length}
use Rattle.fk_ledger.proofs.WordLists.{length-record, short_words}

-- ---- bytes

length-entry : (content : Content) → length (entry_bytes content) ≡ 6 + length content.payload
length-entry content = omega arith

length-entries : (ledger : List Change) → length (entries_bytes (ledger_contents ledger)) ≡ sum_by cost ledger
length-entries [] = refl
length-entries (change ∷ ledger) =
    let both = length-append (entry_bytes (content_of change)) (entries_bytes (ledger_contents ledger)) in
    let first = length-entry (content_of change) in
    let rest = length-entries ledger in
    let sums : sum_by cost (change ∷ ledger) ≡ cost change + sum_by cost ledger = sum_by-append cost (change ∷ []) ledger ∙ omega arith in
    omega arith

pub used-place : (ledger : List Change) → used ledger ≡ place_behind (ledger_contents ledger) + 1
used-place ledger = let all = length-entries ledger in omega arith

pub used-push : (ledger : List Change) (change : Change) → used (ledger ++ change ∷ []) ≡ used ledger + (6 + length (content_of change).payload)
used-push ledger change =
    let both = sum_by-append cost ledger (change ∷ []) in
    let one : sum_by cost (change ∷ []) ≡ cost change = omega arith in
    omega arith

pub journal_keeps : (ledger : List Change) (log : Log) (told : Option Told) (images : ℕ → Areas → Type 0) → used ledger ≡ log.end + 1 → StandsOn log.area told → KeepsLedger ledger told images → Keeps log (ledger_contents ledger) told images
journal_keeps ledger log told images size stands keeps = record { behind = (let place = used-place ledger in omega arith); stands = stands; held = keeps.held }

-- ---- live records

-- no two records have one number
abbrev Apart : List OpenRecord → Type 0
Apart [] = Unit {0}
Apart (item ∷ items) = AllByRecursion (λ (other : OpenRecord). (item.id == other.id) ≡ false) items × Apart items

recursion-push : {X : Type 0} (P : X → Type 0) (xs : List X) (x : X) → AllByRecursion P xs → P x → AllByRecursion P (xs ++ x ∷ [])
recursion-push P [] x all one = (one, tt)
recursion-push P (y ∷ ys) x all one = (all.0, recursion-push P ys x all.1 one)

recursion-weaker : {X : Type 0} (P Q : X → Type 0) → ((x : X) → P x → Q x) → (xs : List X) → AllByRecursion P xs → AllByRecursion Q xs
recursion-weaker P Q f [] all = tt
recursion-weaker P Q f (x ∷ xs) all = (f x all.0, recursion-weaker P Q f xs all.1)

recursion-filter : {X : Type 0} (P : X → Type 0) (q : X → Bool) (xs : List X) → AllByRecursion P xs → AllByRecursion P (filter q xs)
recursion-filter P q [] all = tt
recursion-filter P q (x ∷ xs) all = elim (q x) as (λ b. AllByRecursion P (cond b (x ∷ filter q xs) (filter q xs))) [
  | true ↦ (all.0, recursion-filter P q xs all.1)
  | false ↦ recursion-filter P q xs all.1
]

Apart-push : (items : List OpenRecord) (item : OpenRecord) (n : ℕ) → Apart items → AllByRecursion (λ (other : OpenRecord). other.id < n) items → item.id ≡ n → Apart (items ++ item ∷ [])
Apart-push [] item n apart below at = (tt, tt)
Apart-push (first ∷ items) item n apart below at =
    let low : first.id < n = below.0 in
    let differs : (first.id == item.id) ≡ false = grind (arith, nat_tests) in
    (recursion-push (λ (other : OpenRecord). (first.id == other.id) ≡ false) items item apart.0 differs, Apart-push items item n apart.1 below.1 at)

Apart-filter : (q : OpenRecord → Bool) (items : List OpenRecord) → Apart items → Apart (filter q items)
Apart-filter q [] apart = tt
Apart-filter q (item ∷ items) apart = elim (q item) as (λ b. Apart (cond b (item ∷ filter q items) (filter q items))) [
  | true ↦ (recursion-filter (λ (other : OpenRecord). (item.id == other.id) ≡ false) q items apart.0, Apart-filter q items apart.1)
  | false ↦ Apart-filter q items apart.1
]

kept_all : (id : ℕ) (items : List OpenRecord) → AllByRecursion (λ (other : OpenRecord). (id == other.id) ≡ false) items → filter (λ (item : OpenRecord). not (id == item.id)) items ≡ items
kept_all id [] all = refl
kept_all id (item ∷ items) all = let no : (id == item.id) ≡ false = all.0 in rw no (ap (λ xs. item ∷ xs) (kept_all id items all.1))

removed_one : (id : ℕ) (items : List OpenRecord) → Apart items → Contains (map (λ item. item.id) items) id → length (filter (λ (item : OpenRecord). not (id == item.id)) items) + 1 ≡ length items
removed_one id [] apart there = absurd (omega (arith, there.1))
removed_one id (item ∷ items) apart there =
    let P : Bool → Type 0 = λ b. b ≡ (id == item.id) → length (cond (not b) (item ∷ filter (λ (item : OpenRecord). not (id == item.id)) items) (filter (λ (item : OpenRecord). not (id == item.id)) items)) + 1 ≡ length (item ∷ items) in
    let here : P (id == item.id) = elim (id == item.id) as P [
      | true ↦ λ is.
          let same : item.id ≡ id = grind (arith, nat_tests) in
          let others : AllByRecursion (λ (other : OpenRecord). (id == other.id) ≡ false) items = subst (λ (n : ℕ). AllByRecursion (λ (other : OpenRecord). (n == other.id) ≡ false) items) same apart.0 in
          let size = ap length (kept_all id items others) in omega arith
      | false ↦ λ is.
          elim (Contains-cases item.id (map (λ (item : OpenRecord). item.id) items) id there) [
            | inl same ↦ absurd (let yes : (id == item.id) ≡ true = grind (arith, nat_tests) in let n : false ≡ true = is ∙ yes in cc)
            | inr behind ↦ let rest = removed_one id items apart.1 behind in omega arith
          ]
    ] in here refl

-- each number that the ledger has is below this one
abbrev Under : ℕ → List Change → Type 0
Under n ledger = AllByRecursion (λ (other : ℕ). other < n) (numbers ledger)

recursion-left : {X : Type 0} (P : X → Type 0) (xs ys : List X) → AllByRecursion P (xs ++ ys) → AllByRecursion P xs
recursion-left P [] ys all = tt
recursion-left P (x ∷ xs) ys all = (all.0, recursion-left P xs ys all.1)

recursion-right : {X : Type 0} (P : X → Type 0) (xs ys : List X) → AllByRecursion P (xs ++ ys) → AllByRecursion P ys
recursion-right P [] ys all = all
recursion-right P (x ∷ xs) ys all = recursion-right P xs ys all.1

under-left : (n : ℕ) (ledger more : List Change) → Under n (ledger ++ more) → Under n ledger
under-left n ledger more all =
    recursion-left (λ (other : ℕ). other < n) (numbers ledger) (numbers more) (subst (AllByRecursion (λ (other : ℕ). other < n)) (numbers-append ledger more) all)

under-right : (n : ℕ) (ledger more : List Change) → Under n (ledger ++ more) → Under n more
under-right n ledger more all =
    recursion-right (λ (other : ℕ). other < n) (numbers ledger) (numbers more) (subst (AllByRecursion (λ (other : ℕ). other < n)) (numbers-append ledger more) all)

under_next : (next : ℕ) (ledger : List Change) → Under (next_from next ledger) ledger
under_next next [] = tt
under_next next (Open item ∷ ledger) = (let high = next_from-above (max next (item.id + 1)) ledger in omega arith, under_next (max next (item.id + 1)) ledger)
under_next next (Done id ∷ ledger) = under_next next ledger
under_next next (Settled id stamp digest ∷ ledger) = (let high = next_from-above (max next (id + 1)) ledger in omega arith, under_next (max next (id + 1)) ledger)
under_next next (Floor floor first ∷ ledger) = under_next (max next first) ledger

-- what may be made may follow
pub made_follows : (ledger : List Change) (item : OpenRecord) → MayMake ledger (Open item) → MayFollow ledger (Open item)
made_follows ledger item may =
    (record { above = All-from_recursion (λ (other : ℕ). other < item.id) (numbers ledger) (subst (λ (n : ℕ). Under n ledger) (sym may.0) (under_next 1 ledger)); next = inr may.0 }, may.1)

-- what holds of the numbers in a ledger: no record has that of another, and the records and the Dones have none but those
record AreNumbered (ledger : List Change) : Type 0 where
  apart : Apart (opens ledger)
  opened : (n : ℕ) → Under n ledger → AllByRecursion (λ (item : OpenRecord). item.id < n) (opens ledger)
  settled : (n : ℕ) → Under n ledger → AllByRecursion (λ id. id < n) (dones ledger)

live_below : (ledger : List Change) (id n : ℕ) → AreNumbered ledger → Under n ledger → Contains (map (λ item. item.id) (live ledger)) id → id < n
live_below ledger id n are under there =
    let lives : AllByRecursion (λ (item : OpenRecord). item.id < n) (live ledger) = recursion-filter (λ (item : OpenRecord). item.id < n) (λ item. not (list_any (λ done. done == item.id) (dones ledger))) (opens ledger) (are.opened n under) in
    All-contains (λ m. m < n) (map (λ item. item.id) (live ledger)) id (All-map (λ m. m < n) (λ (item : OpenRecord). item.id) (live ledger) (All-from_recursion (λ (item : OpenRecord). item.id < n) (live ledger) lives)) there

numbered_open : (ledger : List Change) (item : OpenRecord) → AreNumbered ledger → Under item.id ledger → AreNumbered (ledger ++ Open item ∷ [])
numbered_open ledger item are above = record {
  apart = subst Apart (sym (opens-push_open ledger item)) (Apart-push (opens ledger) item item.id are.apart (are.opened item.id above) refl);
  opened = λ n under.
      let low : item.id < n = (under-right n ledger (Open item ∷ []) under).0 in
      subst (AllByRecursion (λ (other : OpenRecord). other.id < n)) (sym (opens-push_open ledger item))
      (recursion-push (λ (other : OpenRecord). other.id < n) (opens ledger) item (are.opened n (under-left n ledger (Open item ∷ []) under)) low);
  settled = λ n under. subst (AllByRecursion (λ id. id < n)) (sym (dones-push_open ledger item)) (are.settled n (under-left n ledger (Open item ∷ []) under));
}

numbered_done : (ledger : List Change) (id : ℕ) → AreNumbered ledger → Contains (map (λ item. item.id) (live ledger)) id → AreNumbered (ledger ++ Done id ∷ [])
numbered_done ledger id are there = record {
  apart = subst Apart (sym (opens-push_done ledger id)) are.apart;
  opened = λ n under. subst (AllByRecursion (λ (other : OpenRecord). other.id < n)) (sym (opens-push_done ledger id)) (are.opened n (under-left n ledger (Done id ∷ []) under));
  settled = λ n under.
      let before : Under n ledger = under-left n ledger (Done id ∷ []) under in
      subst (AllByRecursion (λ other. other < n)) (sym (dones-push_done ledger id))
      (recursion-push (λ other. other < n) (dones ledger) id (are.settled n before) (live_below ledger id n are before there));
}

-- a change that opens nothing and closes nothing
numbered_other : (ledger : List Change) (change : Change) → opens (change ∷ []) ≡ [] → dones (change ∷ []) ≡ [] → AreNumbered ledger → AreNumbered (ledger ++ change ∷ [])
numbered_other ledger change none_opened none_closed are =
    let opened : opens (ledger ++ change ∷ []) ≡ opens ledger = opens-append ledger (change ∷ []) ∙ ap (λ items. opens ledger ++ items) none_opened ∙ append-nil (opens ledger) in
    let closed : dones (ledger ++ change ∷ []) ≡ dones ledger = dones-append ledger (change ∷ []) ∙ ap (λ ids. dones ledger ++ ids) none_closed ∙ append-nil (dones ledger) in
    record {
      apart = subst Apart (sym opened) are.apart;
      opened = λ n under. subst (AllByRecursion (λ (other : OpenRecord). other.id < n)) (sym opened) (are.opened n (under-left n ledger (change ∷ []) under));
      settled = λ n under. subst (AllByRecursion (λ id. id < n)) (sym closed) (are.settled n (under-left n ledger (change ∷ []) under));
    }

above : (ledger : List Change) (id : ℕ) → IsNumber ledger id → Under id ledger
above ledger id is = recursion_from_All (λ (other : ℕ). other < id) (numbers ledger) is.above

numbered_from : (before ledger : List Change) → IsLedgerFrom before ledger → AreNumbered before → AreNumbered (before ++ ledger)
numbered_from before [] follow are = subst AreNumbered (sym (append-nil before)) are
numbered_from before (Open item ∷ ledger) follow are =
    subst AreNumbered (append_assoc before (Open item ∷ []) ledger) (numbered_from (before ++ Open item ∷ []) ledger follow.1 (numbered_open before item are (above before item.id follow.0.0)))
numbered_from before (Done id ∷ ledger) follow are =
    subst AreNumbered (append_assoc before (Done id ∷ []) ledger) (numbered_from (before ++ Done id ∷ []) ledger follow.1 (numbered_done before id are follow.0))
numbered_from before (Settled id stamp digest ∷ ledger) follow are =
    subst AreNumbered (append_assoc before (Settled id stamp digest ∷ []) ledger) (numbered_from (before ++ Settled id stamp digest ∷ []) ledger follow.1 (numbered_other before (Settled id stamp digest) refl refl are))
numbered_from before (Floor floor next ∷ ledger) follow are =
    subst AreNumbered (append_assoc before (Floor floor next ∷ []) ledger) (numbered_from (before ++ Floor floor next ∷ []) ledger follow.1 (numbered_other before (Floor floor next) refl refl are))

numbered : (ledger : List Change) → IsLedger ledger → AreNumbered ledger
numbered ledger follow = numbered_from [] ledger follow (record { apart = tt; opened = λ n under. tt; settled = λ n under. tt })

pub live_opened : (ledger : List Change) (item : OpenRecord) → IsLedger ledger → item.id ≡ next_id ledger → live (ledger ++ Open item ∷ []) ≡ live ledger ++ item ∷ []
live_opened ledger item follow at =
    let are = numbered ledger follow in
    let none : list_any (λ done. done == next_id ledger) (dones ledger) ≡ false =
    none_at_bound (dones ledger) (next_id ledger) (All-from_recursion (λ id. id < next_id ledger) (dones ledger) (are.settled (next_id ledger) (under_next 1 ledger))) in
    live-push_open ledger item (ap (λ (n : ℕ). list_any (λ done. done == n) (dones ledger)) at ∙ none)

pub live_settled : (ledger : List Change) (id : ℕ) → IsLedger ledger → Contains (map (λ item. item.id) (live ledger)) id → length (live (ledger ++ Done id ∷ [])) + 1 ≡ length (live ledger)
live_settled ledger id follow there =
    let are = numbered ledger follow in
    ap (λ n. n + 1) (ap length (live-push_done ledger id))
    ∙ removed_one id (live ledger) (Apart-filter (λ item. not (list_any (λ done. done == item.id) (dones ledger))) (opens ledger) are.apart) there

numbers_without : (id : ℕ) (items : List OpenRecord) → map (λ item. item.id) (filter (λ (item : OpenRecord). not (id == item.id)) items) ≡ filter (λ n. not (n == id)) (map (λ item. item.id) items)
numbers_without id [] = refl
numbers_without id (item ∷ items) =
    let ih = numbers_without id items in
    let same : (item.id == id) ≡ (id == item.id) = grind (arith, nat_tests) in
    rw same (elim (id == item.id) as (λ b. map (λ item. item.id) (cond (not b) (item ∷ filter (λ (item : OpenRecord). not (id == item.id)) items) (filter (λ (item : OpenRecord). not (id == item.id)) items))
    ≡ cond (not b) (item.id ∷ filter (λ n. not (n == id)) (map (λ item. item.id) items)) (filter (λ n. not (n == id)) (map (λ item. item.id) items))) [
      | true ↦ ih
      | false ↦ ap (λ (ns : List ℕ). item.id ∷ ns) ih
    ])

pub ids_settled : (ledger : List Change) (id : ℕ) → live_ids (ledger ++ Done id ∷ []) ≡ filter (λ n. not (n == id)) (live_ids ledger)
ids_settled ledger id = ap (map (λ item. item.id)) (live-push_done ledger id) ∙ numbers_without id (live ledger)

-- ---- the next number is one of 64 bits

pub record IsCounted (ledger : List Change) : Type 0 where
  pub free : first_free ledger ≤ 2 ^ 63
  pub next : next_id ledger ≤ 2 ^ 63 + length ledger

free_push : (ledger : List Change) (change : Change) → first_free ledger ≤ 2 ^ 63 → free_by change ≤ 2 ^ 63 → first_free (ledger ++ change ∷ []) ≤ 2 ^ 63
free_push [] change low also = also
free_push (first ∷ ledger) change low also = low

free_small : (change : Change) → IsChange change → free_by change ≤ 2 ^ 63
free_small (Open item) is = omega arith
free_small (Done id) is = omega arith
free_small (Settled id stamp digest) is = omega arith
free_small (Floor floor next) is = is.2

number_small : (ledger : List Change) (id : ℕ) → IsCounted ledger → IsNumber ledger id → id ≤ 2 ^ 63 + length ledger
number_small ledger id counted is =
    elim is.next [
      | inl low ↦ omega (arith, low, counted.free)
      | inr next ↦ omega (arith, next, counted.next)
    ]

next_small : (ledger : List Change) (change : Change) → IsCounted ledger → IsChange change → MayFollow ledger change → next_by change (next_id ledger) ≤ 2 ^ 63 + length ledger + 1
next_small ledger (Open item) counted is may = let low = number_small ledger item.id counted may.0 in let now = counted.next in omega arith
next_small ledger (Done id) counted is may = let now = counted.next in omega arith
next_small ledger (Settled id stamp digest) counted is may = let low = number_small ledger id counted may.0 in let now = counted.next in omega arith
next_small ledger (Floor floor first) counted is may = let low = is.2 in let now = counted.next in omega arith

pub counted_push : (ledger : List Change) (change : Change) → IsCounted ledger → IsChange change → MayFollow ledger change → IsCounted (ledger ++ change ∷ [])
counted_push ledger change counted is may =
    let pushed = next_id-push ledger change in
    let small = next_small ledger change counted is may in
    let more : length (ledger ++ change ∷ []) ≡ length ledger + 1 = length_push ledger change in
    record { free = free_push ledger change counted.free (free_small change is); next = omega arith }

-- the number after the next change is no greater than that after all
pub next_fits : (ledger : List Change) (i next : ℕ) (change : Change) → i < length ledger → change ≡ get_or ledger i change → next_from next (drop i ledger) ≡ next_id ledger → next_id ledger < 2 ^ 64
    → next_by change next < 2 ^ 64
next_fits ledger i next change within at so_far small =
    let step : next_from next (drop i ledger) ≡ next_from (next_by change next) (drop (i + 1) ledger) = ap (next_from next) (drop_more ledger i change within ∙ ap (λ x. x ∷ drop (i + 1) ledger) (sym at)) in
    let high = next_from-above (next_by change next) (drop (i + 1) ledger) in
    omega arith

-- ---- room

-- what a ledger needs with one more record
pub needs_opened : (ledger : List Change) (item : OpenRecord) → IsLedger ledger → item.id ≡ next_id ledger
    → needs (ledger ++ Open item ∷ []) ≡ used ledger + (6 + length (record_bytes item)) + 14 * (length (live ledger) + 1)
needs_opened ledger item follow at =
    let bytes = used-push ledger (Open item) in
    let lives : length (live (ledger ++ Open item ∷ [])) ≡ length (live ledger) + 1 = ap length (live_opened ledger item follow at) ∙ length_push (live ledger) item in
    omega arith

-- what a ledger uses that begins anew
pub used_anew : (floor : ℕ) (ledger : List Change) → used (after_one ledger (rise floor ledger)) ≡ 24 + sum_by cost (filter_map (kept_as floor (live_ids ledger)) ledger)
used_anew floor ledger =
    let parts : sum_by cost (after_one ledger (rise floor ledger)) ≡ 22 + sum_by cost (kept floor ledger) = sum_by-append cost (rise floor ledger ∷ []) (kept floor ledger) ∙ omega arith in
    let same : sum_by cost (kept floor ledger) ≡ sum_by cost (filter_map (kept_as floor (live_ids ledger)) ledger) = ap (sum_by cost) (kept_live floor ledger) in
    omega arith

-- what it needs with one more record
pub needs_anew : (floor : ℕ) (ledger : List Change) (item : OpenRecord) → IsLedger ledger → item.id ≡ next_id ledger
    → needs (after_one ledger (rise floor ledger) ++ Open item ∷ []) ≡ 24 + sum_by cost (filter_map (kept_as floor (live_ids ledger)) ledger) + (6 + length (record_bytes item)) + 14 * (length (live ledger) + 1)
needs_anew floor ledger item follow at =
    let anew : List Change = after_one ledger (rise floor ledger) in
    let need : needs (anew ++ Open item ∷ []) ≡ used anew + (6 + length (record_bytes item)) + 14 * (length (live anew) + 1) =
    needs_opened anew item (ledger-rise floor (next_id ledger) ledger refl follow) (at ∙ sym (next_id-rise floor ledger)) in
    let lives : length (live anew) ≡ length (live ledger) = ap length (live-rise floor ledger) in
    let bytes = used_anew floor ledger in
    omega arith

-- ---- how a record comes into the journal

and_false : (b : Bool) → (b && false) ≡ false
and_false true = refl
and_false false = refl

module _ (book : Book) (item : OpenRecord) where
  abbrev placed : Bool
  placed = nat_lt (length (live book.changes)) book.limit && nat_lt (next_id book.changes) 9223372036854775808

  abbrev behind_fits : Bool
  behind_fits = nat_le (needs (book.changes ++ Open item ∷ [])) book.room

  abbrev floor_now : ℕ
  floor_now = max (floor_of book.changes) (item.moment - book.keep)

  abbrev anew_fits : Bool
  anew_fits = nat_le (needs (after_one book.changes (rise floor_now book.changes) ++ Open item ∷ [])) book.room

  abbrev anew : List Change
  anew = Floor floor_now (next_id book.changes) ∷ Open item ∷ []

  abbrev made_placed : Bool → Bool → Bool → Option (List Change)
  made_placed place behind fits = cond place (cond behind (Some (Open item ∷ [])) (cond fits (Some anew) None)) None

  made_is : making_record book item ≡ made_placed placed behind_fits anew_fits
  made_is = refl

  pub full_of_live : book.limit ≤ length (live book.changes) → making_record book item ≡ None
  full_of_live many =
      let no : nat_lt (length (live book.changes)) book.limit ≡ false = grind (arith, nat_tests) in
      made_is ∙ ap (λ b. made_placed b behind_fits anew_fits) (ap (λ b. b && nat_lt (next_id book.changes) 9223372036854775808) no)

  pub full_of_numbers : 9223372036854775808 ≤ next_id book.changes → making_record book item ≡ None
  full_of_numbers many =
      let no : nat_lt (next_id book.changes) 9223372036854775808 ≡ false = grind (arith, nat_tests) in
      made_is ∙ ap (λ b. made_placed b behind_fits anew_fits) (ap (λ b. nat_lt (length (live book.changes)) book.limit && b) no ∙ and_false (nat_lt (length (live book.changes)) book.limit))

  module _ (few : length (live book.changes) < book.limit) (low : next_id book.changes < 9223372036854775808) (follow : IsLedger book.changes) (at : item.id ≡ next_id book.changes) where
    made_where : (behind fits : Bool) → behind_fits ≡ behind → anew_fits ≡ fits → making_record book item ≡ made_placed true behind fits
    made_where behind fits is_behind is_fits =
        let lives : nat_lt (length (live book.changes)) book.limit ≡ true = grind (arith, nat_tests) in
        let numbers : nat_lt (next_id book.changes) 9223372036854775808 ≡ true = grind (arith, nat_tests) in
        let place : placed ≡ true = ap (λ b. b && nat_lt (next_id book.changes) 9223372036854775808) lives ∙ numbers in
        made_is ∙ ap (λ b. made_placed b behind_fits anew_fits) place ∙ ap (λ b. made_placed true b anew_fits) is_behind ∙ ap (λ b. made_placed true behind b) is_fits

    module _ (more : ℕ) (sizes : more ≡ 6 + length (record_bytes item) + 14 * (length (live book.changes) + 1)) where
      behind_test : (used_to left : ℕ) → used book.changes ≡ used_to + 1 → left ≡ book.room - (used_to + 1) → behind_fits ≡ nat_le more left
      behind_test used_to left bytes is =
          let need = needs_opened book.changes item follow at in
          let total : ℕ = needs (book.changes ++ Open item ∷ []) in
          let same : nat_le total book.room ≡ nat_le more left = grind (arith, nat_tests) in same

      pub made_behind : (used_to left : ℕ) → used book.changes ≡ used_to + 1 → left ≡ book.room - (used_to + 1) → more ≤ left → making_record book item ≡ Some (Open item ∷ [])
      made_behind used_to left bytes is fits =
          let yes : nat_le more left ≡ true = grind (arith, nat_tests) in
          made_where true anew_fits (behind_test used_to left bytes is ∙ yes) refl

      module _ (used_to left : ℕ) (bytes : used book.changes ≡ used_to + 1) (is : left ≡ book.room - (used_to + 1)) (over : left < more) where
        not_behind : behind_fits ≡ false
        not_behind = let no : nat_le more left ≡ false = grind (arith, nat_tests) in behind_test used_to left bytes is ∙ no

        abbrev kept_bytes : ℕ
        kept_bytes = sum_by cost (filter_map (kept_as floor_now (live_ids book.changes)) book.changes)

        anew_test : anew_fits ≡ nat_le (24 + kept_bytes + more) book.room
        anew_test =
            let need = needs_anew floor_now book.changes item follow at in
            let total : ℕ = needs (after_one book.changes (rise floor_now book.changes) ++ Open item ∷ []) in
            let kept : ℕ = kept_bytes in
            let sum : total ≡ 24 + kept + more = omega (arith, need, sizes) in
            ap (λ n. nat_le n book.room) sum

        pub made_anew : (rest : ℕ) → rest + kept_bytes ≡ book.room → 24 + more ≤ rest → making_record book item ≡ Some anew
        made_anew rest parts fits =
            let kept : ℕ = kept_bytes in
            let yes : nat_le (24 + kept + more) book.room ≡ true = grind (arith, nat_tests) in
            made_where false true not_behind (anew_test ∙ yes)

        pub made_none : (rest : ℕ) → rest + kept_bytes ≡ book.room → rest < 24 + more → making_record book item ≡ None
        made_none rest parts over_rest =
            let kept : ℕ = kept_bytes in
            let no : nat_le (24 + kept + more) book.room ≡ false = grind (arith, nat_tests) in
            made_where false false not_behind (anew_test ∙ no)

        pub made_none_kept : book.room < kept_bytes → making_record book item ≡ None
        made_none_kept many =
            let kept : ℕ = kept_bytes in
            let no : nat_le (24 + kept + more) book.room ≡ false = grind (arith, nat_tests) in
            made_where false false not_behind (anew_test ∙ no)

-- ---- the order after one more change

-- its index is that of the ledger
abbrev pub IndexesIn : Inside → List Change → Type 0
IndexesIn like ledger = (digest : List ℕ) → holds digest like.index ≡ is_seen digest ledger

-- what is read off a ledger that is held in order
pub record IsOrderOf (inside : Inside) (ledger : List Change) : Type 0 where
  pub changes : inside.changes.items ≡ ledger
  pub live : inside.live.items ≡ live_ids ledger
  pub next : inside.next ≡ next_id ledger
  pub floor : inside.floor ≡ floor_of ledger
  pub used : used ledger ≡ inside.journal.end + 1
  pub idle : inside.journal.is_copying ≡ false
  pub index : IndexesIn inside ledger

pub order_of : (inside : Inside) (ledger : List Change) → IsOrderOf inside ledger → length ledger + length (live_ids ledger) ≤ vec_capacity inside.changes → inside.limit ≤ vec_capacity inside.live
    → 12136 ≤ inside.journal.reserved → 12136 ≤ vec_capacity inside.payload → IsInOrder inside
order_of inside ledger is room numbers reserved payload =
    let len = ap length is.changes in
    let lives = ap length is.live in
    record {
      live = is.live ∙ ap live_ids (sym is.changes);
      next = is.next ∙ ap next_id (sym is.changes);
      floor = is.floor ∙ ap floor_of (sym is.changes);
      used = λ unspent. ap used is.changes ∙ is.used;
      idle = λ unspent. is.idle;
      room = omega (arith, room, len, lives);
      numbers = numbers;
      reserved = (reserved, payload);
      index = λ digest. is.index digest ∙ ap (is_seen digest) (sym is.changes);
    }

pub ids_opened : (ledger : List Change) (item : OpenRecord) → IsLedger ledger → item.id ≡ next_id ledger → live_ids (ledger ++ Open item ∷ []) ≡ live_ids ledger ++ item.id ∷ []
ids_opened ledger item follow at = ap (map (λ item. item.id)) (live_opened ledger item follow at) ∙ map-append (λ item. item.id) (live ledger) (item ∷ [])

-- the order of a ledger with one more record
pub opened_order : (inside : Inside) (ledger : List Change) (item : OpenRecord) (size : ℕ) → IsLedger ledger → item.id ≡ next_id ledger → inside.changes.items ≡ ledger ++ Open item ∷ [] → inside.live.items ≡ live_ids ledger ++ item.id ∷ []
    → inside.next ≡ item.id + 1 → inside.floor ≡ floor_of ledger → size ≡ length (record_bytes item) → used ledger + 6 + size ≡ inside.journal.end + 1 → inside.journal.is_copying ≡ false
    → IndexesIn inside (ledger ++ Open item ∷ []) → IsOrderOf inside (ledger ++ Open item ∷ [])
opened_order inside ledger item size follow at items ids next floor sizes bytes idle index = record {
  changes = items;
  live = ids ∙ sym (ids_opened ledger item follow at);
  next = next ∙ ap (λ n. n + 1) at ∙ sym (next_id-push_open ledger item at);
  floor = floor ∙ sym (floor_from-append 0 ledger (Open item ∷ []));
  used = (let more : used (ledger ++ Open item ∷ []) ≡ used ledger + (6 + length (record_bytes item)) = used-push ledger (Open item) in omega (arith, more, sizes, bytes));
  idle = idle;
  index = index;
}

-- the order of a ledger, one record of which is settled
pub settled_order : (inside : Inside) (ledger : List Change) (id : ℕ) → inside.changes.items ≡ ledger ++ Done id ∷ [] → inside.live.items ≡ filter (λ n. not (n == id)) (live_ids ledger)
    → inside.next ≡ next_id ledger → inside.floor ≡ floor_of ledger → used ledger + 14 ≡ inside.journal.end + 1 → inside.journal.is_copying ≡ false
    → IndexesIn inside ledger → IsOrderOf inside (ledger ++ Done id ∷ [])
settled_order inside ledger id items ids next floor bytes idle index = record {
  changes = items;
  live = ids ∙ sym (ids_settled ledger id);
  next = next ∙ sym (next_id-push ledger (Done id));
  floor = floor ∙ sym (floor_from-append 0 ledger (Done id ∷ []));
  used = (let more : used (ledger ++ Done id ∷ []) ≡ used ledger + 14 = used-push ledger (Done id) in omega (arith, more, bytes));
  idle = idle;
  index = λ digest. indexed_done inside.index inside.index ledger index id digest;
}

-- what is reserved for a record has room for its change, for a Floor, for each Done and for its digest
pub record HasSlots (inside : Inside) : Type 0 where
  pub changes : length inside.changes.items + length inside.live.items + 3 ≤ vec_capacity inside.changes
  pub digests : length inside.changes.items + length inside.live.items + 2 ≤ hash_set_len inside.index + spare inside.index
  pub spare : 0 < spare inside.index

pub slots : (inside : Inside) (n : ℕ) → 0 < n → n ≤ (book_of inside).reserved → HasSlots inside
slots inside n some within =
    let a : ℕ = length inside.changes.items + length inside.live.items + 3 in
    let d : ℕ = length inside.changes.items + length inside.live.items + 2 in
    let m : ℕ = min (vec_capacity inside.payload) inside.journal.reserved in
    let P : Bool → Bool → Bool → Type 0 = λ x y z. nat_le a (vec_capacity inside.changes) ≡ x → nat_le d (hash_set_len inside.index + spare inside.index) ≡ y → nat_lt 0 (spare inside.index) ≡ z
    → n ≤ cond (x && (y && z)) m 0 → HasSlots inside in
    let here : (x y z : Bool) → P x y z = λ x y z. elim x as (λ x. P x y z) [
      | true ↦ elim y as (λ y. P true y z) [
        | true ↦ elim z as (λ z. P true true z) [
          | true ↦ λ is_x is_y is_z w. record { changes = grind (arith, nat_tests); digests = grind (arith, nat_tests); spare = grind (arith, nat_tests) }
          | false ↦ λ is_x is_y is_z w. absurd (omega (arith, some, w))
        ]
        | false ↦ λ is_x is_y is_z w. absurd (omega (arith, some, w))
      ]
      | false ↦ λ is_x is_y is_z w. absurd (omega (arith, some, w))
    ] in here (nat_le a (vec_capacity inside.changes)) (nat_le d (hash_set_len inside.index + spare inside.index)) (nat_lt 0 (spare inside.index)) refl refl refl within

pub long_record : (item : OpenRecord) → 0 < length (record_bytes item)
long_record item = let all = length-record item in omega arith

pub short_record : (item : OpenRecord) → IsRecord item → length (record_bytes item) ≤ 12136
short_record item is =
    let all = length-record item in
    let digest = is.digest.size in
    let words = short_words item.close is.close in
    omega arith

pub small_record : (item : OpenRecord) → IsRecord item → length (record_bytes item) < 2 ^ 32
small_record item is = let short = short_record item is in omega arith

-- the order of a ledger that was found
pub order_found : (inside : Inside) (found : List Change) (contents : List Content) → AreLedger (said_in Current) contents found → inside.changes.items ≡ found → inside.live.items ≡ live_ids found
    → inside.next ≡ next_id found → inside.floor ≡ floor_of found → inside.journal.end ≡ place_behind contents → inside.journal.is_copying ≡ false → IndexesIn inside found → IsOrderOf inside found
order_found inside found contents are items ids next floor end idle index = record {
  changes = items;
  live = ids;
  next = next;
  floor = floor;
  used = (
      let place : used found ≡ place_behind (ledger_contents found) + 1 = used-place found in
      let same : place_behind contents ≡ place_behind (ledger_contents found) = ap place_behind (current_entries contents found are) in
      omega (arith, place, same, end));
  idle = idle;
  index = index;
}

-- ---- the view of a ledger

abbrev book_with : List Change → ℕ → ℕ → Area → ℕ → ℕ → Bool → Book
book_with changes limit keep area room reserved spent = record { changes = changes; limit = limit; keep = keep; area = area; room = room; reserved = reserved; is_spent = spent }

pub book_same : (a b : Book) → a.changes ≡ b.changes → a.limit ≡ b.limit → a.keep ≡ b.keep → a.area ≡ b.area → a.room ≡ b.room → a.reserved ≡ b.reserved → a.is_spent ≡ b.is_spent → a ≡ b
book_same a b changes limit keep area room reserved spent =
    ap (λ (x : List Change). book_with x a.limit a.keep a.area a.room a.reserved a.is_spent) changes
    ∙ ap (λ (x : ℕ). book_with b.changes x a.keep a.area a.room a.reserved a.is_spent) limit
    ∙ ap (λ (x : ℕ). book_with b.changes b.limit x a.area a.room a.reserved a.is_spent) keep
    ∙ ap (λ (x : Area). book_with b.changes b.limit b.keep x a.room a.reserved a.is_spent) area
    ∙ ap (λ (x : ℕ). book_with b.changes b.limit b.keep b.area x a.reserved a.is_spent) room
    ∙ ap (λ (x : ℕ). book_with b.changes b.limit b.keep b.area b.room x a.is_spent) reserved
    ∙ ap (λ (x : Bool). book_with b.changes b.limit b.keep b.area b.room b.reserved x) spent

abbrev reserved_with : ℕ → ℕ → ℕ → ℕ → ℕ → ℕ
reserved_with slots capacity digests spare most = cond (nat_le (slots + 3) capacity && (nat_le (slots + 2) digests && nat_lt 0 spare)) most 0

-- what is reserved stays where a Done takes the place of a live record
pub reserved_same : (old new : Inside) → new.index ≡ old.index → length new.changes.items + length new.live.items ≡ length old.changes.items + length old.live.items → vec_capacity new.changes ≡ vec_capacity old.changes
    → vec_capacity new.payload ≡ vec_capacity old.payload → new.journal.reserved ≡ old.journal.reserved → (book_of new).reserved ≡ (book_of old).reserved
reserved_same old new index sums capacity payload reserved =
    ap (λ n. reserved_with n (vec_capacity new.changes) (hash_set_len new.index + spare new.index) (spare new.index) (min (vec_capacity new.payload) new.journal.reserved)) sums
    ∙ ap (λ n. reserved_with (length old.changes.items + length old.live.items) n (hash_set_len new.index + spare new.index) (spare new.index) (min (vec_capacity new.payload) new.journal.reserved)) capacity
    ∙ ap (λ i. reserved_with (length old.changes.items + length old.live.items) (vec_capacity old.changes) (hash_set_len i + spare i) (spare i) (min (vec_capacity new.payload) new.journal.reserved)) index
    ∙ ap (λ n. reserved_with (length old.changes.items + length old.live.items) (vec_capacity old.changes) (hash_set_len old.index + spare old.index) (spare old.index) (min n new.journal.reserved)) payload
    ∙ ap (λ n. reserved_with (length old.changes.items + length old.live.items) (vec_capacity old.changes) (hash_set_len old.index + spare old.index) (spare old.index) (min (vec_capacity old.payload) n)) reserved

-- a Done takes as much room as its live record had reserved
pub settled_room : (ledger : List Change) (id : ℕ) → IsLedger ledger → Contains (live_ids ledger) id → length (ledger ++ Done id ∷ []) + length (live_ids (ledger ++ Done id ∷ [])) ≡ length ledger + length (live_ids ledger)
settled_room ledger id follow there =
    let less = live_settled ledger id follow there in
    let more = length_push ledger (Done id) in
    let before = length-map (live ledger) (λ item. item.id) in
    let after_it = length-map (live (ledger ++ Done id ∷ [])) (λ item. item.id) in
    omega (arith, less, more, before, after_it)

pub opened_room : (ledger : List Change) (item : OpenRecord) → IsLedger ledger → item.id ≡ next_id ledger → length (ledger ++ Open item ∷ []) + length (live_ids (ledger ++ Open item ∷ [])) ≡ length ledger + length (live_ids ledger) + 2
opened_room ledger item follow at =
    let more = length_push ledger (Open item) in
    let lives : length (live_ids (ledger ++ Open item ∷ [])) ≡ length (live_ids ledger) + 1 = ap length (ids_opened ledger item follow at) ∙ length_push (live_ids ledger) item.id in
    omega (arith, more, lives)

-- ---- a ledger that begins anew, with one record more

module _ (ledger : List Change) (floor : ℕ) where
  abbrev pub anew_of : List Change
  anew_of = after_one ledger (rise floor ledger)

  pub anew_is : (ids : List ℕ) (next : ℕ) → ids ≡ live_ids ledger → next ≡ next_id ledger → Floor floor next ∷ filter_map (kept_as floor ids) ledger ≡ anew_of
  anew_is ids next is_ids is_next =
      ap (λ (n : ℕ). Floor floor n ∷ filter_map (kept_as floor ids) ledger) is_next
      ∙ ap (λ (i : List ℕ). Floor floor (next_id ledger) ∷ filter_map (kept_as floor i) ledger) is_ids
      ∙ ap (λ (xs : List Change). Floor floor (next_id ledger) ∷ xs) (sym (kept_live floor ledger))

  pub anew_length : length anew_of ≤ length ledger + 1
  anew_length = let few = kept_length (kept_by floor ledger) ledger in omega (arith, few)

  pub anew_ids : live_ids anew_of ≡ live_ids ledger
  anew_ids = ap (map (λ item. item.id)) (live-rise floor ledger)

  pub anew_floor : floor_of anew_of ≡ floor
  anew_floor = floor-rise floor ledger

  pub anew_next : next_id anew_of ≡ next_id ledger
  anew_next = next_id-rise floor ledger

  pub anew_ledger : IsLedger ledger → IsLedger anew_of
  anew_ledger follow = ledger-rise floor (next_id ledger) ledger refl follow

  -- what may be made may follow there too
  pub anew_made_follows : (item : OpenRecord) → MayMake ledger (Open item) → MayFollow anew_of (Open item)
  anew_made_follows item may = (
    record {
      above = All-from_recursion (λ (other : ℕ). other < item.id) (numbers anew_of) (subst (λ (n : ℕ). Under n anew_of) (sym (may.0 ∙ sym anew_next)) (under_next 1 anew_of));
      next = inr (may.0 ∙ sym anew_next);
    },
    λ known.
        let at = Contains-unmap (λ (key : Key). key.digest) (seen (kept floor ledger)) item.digest.0 known in
        may.1 (subst (λ (digest : List ℕ). IsSeen digest ledger) at.2 (Contains-map (λ (key : Key). key.digest) (seen ledger) at.0 (seen-kept floor ledger ledger at.0 at.1))),
  )

-- the number of the next record is one that a Floor may have
pub next_in : (ledger : List Change) (next : ℕ) → next ≡ next_id ledger → next_id ledger < 2 ^ 63 → (1 ≤ next) × (next ≤ 2 ^ 63)
next_in ledger next is low = let high = next_from-above 1 ledger in (omega (arith, is, high), omega (arith, is, low))

-- the order stays where room was made in memory
pub order_kept : (inside other : Inside) → IsInOrder inside → other.journal ≡ record inside.journal { reserved = other.journal.reserved } → inside.journal.reserved ≤ other.journal.reserved
    → other.changes.items ≡ inside.changes.items → vec_capacity inside.changes ≤ vec_capacity other.changes → vec_capacity inside.payload ≤ vec_capacity other.payload
    → ((digest : List ℕ) → holds digest other.index ≡ holds digest inside.index) → other.live ≡ inside.live → other.next ≡ inside.next → other.floor ≡ inside.floor → other.limit ≡ inside.limit → IsInOrder other
order_kept inside other order journal_is more items capacity payload held lives nexts floors limits =
    let end_is : other.journal.end ≡ inside.journal.end = ap (λ (l : Log). l.end) journal_is in
    let spent_is : other.journal.is_spent ≡ inside.journal.is_spent = ap (λ (l : Log). l.is_spent) journal_is in
    let len = ap length items in
    let ids : other.live.items ≡ inside.live.items = ap (λ (v : Vec ℕ Global). v.items) lives in
    let count = ap length ids in
    let slots : vec_capacity other.live ≡ vec_capacity inside.live = ap (λ (v : Vec ℕ Global). vec_capacity v) lives in
    record {
      live = ids ∙ order.live ∙ ap live_ids (sym items);
      next = nexts ∙ order.next ∙ ap next_id (sym items);
      floor = floors ∙ order.floor ∙ ap floor_of (sym items);
      used = λ unspent. ap used items ∙ order.used (sym spent_is ∙ unspent) ∙ ap (λ (n : ℕ). n + 1) (sym end_is);
      idle = λ unspent. ap (λ (l : Log). l.is_copying) journal_is ∙ order.idle (sym spent_is ∙ unspent);
      room = (let fits = order.room in omega (arith, fits, len, count, capacity));
      numbers = (let fits = order.numbers in omega (arith, fits, slots, limits));
      reserved = (let low = order.reserved.0 in omega (arith, low, more), let low = order.reserved.1 in omega (arith, low, payload));
      index = λ digest. held digest ∙ order.index digest ∙ ap (is_seen digest) (sym items);
    }
