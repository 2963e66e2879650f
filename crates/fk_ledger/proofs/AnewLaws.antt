-- What of a ledger stays where it begins anew.
use Rattle.std.proofs.Common.{◌≡◌, ℕ, ◌+◌, ◌<◌, ◌≤◌, ◌==◌, Bool, true, false, not, cond, List, [], ◌∷◌, length, map, drop, get_or, Option, Some, None, refl, sym, ap, ◌∙◌, arith}
use Rattle.std.specs.Prelude.{nat_le, ◌&&◌, ◌||◌}
use Rattle.std.specs.List.{filter, filter_map, list_any, cons_option, sum_by, Contains}
use Rattle.std.specs.Option.{option_to_list}
use Rattle.std.proofs.lemmas.Bool.Decides.{nat_tests}
use Rattle.std.proofs.lemmas.List.{drop_more}
use Rattle.std.proofs.lemmas.List.Sums.{sum_by-append}
use Rattle.fk_trace.specs.declared.change.OpenRecord.{OpenRecord}
use Rattle.fk_trace.specs.declared.change.Change.{Change}
use Rattle.fk_trace.specs.declared.change.Change.TheVariants.{Open, Done, Settled, Floor}
use Rattle.fk_trace.specs.Ledger.{opens, dones, is_open, kept_by, kept}
use Rattle.fk_trace.proofs.Lists.{Contains-head, Contains-tail, Contains-map, list_any-from}
use Rattle.fk_ledger.specs.Book.{live_ids}
use Rattle.fk_ledger.specs.Anew.{settled_as, stays, kept_as, cost}

-- ---- what stays

and_false : (b : Bool) → (b && false) ≡ false
and_false true = refl
and_false false = refl

and_true : (b : Bool) → (b && true) ≡ b
and_true true = refl
and_true false = refl

in_live : (c x l : Bool) → (c ≡ true → x ≡ true) → (c || (x && l)) ≡ (x && (c || l))
in_live true x l same = rw (same refl) refl
in_live false x l same = refl

not_live : (c x l : Bool) → (c ≡ true → x ≡ false) → (x && l) ≡ (x && (c || l))
not_live true x l same = rw (same refl) refl
not_live false x l same = refl

abbrev numbers_of : List OpenRecord → List ℕ
numbers_of items = map (λ item. item.id) items

abbrev among : ℕ → List ℕ → Bool
among n ids = list_any (λ id. id == n) ids

-- a number is among those of the records whose numbers pass exactly where it passes and is among those of all
among_filter : (f : ℕ → Bool) (n : ℕ) (items : List OpenRecord) → among n (numbers_of (filter (λ item. f item.id) items)) ≡ (f n && among n (numbers_of items))
among_filter f n [] = sym (and_false (f n))
among_filter f n (item ∷ items) =
    let ih = among_filter f n items in
    let P : Bool → Type 0 = λ b. f item.id ≡ b → among n (numbers_of (cond b (item ∷ filter (λ item. f item.id) items) (filter (λ item. f item.id) items))) ≡ (f n && ((item.id == n) || among n (numbers_of items))) in
    let here : P (f item.id) = elim (f item.id) as P [
      | true ↦ λ is. ap (λ b. (item.id == n) || b) ih ∙ in_live (item.id == n) (f n) (among n (numbers_of items)) (λ same. ap f (sym (let at : item.id ≡ n = grind (arith, nat_tests) in at)) ∙ is)
      | false ↦ λ is. ih ∙ not_live (item.id == n) (f n) (among n (numbers_of items)) (λ same. ap f (sym (let at : item.id ≡ n = grind (arith, nat_tests) in at)) ∙ is)
    ] in here refl

-- a record of the ledger is live exactly where its number is among those of the live records
live_number : (ledger : List Change) (item : OpenRecord) → Contains (opens ledger) item → among item.id (live_ids ledger) ≡ is_open ledger item
live_number ledger item there =
    let among_all : among item.id (numbers_of (opens ledger)) ≡ true =
    list_any-from (λ (id : ℕ). id == item.id) (numbers_of (opens ledger)) item.id (Contains-map (λ (item : OpenRecord). item.id) (opens ledger) item there) (grind (arith, nat_tests)) in
    among_filter (λ n. not (list_any (λ id. id == n) (dones ledger))) item.id (opens ledger) ∙ ap (λ b. is_open ledger item && b) among_all ∙ and_true (is_open ledger item)

open_kept : (floor : ℕ) (ids : List ℕ) (item : OpenRecord) (b : Bool) → among item.id ids ≡ b
    → cond b (Some (Open item)) (cond (nat_le floor item.stamp) (Some (Settled item.id item.stamp item.digest)) None) ≡ kept_as floor ids (Open item)
open_kept floor ids item true is = rw is refl
open_kept floor ids item false is = rw is refl

kept_is : (floor : ℕ) (ledger changes : List Change) → ((item : OpenRecord) → Contains (opens changes) item → Contains (opens ledger) item)
    → filter_map (kept_by floor ledger) changes ≡ filter_map (kept_as floor (live_ids ledger)) changes
kept_is floor ledger [] within = refl
kept_is floor ledger (Open item ∷ changes) within =
    let one : kept_by floor ledger (Open item) ≡ kept_as floor (live_ids ledger) (Open item) =
    open_kept floor (live_ids ledger) item (is_open ledger item) (live_number ledger item (within item (Contains-head item (opens changes)))) in
    let rest = kept_is floor ledger changes (λ other m. within other (Contains-tail item (opens changes) other m)) in
    ap (λ (o : Option Change). cons_option o (filter_map (kept_by floor ledger) changes)) one ∙ ap (λ (xs : List Change). cons_option (kept_as floor (live_ids ledger) (Open item)) xs) rest
kept_is floor ledger (Done id ∷ changes) within = kept_is floor ledger changes within
kept_is floor ledger (Settled id stamp digest ∷ changes) within =
    ap (λ (xs : List Change). cons_option (kept_as floor (live_ids ledger) (Settled id stamp digest)) xs) (kept_is floor ledger changes within)
kept_is floor ledger (Floor lower next ∷ changes) within = kept_is floor ledger changes within

-- what is kept of a ledger, by the numbers of its live records
pub kept_live : (floor : ℕ) (ledger : List Change) → kept floor ledger ≡ filter_map (kept_as floor (live_ids ledger)) ledger
kept_live floor ledger = kept_is floor ledger ledger (λ item m. m)

-- ---- in memory

pub kept_filter : (floor : ℕ) (ids : List ℕ) (changes : List Change) → filter (stays floor) (map (settled_as ids) changes) ≡ filter_map (kept_as floor ids) changes
kept_filter floor ids [] = refl
kept_filter floor ids (change ∷ changes) =
    let ih = kept_filter floor ids changes in
    let one : Change = settled_as ids change in
    elim (stays floor one) as (λ b. cond b (one ∷ filter (stays floor) (map (settled_as ids) changes)) (filter (stays floor) (map (settled_as ids) changes)) ≡ cons_option (cond b (Some one) None) (filter_map (kept_as floor ids) changes)) [
      | true ↦ ap (λ (xs : List Change). one ∷ xs) ih
      | false ↦ ih
    ]

-- no more stay than there were
pub kept_length : {X Y : Type 0} (f : X → Option Y) (xs : List X) → length (filter_map f xs) ≤ length xs
kept_length f [] = omega arith
kept_length f (x ∷ xs) =
    let ih = kept_length f xs in
    elim (f x) as (λ o. length (cons_option o (filter_map f xs)) ≤ length (x ∷ xs)) [
      | Some y ↦ omega arith
      | None ↦ omega arith
    ]

-- ---- bytes

abbrev total : ℕ → List ℕ → List Change → ℕ
total floor ids changes = sum_by cost (filter_map (kept_as floor ids) changes)

split_one : (o : Option Change) (rest : List Change) → sum_by cost (cons_option o rest) ≡ sum_by cost (option_to_list o) + sum_by cost rest
split_one None rest = omega arith
split_one (Some change) rest = sum_by-append cost (change ∷ []) rest

-- the bytes of what stays behind a place are those of the change there, and those behind it
pub total_step : (floor : ℕ) (ids : List ℕ) (changes : List Change) (i : ℕ) (change : Change) → i < length changes → change ≡ get_or changes i change
    → total floor ids (drop i changes) ≡ sum_by cost (option_to_list (kept_as floor ids change)) + total floor ids (drop (i + 1) changes)
total_step floor ids changes i change within at =
    ap (total floor ids) (drop_more changes i change within ∙ ap (λ (x : Change). x ∷ drop (i + 1) changes) (sym at))
    ∙ split_one (kept_as floor ids change) (filter_map (kept_as floor ids) (drop (i + 1) changes))
