-- What one more change does to a ledger, and what more changes do.
use Rattle.std.proofs.Common.{◌≡◌, ℕ, ◌+◌, ◌<◌, ◌≤◌, max, Bool, true, false, not, ◌||◌, cond, eqb, List, [], ◌∷◌, ◌++◌, map, Some, None, refl, sym, ap, ◌∙◌, subst, append-nil, append_assoc, arith, inl, inr}
use Rattle.std.specs.Prelude.{nat_le}
use Rattle.std.specs.List.{filter, filter_map, cons_option, list_any, All, Contains}
use Rattle.std.proofs.lemmas.List.Elements.{filter_map-append, filter-append, All-head, All-tail}
use Rattle.std.proofs.lemmas.Bool.{le-leb}
use Rattle.std.proofs.lemmas.Bool.Decides.{nat_tests}
use Rattle.std.proofs.lemmas.List.Folds.{list_any-append}
use Rattle.fk_base.specs.declared.digest.Digest.{Digest}
use Rattle.fk_trace.specs.declared.change.OpenRecord.{OpenRecord}
use Rattle.fk_trace.specs.declared.change.Change.{Change}
use Rattle.fk_trace.specs.declared.change.Change.TheVariants.{Open, Done, Settled, Floor}
use Rattle.fk_trace.specs.Ledger.{Key, key_of, key_by, opened_by, closed_by, numbered_by, opens, dones, live, is_open, seen, numbers, floor_by, floor_from, floor_of, next_by, next_from, next_id, kept_by, rise, after_one, after}
use Rattle.fk_trace.proofs.Lists.{Contains-head, Contains-tail, Contains-cases}

-- two filters, one after the other
pub filter-filter : {X : Type 0} (p q r : X → Bool) → ((x : X) → r x ≡ (p x || q x)) → (xs : List X) → filter (λ x. not (r x)) xs ≡ filter (λ x. not (q x)) (filter (λ x. not (p x)) xs)
filter-filter p q r or [] = refl
filter-filter p q r or (x ∷ xs) =
    let ih = filter-filter p q r or xs in
    rw (or x) (elim (p x) as (λ b. cond (not (b || q x)) (x ∷ filter (λ x. not (r x)) xs) (filter (λ x. not (r x)) xs) ≡ filter (λ x. not (q x)) (cond (not b) (x ∷ filter (λ x. not (p x)) xs) (filter (λ x. not (p x)) xs))) [
      | true ↦ ih
      | false ↦ ap (λ ys. cond (not (q x)) (x ∷ ys) ys) ih
    ])

-- lists of changes that are joined
pub opens-append : (a b : List Change) → opens (a ++ b) ≡ opens a ++ opens b
opens-append a b = filter_map-append opened_by a b

pub dones-append : (a b : List Change) → dones (a ++ b) ≡ dones a ++ dones b
dones-append a b = filter_map-append closed_by a b

pub seen-append : (a b : List Change) → seen (a ++ b) ≡ seen a ++ seen b
seen-append a b = filter_map-append key_by a b

pub numbers-append : (a b : List Change) → numbers (a ++ b) ≡ numbers a ++ numbers b
numbers-append a b = filter_map-append numbered_by a b

pub next_from-append : (next : ℕ) (a b : List Change) → next_from next (a ++ b) ≡ next_from (next_from next a) b
next_from-append next [] b = refl
next_from-append next (change ∷ a) b = next_from-append (next_by change next) a b

pub floor_from-append : (lower : ℕ) (a b : List Change) → floor_from lower (a ++ b) ≡ floor_from (floor_from lower a) b
floor_from-append lower [] b = refl
floor_from-append lower (change ∷ a) b = floor_from-append (floor_by change lower) a b

-- one more change
pub opens-push_done : (ledger : List Change) (id : ℕ) → opens (ledger ++ Done id ∷ []) ≡ opens ledger
opens-push_done ledger id = opens-append ledger (Done id ∷ []) ∙ append-nil (opens ledger)

pub dones-push_done : (ledger : List Change) (id : ℕ) → dones (ledger ++ Done id ∷ []) ≡ dones ledger ++ id ∷ []
dones-push_done ledger id = dones-append ledger (Done id ∷ [])

pub seen-push_done : (ledger : List Change) (id : ℕ) → seen (ledger ++ Done id ∷ []) ≡ seen ledger
seen-push_done ledger id = seen-append ledger (Done id ∷ []) ∙ append-nil (seen ledger)

pub opens-push_open : (ledger : List Change) (item : OpenRecord) → opens (ledger ++ Open item ∷ []) ≡ opens ledger ++ item ∷ []
opens-push_open ledger item = opens-append ledger (Open item ∷ [])

pub dones-push_open : (ledger : List Change) (item : OpenRecord) → dones (ledger ++ Open item ∷ []) ≡ dones ledger
dones-push_open ledger item = dones-append ledger (Open item ∷ []) ∙ append-nil (dones ledger)

pub seen-push_open : (ledger : List Change) (item : OpenRecord) → seen (ledger ++ Open item ∷ []) ≡ seen ledger ++ key_of item ∷ []
seen-push_open ledger item = seen-append ledger (Open item ∷ [])

any_push : (ids : List ℕ) (id n : ℕ) → list_any (λ d. eqb d n) (ids ++ id ∷ []) ≡ (list_any (λ d. eqb d n) ids || (eqb id n || false))
any_push ids id n = list_any-append (λ d. eqb d n) ids (id ∷ [])

or_false : (b : Bool) → (b || false) ≡ b
or_false true = refl
or_false false = refl

-- the records that none of these numbers closes
abbrev pub open_of : List ℕ → List OpenRecord → List OpenRecord
open_of ids items = filter (λ item. not (list_any (λ d. eqb d item.id) ids)) items

pub live-of : (ledger : List Change) (ids : List ℕ) (items : List OpenRecord) → dones ledger ≡ ids → opens ledger ≡ items → live ledger ≡ open_of ids items
live-of ledger ids items closed opened = ap (λ others. open_of others (opens ledger)) closed ∙ ap (open_of ids) opened

-- a Done takes its record out of the live ones
pub live-push_done : (ledger : List Change) (id : ℕ) → live (ledger ++ Done id ∷ []) ≡ filter (λ item. not (eqb id item.id)) (live ledger)
live-push_done ledger id =
    live-of (ledger ++ Done id ∷ []) (dones ledger ++ id ∷ []) (opens ledger) (dones-push_done ledger id) (opens-push_done ledger id)
    ∙ (filter-filter (λ item. list_any (λ d. eqb d item.id) (dones ledger)) (λ item. eqb id item.id) (λ item. list_any (λ d. eqb d item.id) (dones ledger ++ id ∷ []))
    (λ item. any_push (dones ledger) id item.id ∙ ap (λ b. list_any (λ d. eqb d item.id) (dones ledger) || b) (or_false (eqb id item.id))) (opens ledger))

-- a new record is live, if no Done names it
pub live-push_open : (ledger : List Change) (item : OpenRecord) → list_any (λ d. eqb d item.id) (dones ledger) ≡ false → live (ledger ++ Open item ∷ []) ≡ live ledger ++ item ∷ []
live-push_open ledger item new =
    live-of (ledger ++ Open item ∷ []) (dones ledger) (opens ledger ++ item ∷ []) (dones-push_open ledger item) (opens-push_open ledger item)
    ∙ (filter-append (λ r. not (list_any (λ d. eqb d r.id) (dones ledger))) (opens ledger) (item ∷ [])
    ∙ rw new refl)

-- what opens nothing and closes nothing leaves the live records
pub live-append_none : (ledger changes : List Change) → opens changes ≡ [] → dones changes ≡ [] → live (ledger ++ changes) ≡ live ledger
live-append_none ledger changes none_opened none_closed =
    live-of (ledger ++ changes) (dones ledger) (opens ledger)
    (dones-append ledger changes ∙ ap (λ ids. dones ledger ++ ids) none_closed ∙ append-nil (dones ledger))
    (opens-append ledger changes ∙ ap (λ items. opens ledger ++ items) none_opened ∙ append-nil (opens ledger))

pub live-push_settled : (ledger : List Change) (id stamp : ℕ) (digest : Digest) → live (ledger ++ Settled id stamp digest ∷ []) ≡ live ledger
live-push_settled ledger id stamp digest = live-append_none ledger (Settled id stamp digest ∷ []) refl refl

pub next_id-push : (ledger : List Change) (change : Change) → next_id (ledger ++ change ∷ []) ≡ next_by change (next_id ledger)
next_id-push ledger change = next_from-append 1 ledger (change ∷ [])

pub next_id-push_open : (ledger : List Change) (item : OpenRecord) → item.id ≡ next_id ledger → next_id (ledger ++ Open item ∷ []) ≡ next_id ledger + 1
next_id-push_open ledger item new =
    let pushed = next_id-push ledger (Open item) in
    let greater : max (next_id ledger) (item.id + 1) ≡ next_id ledger + 1 = grind arith in
    pushed ∙ greater

-- no number below another is at it
pub none_at_bound : (ids : List ℕ) (n : ℕ) → All (λ id. id < n) ids → list_any (λ d. eqb d n) ids ≡ false
none_at_bound [] n below = refl
none_at_bound (id ∷ ids) n below =
    let here : id < n = All-head (λ i. i < n) id ids below in
    let differs : eqb id n ≡ false = grind (arith, nat_tests) in
    rw differs (none_at_bound ids n (All-tail (λ i. i < n) id ids below))

-- Dones open nothing
pub opens-dones : (ids : List ℕ) → opens (map Done ids) ≡ []
opens-dones [] = refl
opens-dones (id ∷ ids) = opens-dones ids

pub dones-dones : (ids : List ℕ) → dones (map Done ids) ≡ ids
dones-dones [] = refl
dones-dones (id ∷ ids) = ap (λ others. id ∷ others) (dones-dones ids)

pub seen-dones : (ids : List ℕ) → seen (map Done ids) ≡ []
seen-dones [] = refl
seen-dones (id ∷ ids) = seen-dones ids

pub next_from-dones : (next : ℕ) (ids : List ℕ) → next_from next (map Done ids) ≡ next
next_from-dones next [] = refl
next_from-dones next (id ∷ ids) = next_from-dones next ids

pub floor_from-dones : (lower : ℕ) (ids : List ℕ) → floor_from lower (map Done ids) ≡ lower
floor_from-dones lower [] = refl
floor_from-dones lower (id ∷ ids) = floor_from-dones lower ids

-- the ledger after more changes
pub after-append : (ledger a b : List Change) → after ledger (a ++ b) ≡ after (after ledger a) b
after-append ledger [] b = refl
after-append ledger (change ∷ a) b = after-append (after_one ledger change) a b

-- the change is no Floor
abbrev pub IsNoFloor : Change → Type 0
IsNoFloor (Open item) = Unit {0}
IsNoFloor (Done id) = Unit {0}
IsNoFloor (Settled id stamp digest) = Unit {0}
IsNoFloor (Floor floor next) = ⊥

-- without a Floor the changes stand behind the ledger
pub after_one-behind : (ledger : List Change) (change : Change) → IsNoFloor change → after_one ledger change ≡ ledger ++ change ∷ []
after_one-behind ledger (Open item) h = refl
after_one-behind ledger (Done id) h = refl
after_one-behind ledger (Settled id stamp digest) h = refl
after_one-behind ledger (Floor floor next) h = absurd h

pub after-dones : (ledger : List Change) (ids : List ℕ) → after ledger (map Done ids) ≡ ledger ++ map Done ids
after-dones ledger [] = sym (append-nil ledger)
after-dones ledger (id ∷ ids) = after-dones (ledger ++ Done id ∷ []) ids ∙ append_assoc ledger (Done id ∷ []) (map Done ids)

-- the number grows on
pub next_by-above : (change : Change) (next : ℕ) → next ≤ next_by change next
next_by-above (Open item) next = grind arith
next_by-above (Done id) next = grind arith
next_by-above (Settled id stamp digest) next = grind arith
next_by-above (Floor floor first) next = grind arith

pub next_from-above : (next : ℕ) (changes : List Change) → next ≤ next_from next changes
next_from-above next [] = omega arith
next_from-above next (change ∷ changes) =
    let here = next_by-above change next in
    let rest = next_from-above (next_by change next) changes in
    omega arith

-- the numbers that a ledger has are below the next
pub number-below : (next : ℕ) (changes : List Change) (id : ℕ) → Contains (numbers changes) id → id < next_from next changes
number-below next [] id m = absurd (omega (arith, m.1))
number-below next (Open item ∷ changes) id m =
    elim (Contains-cases item.id (numbers changes) id m) [
      | inl e ↦ let up = next_from-above (max next (item.id + 1)) changes in grind arith
      | inr n ↦ number-below (max next (item.id + 1)) changes id n
    ]
number-below next (Done other ∷ changes) id m = number-below next changes id m
number-below next (Settled other stamp digest ∷ changes) id m =
    elim (Contains-cases other (numbers changes) id m) [
      | inl e ↦ let up = next_from-above (max next (other + 1)) changes in grind arith
      | inr n ↦ number-below (max next (other + 1)) changes id n
    ]
number-below next (Floor floor first ∷ changes) id m = number-below (max next first) changes id m

pub open-number : (changes : List Change) (item : OpenRecord) → Contains (opens changes) item → Contains (numbers changes) item.id
open-number [] item m = absurd (omega (arith, m.1))
open-number (Open other ∷ changes) item m =
    elim (Contains-cases other (opens changes) item m) [
      | inl e ↦ subst (λ (r : OpenRecord). Contains (other.id ∷ numbers changes) r.id) e (Contains-head other.id (numbers changes))
      | inr n ↦ Contains-tail other.id (numbers changes) item.id (open-number changes item n)
    ]
open-number (Done id ∷ changes) item m = open-number changes item m
open-number (Settled id stamp digest ∷ changes) item m = Contains-tail id (numbers changes) item.id (open-number changes item m)
open-number (Floor floor next ∷ changes) item m = open-number changes item m

-- where a ledger begins anew
pub filter-all : {X : Type 0} (xs : List X) → filter (λ x. true) xs ≡ xs
filter-all [] = refl
filter-all (x ∷ xs) = ap (λ ys. x ∷ ys) (filter-all xs)

module _ (floor : ℕ) (ledger : List Change) where
  abbrev pub kept_in : List Change → List Change
  kept_in changes = filter_map (kept_by floor ledger) changes

  opens-kept : (changes : List Change) → opens (kept_in changes) ≡ filter (is_open ledger) (opens changes)
  opens-kept [] = refl
  opens-kept (Open item ∷ changes) =
      let ih = opens-kept changes in
      elim (is_open ledger item) as (λ b. opens (cons_option (cond b (Some (Open item)) (cond (nat_le floor item.stamp) (Some (Settled item.id item.stamp item.digest)) None)) (kept_in changes))
      ≡ cond b (item ∷ filter (is_open ledger) (opens changes)) (filter (is_open ledger) (opens changes))) [
        | true ↦ ap (λ items. item ∷ items) ih
        | false ↦ elim (nat_le floor item.stamp) as (λ c. opens (cons_option (cond c (Some (Settled item.id item.stamp item.digest)) None) (kept_in changes)) ≡ filter (is_open ledger) (opens changes)) [
          | true ↦ ih
          | false ↦ ih
        ]
      ]
  opens-kept (Done id ∷ changes) = opens-kept changes
  opens-kept (Settled id stamp digest ∷ changes) =
      let ih = opens-kept changes in
      elim (nat_le floor stamp) as (λ c. opens (cons_option (cond c (Some (Settled id stamp digest)) None) (kept_in changes)) ≡ filter (is_open ledger) (opens changes)) [
        | true ↦ ih
        | false ↦ ih
      ]
  opens-kept (Floor lower next ∷ changes) = opens-kept changes

  pub dones-kept : (changes : List Change) → dones (kept_in changes) ≡ []
  dones-kept [] = refl
  dones-kept (Open item ∷ changes) =
      let ih = dones-kept changes in
      elim (is_open ledger item) as (λ b. dones (cons_option (cond b (Some (Open item)) (cond (nat_le floor item.stamp) (Some (Settled item.id item.stamp item.digest)) None)) (kept_in changes)) ≡ []) [
        | true ↦ ih
        | false ↦ elim (nat_le floor item.stamp) as (λ c. dones (cons_option (cond c (Some (Settled item.id item.stamp item.digest)) None) (kept_in changes)) ≡ []) [ true ↦ ih | false ↦ ih ]
      ]
  dones-kept (Done id ∷ changes) = dones-kept changes
  dones-kept (Settled id stamp digest ∷ changes) =
      let ih = dones-kept changes in
      elim (nat_le floor stamp) as (λ c. dones (cons_option (cond c (Some (Settled id stamp digest)) None) (kept_in changes)) ≡ []) [ true ↦ ih | false ↦ ih ]
  dones-kept (Floor lower next ∷ changes) = dones-kept changes

  floor-kept : (lower : ℕ) (changes : List Change) → floor_from lower (kept_in changes) ≡ lower
  floor-kept lower [] = refl
  floor-kept lower (Open item ∷ changes) =
      let ih = floor-kept lower changes in
      elim (is_open ledger item) as (λ b. floor_from lower (cons_option (cond b (Some (Open item)) (cond (nat_le floor item.stamp) (Some (Settled item.id item.stamp item.digest)) None)) (kept_in changes)) ≡ lower) [
        | true ↦ ih
        | false ↦ elim (nat_le floor item.stamp) as (λ c. floor_from lower (cons_option (cond c (Some (Settled item.id item.stamp item.digest)) None) (kept_in changes)) ≡ lower) [ true ↦ ih | false ↦ ih ]
      ]
  floor-kept lower (Done id ∷ changes) = floor-kept lower changes
  floor-kept lower (Settled id stamp digest ∷ changes) =
      let ih = floor-kept lower changes in
      elim (nat_le floor stamp) as (λ c. floor_from lower (cons_option (cond c (Some (Settled id stamp digest)) None) (kept_in changes)) ≡ lower) [ true ↦ ih | false ↦ ih ]
  floor-kept lower (Floor other next ∷ changes) = floor-kept lower changes

  -- what is kept has its number from before
  pub numbers-kept : (changes : List Change) (id : ℕ) → Contains (numbers (kept_in changes)) id → Contains (numbers changes) id
  numbers-kept [] id m = m
  numbers-kept (Open item ∷ changes) id m =
      let here : Contains (item.id ∷ numbers (kept_in changes)) id → Contains (item.id ∷ numbers changes) id =
      λ n. elim (Contains-cases item.id (numbers (kept_in changes)) id n) [
        | inl e ↦ subst (λ (k : ℕ). Contains (item.id ∷ numbers changes) k) e (Contains-head item.id (numbers changes))
        | inr k ↦ Contains-tail item.id (numbers changes) id (numbers-kept changes id k)
      ] in
      let gone : Contains (numbers (kept_in changes)) id → Contains (item.id ∷ numbers changes) id = λ k. Contains-tail item.id (numbers changes) id (numbers-kept changes id k) in
      (elim (is_open ledger item) as (λ b. Contains (numbers (cons_option (cond b (Some (Open item)) (cond (nat_le floor item.stamp) (Some (Settled item.id item.stamp item.digest)) None)) (kept_in changes))) id
      → Contains (item.id ∷ numbers changes) id) [
        | true ↦ here
        | false ↦ elim (nat_le floor item.stamp) as (λ c. Contains (numbers (cons_option (cond c (Some (Settled item.id item.stamp item.digest)) None) (kept_in changes))) id → Contains (item.id ∷ numbers changes) id) [
          | true ↦ here
          | false ↦ gone
        ]
      ]) m
  numbers-kept (Done done ∷ changes) id m = numbers-kept changes id m
  numbers-kept (Settled settled stamp digest ∷ changes) id m =
      (elim (nat_le floor stamp) as (λ c. Contains (numbers (cons_option (cond c (Some (Settled settled stamp digest)) None) (kept_in changes))) id → Contains (settled ∷ numbers changes) id) [
        | true ↦ λ n. elim (Contains-cases settled (numbers (kept_in changes)) id n) [
          | inl e ↦ subst (λ (k : ℕ). Contains (settled ∷ numbers changes) k) e (Contains-head settled (numbers changes))
          | inr k ↦ Contains-tail settled (numbers changes) id (numbers-kept changes id k)
        ]
        | false ↦ λ n. Contains-tail settled (numbers changes) id (numbers-kept changes id n)
      ]) m
  numbers-kept (Floor lower next ∷ changes) id m = numbers-kept changes id m

  -- and its key
  pub seen-kept : (changes : List Change) (key : Key) → Contains (seen (kept_in changes)) key → Contains (seen changes) key
  seen-kept [] key m = m
  seen-kept (Open item ∷ changes) key m =
      let here : Contains (key_of item ∷ seen (kept_in changes)) key → Contains (key_of item ∷ seen changes) key =
      λ n. elim (Contains-cases (key_of item) (seen (kept_in changes)) key n) [
        | inl e ↦ subst (λ (k : Key). Contains (key_of item ∷ seen changes) k) e (Contains-head (key_of item) (seen changes))
        | inr k ↦ Contains-tail (key_of item) (seen changes) key (seen-kept changes key k)
      ] in
      let gone : Contains (seen (kept_in changes)) key → Contains (key_of item ∷ seen changes) key = λ k. Contains-tail (key_of item) (seen changes) key (seen-kept changes key k) in
      (elim (is_open ledger item) as (λ b. Contains (seen (cons_option (cond b (Some (Open item)) (cond (nat_le floor item.stamp) (Some (Settled item.id item.stamp item.digest)) None)) (kept_in changes))) key
      → Contains (key_of item ∷ seen changes) key) [
        | true ↦ here
        | false ↦ elim (nat_le floor item.stamp) as (λ c. Contains (seen (cons_option (cond c (Some (Settled item.id item.stamp item.digest)) None) (kept_in changes))) key → Contains (key_of item ∷ seen changes) key) [
          | true ↦ here
          | false ↦ gone
        ]
      ]) m
  seen-kept (Done done ∷ changes) key m = seen-kept changes key m
  seen-kept (Settled id stamp digest ∷ changes) key m =
      let mine : Key = record { digest = digest.0; stamp = stamp } in
      (elim (nat_le floor stamp) as (λ c. Contains (seen (cons_option (cond c (Some (Settled id stamp digest)) None) (kept_in changes))) key → Contains (mine ∷ seen changes) key) [
        | true ↦ λ n. elim (Contains-cases mine (seen (kept_in changes)) key n) [
          | inl e ↦ subst (λ (k : Key). Contains (mine ∷ seen changes) k) e (Contains-head mine (seen changes))
          | inr k ↦ Contains-tail mine (seen changes) key (seen-kept changes key k)
        ]
        | false ↦ λ n. Contains-tail mine (seen changes) key (seen-kept changes key n)
      ]) m
  seen-kept (Floor lower next ∷ changes) key m = seen-kept changes key m

  -- a key that isn't below the floor is kept
  pub kept-seen : (changes : List Change) (key : Key) → Contains (seen changes) key → floor ≤ key.stamp → Contains (seen (kept_in changes)) key
  kept-seen [] key m above = m
  kept-seen (Open item ∷ changes) key m above =
      let rest : Contains (seen changes) key → Contains (seen (kept_in changes)) key = λ n. kept-seen changes key n above in
      let same : key_of item ≡ key → nat_le floor item.stamp ≡ true = λ e. let up = ap (λ (k : Key). k.stamp) e in le-leb floor item.stamp (omega arith) in
      elim (Contains-cases (key_of item) (seen changes) key m) [
        | inl e ↦
            rw (same e)
            (elim (is_open ledger item) as (λ b. Contains (seen (cons_option (cond b (Some (Open item)) (Some (Settled item.id item.stamp item.digest))) (kept_in changes))) key) [
              | true ↦ subst (λ (k : Key). Contains (key_of item ∷ seen (kept_in changes)) k) e (Contains-head (key_of item) (seen (kept_in changes)))
              | false ↦ subst (λ (k : Key). Contains (key_of item ∷ seen (kept_in changes)) k) e (Contains-head (key_of item) (seen (kept_in changes)))
            ])
        | inr n ↦
            elim (is_open ledger item) as (λ b. Contains (seen (cons_option (cond b (Some (Open item)) (cond (nat_le floor item.stamp) (Some (Settled item.id item.stamp item.digest)) None)) (kept_in changes))) key) [
              | true ↦ Contains-tail (key_of item) (seen (kept_in changes)) key (rest n)
              | false ↦ elim (nat_le floor item.stamp) as (λ c. Contains (seen (cons_option (cond c (Some (Settled item.id item.stamp item.digest)) None) (kept_in changes))) key) [
                | true ↦ Contains-tail (key_of item) (seen (kept_in changes)) key (rest n)
                | false ↦ rest n
              ]
            ]
      ]
  kept-seen (Done id ∷ changes) key m above = kept-seen changes key m above
  kept-seen (Settled id stamp digest ∷ changes) key m above =
      let mine : Key = record { digest = digest.0; stamp = stamp } in
      elim (Contains-cases mine (seen changes) key m) [
        | inl e ↦
            let up = ap (λ (k : Key). k.stamp) e in
            let kept : nat_le floor stamp ≡ true = le-leb floor stamp (omega arith) in
            rw kept (subst (λ (k : Key). Contains (mine ∷ seen (kept_in changes)) k) e (Contains-head mine (seen (kept_in changes))))
        | inr n ↦ elim (nat_le floor stamp) as (λ c. Contains (seen (cons_option (cond c (Some (Settled id stamp digest)) None) (kept_in changes))) key) [
          | true ↦ Contains-tail mine (seen (kept_in changes)) key (kept-seen changes key n above)
          | false ↦ kept-seen changes key n above
        ]
      ]
  kept-seen (Floor lower next ∷ changes) key m above = kept-seen changes key m above

  -- its numbers are below one that all were below
  next-kept : (next : ℕ) (changes : List Change) → ((id : ℕ) → Contains (numbers changes) id → id < next) → next_from next (kept_in changes) ≡ next
  next-kept next [] below = refl
  next-kept next (Open item ∷ changes) below =
      let ih = next-kept next changes (λ id m. below id (Contains-tail item.id (numbers changes) id m)) in
      let low = below item.id (Contains-head item.id (numbers changes)) in
      let same : max next (item.id + 1) ≡ next = grind (arith, low) in
      let more : next_from (max next (item.id + 1)) (kept_in changes) ≡ next = ap (λ (n : ℕ). next_from n (kept_in changes)) same ∙ ih in
      elim (is_open ledger item) as (λ b. next_from next (cons_option (cond b (Some (Open item)) (cond (nat_le floor item.stamp) (Some (Settled item.id item.stamp item.digest)) None)) (kept_in changes)) ≡ next) [
        | true ↦ more
        | false ↦ elim (nat_le floor item.stamp) as (λ c. next_from next (cons_option (cond c (Some (Settled item.id item.stamp item.digest)) None) (kept_in changes)) ≡ next) [ true ↦ more | false ↦ ih ]
      ]
  next-kept next (Done id ∷ changes) below = next-kept next changes below
  next-kept next (Settled id stamp digest ∷ changes) below =
      let ih = next-kept next changes (λ other m. below other (Contains-tail id (numbers changes) other m)) in
      let low = below id (Contains-head id (numbers changes)) in
      let same : max next (id + 1) ≡ next = grind (arith, low) in
      let more : next_from (max next (id + 1)) (kept_in changes) ≡ next = ap (λ (n : ℕ). next_from n (kept_in changes)) same ∙ ih in
      elim (nat_le floor stamp) as (λ c. next_from next (cons_option (cond c (Some (Settled id stamp digest)) None) (kept_in changes)) ≡ next) [ true ↦ more | false ↦ ih ]
  next-kept next (Floor lower first ∷ changes) below = next-kept next changes below

  -- A ledger that begins anew has its live records, the next number, this floor, and the keys that are not below it.
  pub live-rise : live (after_one ledger (rise floor ledger)) ≡ live ledger
  live-rise = live-of (after_one ledger (rise floor ledger)) [] (live ledger) (dones-kept ledger) (opens-kept ledger) ∙ filter-all (live ledger)

  pub floor-rise : floor_of (after_one ledger (rise floor ledger)) ≡ floor
  floor-rise = floor-kept floor ledger

  pub next_id-rise : next_id (after_one ledger (rise floor ledger)) ≡ next_id ledger
  next_id-rise =
      let first = next_from-above 1 ledger in
      let same : max 1 (next_id ledger) ≡ next_id ledger = grind arith in
      ap (λ (n : ℕ). next_from n (kept_in ledger)) same ∙ next-kept (next_id ledger) ledger (number-below 1 ledger)
