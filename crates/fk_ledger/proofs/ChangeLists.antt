-- What is asked of a list of changes, one by one.
use Rattle.std.proofs.Common.{◌≡◌, ℕ, ◌+◌, ◌<◌, ◌≤◌, ◌==◌, nat_eq, get_or, take, Bool, true, false, not, ◌||◌, cond, List, [], ◌∷◌, ◌++◌, length, map, refl, ap, sym, ◌∙◌, arith, Option, Some, None, subst, inl, inr}
use Rattle.std.specs.Prelude.{nat_lt, ◌&&◌, IsTrue, is_some}
use Rattle.std.specs.List.{filter, list_any, list_all, find, All, AllByRecursion, Contains}
use Rattle.std.specs.Option.{option_and_then, option_copied}
use Rattle.std.specs.Cmp.Lexicographic.{pointwise}
use Rattle.std.proofs.lemmas.Bool.Decides.{nat_tests}
use Rattle.std.specs.Borrow.{Bor}
use Rattle.std.proofs.lemmas.List.{map-append, take_more}
use Rattle.std.proofs.lemmas.List.Elements.{filter-append, filter_agree, All-from_recursion, recursion_from_All}
use Rattle.std.proofs.lemmas.Slice.Eq.{bytes_eq-Decides}
use Rattle.fk_trace.proofs.Lists.{Contains-head, Contains-tail, Contains-cases, Contains-map, list_any-at}
use Rattle.fk_trace.proofs.Grants.{fresh-unseen}
use Rattle.fk_trace.proofs.Ledgers.{opens-append}
use Rattle.fk_ledger.specs.Book.{live_ids}
use Rattle.fk_trace.specs.declared.change.OpenRecord.{OpenRecord}
use Rattle.fk_trace.specs.declared.change.Change.{Change}
use Rattle.fk_trace.specs.declared.change.Change.TheVariants.{Open, Done, Settled, Floor}
use Rattle.fk_trace.specs.Ledger.{Key, opened_by, opens, dones, live, seen, is_seen, IsSeen, numbers, first_free, next_id, IsNumber, MayFollow}
use Rattle.fk_ledger.specs.Private.{has_digest, ids_of, is_below, opens_id, settles_id}

pub any_done : (ledger : List Change) (id : ℕ) → list_any (settles_id id) ledger ≡ list_any (λ done. done == id) (dones ledger)
any_done [] id = refl
any_done (Open item ∷ ledger) id = any_done ledger id
any_done (Done done ∷ ledger) id = ap (λ b. done == id || b) (any_done ledger id)
any_done (Settled settled stamp digest ∷ ledger) id = any_done ledger id
any_done (Floor floor next ∷ ledger) id = any_done ledger id

pub any_seen : (ledger : List Change) (digest : List ℕ) → list_any (has_digest digest) ledger ≡ is_seen digest ledger
any_seen [] digest = refl
any_seen (Open item ∷ ledger) digest = ap (λ b. pointwise nat_eq item.digest.0 digest || b) (any_seen ledger digest)
any_seen (Done done ∷ ledger) digest = any_seen ledger digest
any_seen (Settled id stamp other ∷ ledger) digest = ap (λ b. pointwise nat_eq other.0 digest || b) (any_seen ledger digest)
any_seen (Floor floor next ∷ ledger) digest = any_seen ledger digest

pub find_opened : (ledger : List Change) (id : ℕ) → option_and_then opened_by (find (opens_id id) ledger) ≡ find (λ item. item.id == id) (opens ledger)
find_opened [] id = refl
find_opened (Open item ∷ ledger) id = elim (item.id == id) as (λ b. option_and_then opened_by (cond b (Some (Open item)) (find (opens_id id) ledger)) ≡ cond b (Some item) (find (λ item. item.id == id) (opens ledger))) [
  | true ↦ refl
  | false ↦ find_opened ledger id
]
find_opened (Done done ∷ ledger) id = find_opened ledger id
find_opened (Settled settled stamp digest ∷ ledger) id = find_opened ledger id
find_opened (Floor floor next ∷ ledger) id = find_opened ledger id

-- what is found in what a filter keeps
pub find_kept : {X : Type 0} (p q : X → Bool) → ((x : X) → p x ≡ true → q x ≡ true) → (xs : List X) → find p (filter q xs) ≡ find p xs
find_kept p q keeps [] = refl
find_kept p q keeps (x ∷ xs) =
    let P : Bool → Type 0 = λ b. b ≡ p x → find p (cond (q x) (x ∷ filter q xs) (filter q xs)) ≡ cond b (Some x) (find p xs) in
    let here : P (p x) = elim (p x) as P [
      | true ↦ λ is. rw (keeps x (sym is), sym is) refl
      | false ↦ λ is. elim (q x) as (λ b. find p (cond b (x ∷ filter q xs) (filter q xs)) ≡ find p xs) [
        | true ↦ rw (sym is) (find_kept p q keeps xs)
        | false ↦ find_kept p q keeps xs
      ]
    ] in here refl

pub find_dropped : {X : Type 0} (p q : X → Bool) → ((x : X) → p x ≡ true → q x ≡ false) → (xs : List X) → find p (filter q xs) ≡ None
find_dropped p q drops [] = refl
find_dropped p q drops (x ∷ xs) =
    let P : Bool → Type 0 = λ b. b ≡ q x → find p (cond b (x ∷ filter q xs) (filter q xs)) ≡ None in
    let here : P (q x) = elim (q x) as P [
      | true ↦ λ is.
          let other : p x ≡ false = elim (p x) as (λ b. b ≡ p x → b ≡ false) [ true ↦ λ at. absurd (let no = drops x (sym at) in cc) | false ↦ λ at. refl ] refl in
          rw other (find_dropped p q drops xs)
      | false ↦ λ is. find_dropped p q drops xs
    ] in here refl

-- the record of a number that no Done has is found among the live ones where it was made, and that of another is not
pub live_found : (ledger : List Change) (id : ℕ) → list_any (λ done. done == id) (dones ledger) ≡ false → find (λ item. item.id == id) (live ledger) ≡ find (λ item. item.id == id) (opens ledger)
live_found ledger id undone = find_kept (λ (item : OpenRecord). item.id == id) (λ item. not (list_any (λ done. done == item.id) (dones ledger)))
    (λ item same. let is : item.id ≡ id = grind (arith, nat_tests) in rw (is, undone) refl) (opens ledger)

pub done_gone : (ledger : List Change) (id : ℕ) → list_any (λ done. done == id) (dones ledger) ≡ true → find (λ item. item.id == id) (live ledger) ≡ None
done_gone ledger id is_done = find_dropped (λ (item : OpenRecord). item.id == id) (λ item. not (list_any (λ done. done == item.id) (dones ledger)))
    (λ item same. let is : item.id ≡ id = grind (arith, nat_tests) in rw (is, is_done) refl) (opens ledger)

-- the change that made a live record has it
pub found_live : (ledger : List Change) (id : ℕ) (x : Option Change) → x ≡ find (opens_id id) ledger → list_any (settles_id id) ledger ≡ false → option_and_then opened_by x ≡ find (λ item. item.id == id) (live ledger)
found_live ledger id x is undone =
    ap (option_and_then opened_by) is ∙ find_opened ledger id ∙ sym (live_found ledger id (sym (any_done ledger id) ∙ undone))

pub found_done : (ledger : List Change) (id : ℕ) → list_any (settles_id id) ledger ≡ true → None ≡ find (λ item. item.id == id) (live ledger)
found_done ledger id is_done = sym (done_gone ledger id (sym (any_done ledger id) ∙ is_done))

-- a record of this number is found where one is there
pub number_found : (id : ℕ) (items : List OpenRecord) → is_some (find (λ item. item.id == id) items) ≡ true → Contains (map (λ item. item.id) items) id
number_found id [] found = absurd cc
number_found id (item ∷ items) found =
    let P : Bool → Type 0 = λ b. b ≡ (item.id == id) → is_some (cond b (Some item) (find (λ item. item.id == id) items)) ≡ true → Contains (item.id ∷ map (λ item. item.id) items) id in
    let here : P (item.id == id) = elim (item.id == id) as P [
      | true ↦ λ is found. let same : item.id ≡ id = grind (arith, nat_tests) in subst (λ (n : ℕ). Contains (n ∷ map (λ (item : OpenRecord). item.id) items) id) (sym same) (Contains-head id (map (λ (item : OpenRecord). item.id) items))
      | false ↦ λ is found. Contains-tail item.id (map (λ (item : OpenRecord). item.id) items) id (number_found id items found)
    ] in here refl found

pub number_there : (id : ℕ) (items : List OpenRecord) → Contains (map (λ item. item.id) items) id → is_some (find (λ item. item.id == id) items) ≡ true
number_there id [] there = absurd (omega (arith, there.1))
number_there id (item ∷ items) there =
    elim (Contains-cases item.id (map (λ (item : OpenRecord). item.id) items) id there) [
      | inl same ↦ let test : (item.id == id) ≡ true = grind (arith, nat_tests) in rw test refl
      | inr behind ↦ elim (item.id == id) as (λ b. is_some (cond b (Some item) (find (λ item. item.id == id) items)) ≡ true) [
        | true ↦ refl
        | false ↦ number_there id items behind
      ]
    ]

copied_is_some : (r : Option (Bor OpenRecord)) → is_some r ≡ is_some (option_copied r)
copied_is_some None = refl
copied_is_some (Some x) = refl

pub may_done : (ledger : List Change) (id : ℕ) (r : Option (Bor OpenRecord)) (b : Bool) → b ≡ is_some r → option_copied r ≡ find (λ item. item.id == id) (live ledger)
    → (IsTrue b → MayFollow ledger (Done id)) × (MayFollow ledger (Done id) → IsTrue b)
may_done ledger id r b is found =
    let same : b ≡ is_some (find (λ (item : OpenRecord). item.id == id) (live ledger)) = is ∙ copied_is_some r ∙ ap is_some found in
    (λ yes. number_found id (live ledger) (sym same ∙ yes), λ there. same ∙ number_there id (live ledger) there)

-- a digest is new where no record has it
seen_there : (ledger : List Change) (digest : List ℕ) → is_seen digest ledger ≡ true → IsSeen digest ledger
seen_there ledger digest is_there =
    let at = list_any-at (λ (key : Key). pointwise nat_eq key.digest digest) (seen ledger) is_there in
    let same : at.0.digest ≡ digest = (bytes_eq-Decides at.0.digest digest).0 at.2 in
    subst (λ (other : List ℕ). IsSeen other ledger) same (Contains-map (λ (key : Key). key.digest) (seen ledger) at.0 at.1)

pub may_new : (ledger : List Change) (digest : List ℕ) (b : Bool) → b ≡ list_any (has_digest digest) ledger → (IsTrue (not b) → IsSeen digest ledger → ⊥) × ((IsSeen digest ledger → ⊥) → IsTrue (not b))
may_new ledger digest true is = (λ no. absurd (let n : false ≡ true = no in cc), λ fresh. absurd (fresh (seen_there ledger digest (sym (any_seen ledger digest) ∙ sym is))))
may_new ledger digest false is = (λ yes. fresh-unseen digest ledger (sym (any_seen ledger digest) ∙ sym is), λ fresh. refl)

-- ---- numbers

abbrev pub Below : ℕ → List Change → Type 0
Below id ledger = All (λ other. other < id) (numbers ledger)

below_rest : (id : ℕ) (b rest : Bool) → (b && rest) ≡ true → (b ≡ true) × (rest ≡ true)
below_rest id true rest e = (refl, e)
below_rest id false rest e = absurd (let n : false ≡ true = e in cc)

all_below : (id : ℕ) (ledger : List Change) → list_all (is_below id) ledger ≡ true → AllByRecursion (λ other. other < id) (numbers ledger)
all_below id [] e = tt
all_below id (Open item ∷ ledger) e = let parts = below_rest id (nat_lt item.id id) (list_all (is_below id) ledger) e in (grind (arith, nat_tests, parts.0), all_below id ledger parts.1)
all_below id (Done done ∷ ledger) e = all_below id ledger e
all_below id (Settled settled stamp digest ∷ ledger) e = let parts = below_rest id (nat_lt settled id) (list_all (is_below id) ledger) e in (grind (arith, nat_tests, parts.0), all_below id ledger parts.1)
all_below id (Floor floor next ∷ ledger) e = all_below id ledger e

below_all : (id : ℕ) (ledger : List Change) → AllByRecursion (λ other. other < id) (numbers ledger) → list_all (is_below id) ledger ≡ true
below_all id [] all = refl
below_all id (Open item ∷ ledger) all = let low : nat_lt item.id id ≡ true = (let h = all.0 in grind (arith, nat_tests)) in rw low (below_all id ledger all.1)
below_all id (Done done ∷ ledger) all = below_all id ledger all
below_all id (Settled settled stamp digest ∷ ledger) all = let low : nat_lt settled id ≡ true = (let h = all.0 in grind (arith, nat_tests)) in rw low (below_all id ledger all.1)
below_all id (Floor floor next ∷ ledger) all = below_all id ledger all

pub are_below : (id : ℕ) (ledger : List Change) (b : Bool) → b ≡ list_all (is_below id) ledger → (IsTrue b → Below id ledger) × (Below id ledger → IsTrue b)
are_below id ledger b is =
    (λ yes. All-from_recursion (λ other. other < id) (numbers ledger) (all_below id ledger (sym is ∙ yes)), λ all. is ∙ below_all id ledger (recursion_from_All (λ other. other < id) (numbers ledger) all))

-- a number that is above the others may be that of a record: below the first that was free, or the next one
pub early_number : (ledger : List Change) (id free : ℕ) (b : Bool) → b ≡ list_all (is_below id) ledger → b ≡ true → free ≡ first_free ledger → id < free → IsNumber ledger id
early_number ledger id free b is passed free_is low = record { above = (are_below id ledger b is).0 passed; next = inl (omega (arith, free_is, low)) }

pub late_number : (ledger : List Change) (id free next : ℕ) (b : Bool) → b ≡ list_all (is_below id) ledger → b ≡ true → free ≡ first_free ledger → free ≤ id → next ≡ next_id ledger
    → (IsTrue (nat_eq id next) → IsNumber ledger id) × (IsNumber ledger id → IsTrue (nat_eq id next))
late_number ledger id free next b is passed free_is high next_is = (
  λ same. let at : id ≡ next_id ledger = grind (arith, nat_tests, same, next_is) in record { above = (are_below id ledger b is).0 passed; next = inr at },
  λ number. elim number.next [
    | inl low ↦ absurd (omega (arith, low, free_is, high))
    | inr at ↦ let same : id ≡ next = at ∙ sym next_is in grind (arith, nat_tests)
  ],
)

pub not_number : (ledger : List Change) (id : ℕ) (b : Bool) → b ≡ list_all (is_below id) ledger → (IsNumber ledger id → IsTrue b)
not_number ledger id b is number = (are_below id ledger b is).1 number.above

pub ids-append : (ledger : List Change) (a b : List OpenRecord) → ids_of ledger (a ++ b) ≡ ids_of ledger a ++ ids_of ledger b
ids-append ledger a b =
    ap (map (λ (item : OpenRecord). item.id)) (filter-append (λ (item : OpenRecord). not (list_any (settles_id item.id) ledger)) a b)
    ∙ map-append (λ (item : OpenRecord). item.id) (filter (λ (item : OpenRecord). not (list_any (settles_id item.id) ledger)) a) (filter (λ (item : OpenRecord). not (list_any (settles_id item.id) ledger)) b)

pub ids_step : (ledger : List Change) (i : ℕ) (change : Change) → i < length ledger → change ≡ get_or ledger i change → ids_of ledger (opens (take (i + 1) ledger)) ≡ ids_of ledger (opens (take i ledger)) ++ ids_of ledger (opens (change ∷ []))
ids_step ledger i change within at =
    let next : take (i + 1) ledger ≡ take i ledger ++ change ∷ [] = take_more ledger i change within ∙ ap (λ x. take i ledger ++ x ∷ []) (sym at) in
    ap (λ front. ids_of ledger (opens front)) next
    ∙ ap (ids_of ledger) (opens-append (take i ledger) (change ∷ []))
    ∙ ids-append ledger (opens (take i ledger)) (opens (change ∷ []))

pub ids_all : (ledger : List Change) → ids_of ledger (opens ledger) ≡ live_ids ledger
ids_all ledger = ap (map (λ (item : OpenRecord). item.id)) (filter_agree (λ (item : OpenRecord). not (list_any (settles_id item.id) ledger)) (λ (item : OpenRecord). not (list_any (λ done. done == item.id) (dones ledger))) (λ item. ap not (any_done ledger item.id)) (opens ledger))
