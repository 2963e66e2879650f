-- The live records of a ledger, and what is owed for them.
use Rattle.std.proofs.Common.{◌≡◌, ◌≢◌, ℕ, ◌+◌, ◌<◌, Bool, true, false, not, cond, eqb, List, [], ◌∷◌, ◌++◌, length, take, drop, map, suc, get_or, Some, None, refl, sym, ap, ◌∙◌, subst, arith, append_assoc, append-nil, inl, inr}
use Rattle.std.specs.Prelude.{find}
use Rattle.std.specs.List.{All, AllPairs, AllByRecursion, Contains, filter, list_any}
use Rattle.std.proofs.lemmas.List.{length-map, get_or-map, map-append, take-append-drop, take_more}
use Rattle.std.proofs.Math.Seq.{drop-cons}
use Rattle.std.proofs.lemmas.List.Elements.{All-contains, All-weaker, All-nil, All-cons, All-head, All-tail, Contains-get_or, filter-append, filter_passes}
use Rattle.std.proofs.lemmas.List.Kept.{AllPairs-filter}
use Rattle.std.proofs.lemmas.List.Quantifiers.{all_pairs_push}
use Rattle.std.proofs.lemmas.Bool.{eqb-true, eqb-false, eq-eqb, ne_eqb, not-true}
use Rattle.fk_trace.specs.declared.change.OpenRecord.{OpenRecord}
use Rattle.fk_trace.specs.declared.change.Change.{Change}
use Rattle.fk_trace.specs.declared.change.Change.TheVariants.{Open as OpenChange, Done, Settled, Floor}
use Rattle.fk_trace.specs.Ledger.{opens, dones, live, numbers, next_id, MayFollow, IsLedgerFrom, IsLedger}
use Rattle.fk_trace.proofs.Lists.{Contains-head, Contains-tail, Contains-cases, Contains-filter, Contains-unmap, All-by, list_any-at, list_any-map, find-only}
use Rattle.fk_trace.proofs.Ledgers.{opens-append, opens-push_open, live-push_open, none_at_bound, open-number}
use Rattle.fk_run.proofs.Ledgers.{ledger-front, live-one, open-below, settled-below}
use Rattle.fk_cycle.specs.Stands.{Obligation, is_owed}
use Rattle.fk_ledger.specs.Book.{live_ids}
use Rattle.fk_ledger.specs.Payloads.{IsRecord, IsChange}
use Rattle.fk_child.specs.Crew.{obligation_of, obligations_but}
use Rattle.fk_child.proofs.Pieces.{pairs-before, filter-all}

-- each live record has a number below the next
pub live-below : (ledger : List Change) (item : OpenRecord) → Contains (live ledger) item → item.id < next_id ledger
live-below ledger item m = open-below ledger item (Contains-filter _ (opens ledger) item m)

-- a close that is owed is that of a live record
pub owed-live : (unsettled : List ℕ) (ledger : List Change) (id : ℕ) → is_owed (obligations_but unsettled ledger) id ≡ true
    → (item : OpenRecord) × Contains (live ledger) item × (item.id ≡ id) × (list_any (λ other. eqb other id) unsettled ≡ false)
owed-live unsettled ledger id owed =
    let kept : OpenRecord → Bool = λ item. not (list_any (λ other. eqb other item.id) unsettled) in
    let at = list_any-at (λ (o : Obligation). eqb o.id id) (obligations_but unsettled ledger) owed in
    let from = Contains-unmap obligation_of (filter kept (live ledger)) at.0 at.1 in
    let same : from.0.id ≡ id = ap (λ (o : Obligation). o.id) from.2 ∙ eqb-true at.0.id id at.2 in
    let passes : kept from.0 ≡ true = All-contains (λ (r : OpenRecord). kept r ≡ true) (filter kept (live ledger)) from.0 (filter_passes kept (live ledger)) from.1 in
    (from.0, Contains-filter kept (live ledger) from.0 from.1, same, subst (λ n. list_any (λ other. eqb other n) unsettled ≡ false) same (not-true (list_any (λ other. eqb other from.0.id) unsettled) passes))

module _ (ledger : List Change) (item : OpenRecord) (is : IsLedger (ledger ++ OpenChange item ∷ [])) (next : item.id ≡ next_id ledger) where
  -- the new record is the last of those that are live
  pub live-recorded : live (ledger ++ OpenChange item ∷ []) ≡ live ledger ++ item ∷ []
  live-recorded =
      let low = settled-below ledger (ledger-front [] ledger (OpenChange item ∷ []) is) in
      let below : All (λ (id : ℕ). id < next_id ledger) (dones ledger) = All-by (λ (id : ℕ). id < next_id ledger) (dones ledger) low in
      live-push_open ledger item (subst (λ (n : ℕ). list_any (λ d. eqb d n) (dones ledger) ≡ false) (sym next) (none_at_bound (dones ledger) (next_id ledger) below))

  pub owed-recorded : obligations_but [] (ledger ++ OpenChange item ∷ []) ≡ obligations_but [] ledger ++ obligation_of item ∷ []
  owed-recorded =
      ap (λ (items : List OpenRecord). map obligation_of (filter (λ item. true) items)) live-recorded
      ∙ ap (map obligation_of) (filter-append (λ (item : OpenRecord). true) (live ledger) (item ∷ []))
      ∙ map-append obligation_of (filter (λ (item : OpenRecord). true) (live ledger)) (item ∷ [])

-- each record of the ledger is in order
records-of : (ledger : List Change) → AllByRecursion IsChange ledger → All IsRecord (opens ledger)
records-of [] each = All-nil IsRecord
records-of (OpenChange item ∷ ledger) each = All-cons IsRecord item (opens ledger) each.0 (records-of ledger each.1)
records-of (Done id ∷ ledger) each = records-of ledger each.1
records-of (Settled id stamp digest ∷ ledger) each = records-of ledger each.1
records-of (Floor floor next ∷ ledger) each = records-of ledger each.1

pub words-of : (ledger : List Change) → AllByRecursion IsChange ledger → (item : OpenRecord) → Contains (live ledger) item → 0 < length item.close
words-of ledger each item m =
    let some = (All-contains IsRecord (opens ledger) item (records-of ledger each) (Contains-filter _ (opens ledger) item m)).close.some in
    omega arith

-- what a search finds is one that passes
pub find-found : {X : Type 0} (p : X → Bool) (xs : List X) (x : X) → find p xs ≡ Some x → Contains xs x × (p x ≡ true)
find-found p [] x e = absurd cc
find-found p (y ∷ xs) x e =
    (elim (p y) as (λ b. p y ≡ b → cond b (Some y) (find p xs) ≡ Some x → Contains (y ∷ xs) x × (p x ≡ true)) [
      | true ↦ λ t f. let same : y ≡ x = cc in subst (λ z. Contains (y ∷ xs) z × (p z ≡ true)) same (Contains-head y xs, t)
      | false ↦ λ t f. let rest = find-found p xs x f in (Contains-tail y xs x rest.0, rest.1)
    ]) refl e

pub find-none : {X : Type 0} (p : X → Bool) (xs : List X) → find p xs ≡ None → (x : X) → Contains xs x → p x ≡ false
find-none p [] e x m = absurd (omega (arith, m.1))
find-none p (y ∷ xs) e x m =
    (elim (p y) as (λ b. p y ≡ b → cond b (Some y) (find p xs) ≡ None → p x ≡ false) [
      | true ↦ λ t f. absurd cc
      | false ↦ λ t f. elim (Contains-cases y xs x m) [ inl same ↦ ap p (sym same) ∙ t | inr n ↦ find-none p xs f x n ]
    ]) refl e

-- records are numbered by rising number
abbrev AreRising : List OpenRecord → Type 0
AreRising items = AllPairs (λ (a b : OpenRecord). a.id < b.id) items

rising-none : (ledger changes : List Change) → opens changes ≡ [] → AreRising (opens ledger) → AreRising (opens (ledger ++ changes))
rising-none ledger changes none rising = subst AreRising (sym (opens-append ledger changes ∙ ap (λ items. opens ledger ++ items) none ∙ append-nil (opens ledger))) rising

rising-push : (ledger : List Change) (change : Change) → AreRising (opens ledger) → MayFollow ledger change → AreRising (opens (ledger ++ change ∷ []))
rising-push ledger (OpenChange item) rising may =
    subst AreRising (sym (opens-push_open ledger item))
    (all_pairs_push (λ (a b : OpenRecord). a.id < b.id) (opens ledger) item rising
    (λ k d l. All-contains (λ (n : ℕ). n < item.id) (numbers ledger) (get_or (opens ledger) k d).id may.0.above (open-number ledger (get_or (opens ledger) k d) (Contains-get_or (opens ledger) k d l))))
rising-push ledger (Done id) rising may = rising-none ledger (Done id ∷ []) refl rising
rising-push ledger (Settled id stamp digest) rising may = rising-none ledger (Settled id stamp digest ∷ []) refl rising
rising-push ledger (Floor floor next) rising may = rising-none ledger (Floor floor next ∷ []) refl rising

rising-from : (before changes : List Change) → AreRising (opens before) → IsLedgerFrom before changes → AreRising (opens (before ++ changes))
rising-from before [] rising is = subst (λ (ledger : List Change). AreRising (opens ledger)) (sym (append-nil before)) rising
rising-from before (change ∷ changes) rising is =
    subst (λ (ledger : List Change). AreRising (opens ledger)) (append_assoc before (change ∷ []) changes) (rising-from (before ++ change ∷ []) changes (rising-push before change rising is.0) is.1)

pub live-rising : (ledger : List Change) → IsLedger ledger → AreRising (live ledger)
live-rising ledger is = AllPairs-filter (λ (a b : OpenRecord). a.id < b.id) _ (opens ledger) (rising-from [] ledger (λ i j d l m. absurd (omega arith)) is)

pub live-apart : (ledger : List Change) → IsLedger ledger → AllPairs (λ (a b : OpenRecord). a.id ≢ b.id) (live ledger)
live-apart ledger is = λ i j d l m e. absurd (let low = live-rising ledger is i j d l m in omega arith)

any-none : {X : Type 0} (p : X → Bool) (xs : List X) → All (λ x. p x ≡ false) xs → list_any p xs ≡ false
any-none p [] none = refl
any-none p (x ∷ xs) none = rw (All-head (λ y. p y ≡ false) x xs none) (any-none p xs (All-tail (λ y. p y ≡ false) x xs none))

module _ (ledger : List Change) (is : IsLedger ledger) (i : ℕ) (d : OpenRecord) (within : i < length (live ledger)) where
  abbrev pub record_at : OpenRecord
  record_at = get_or (live ledger) i d

  split-at : live ledger ≡ take i (live ledger) ++ record_at ∷ drop (suc i) (live ledger)
  split-at = sym (take-append-drop i (live ledger)) ∙ ap (λ (items : List OpenRecord). take i (live ledger) ++ items) (drop-cons (live ledger) i d within)

  -- the live record at a place is found by its number
  pub find-at_place : find (λ item. eqb item.id record_at.id) (live ledger) ≡ Some record_at
  find-at_place =
      find-only (λ (item : OpenRecord). eqb item.id record_at.id) (live ledger) record_at (Contains-get_or (live ledger) i d within) (eq-eqb record_at.id record_at.id refl)
      (λ x m t. live-one ledger is x record_at m (Contains-get_or (live ledger) i d within) (eqb-true x.id record_at.id t))

  -- it is none of those before it
  pub none-before : is_owed (map obligation_of (take i (live ledger))) record_at.id ≡ false
  none-before =
      let rising = subst AreRising split-at (live-rising ledger is) in
      let before = pairs-before (λ (a b : OpenRecord). a.id < b.id) (take i (live ledger)) record_at (drop (suc i) (live ledger)) rising in
      list_any-map obligation_of (λ (o : Obligation). eqb o.id record_at.id) (take i (live ledger))
      ∙ any-none (λ (item : OpenRecord). eqb item.id record_at.id) (take i (live ledger))
      (All-weaker (λ (item : OpenRecord). item.id < record_at.id) (λ (item : OpenRecord). eqb item.id record_at.id ≡ false) (λ x l. ne_eqb x.id record_at.id (λ e. absurd (omega arith))) (take i (live ledger)) before)

  pub one-more_owed : map obligation_of (take (i + 1) (live ledger)) ≡ map obligation_of (take i (live ledger)) ++ obligation_of record_at ∷ []
  one-more_owed = ap (map obligation_of) (take_more (live ledger) i d within) ∙ map-append obligation_of (take i (live ledger)) (record_at ∷ [])

-- with nothing unsettled all that is live is owed
pub owed-all : (ledger : List Change) → obligations_but [] ledger ≡ map obligation_of (live ledger)
owed-all ledger = ap (map obligation_of) (filter-all (λ (item : OpenRecord). true) (live ledger) (λ k d l. refl))

-- the record whose number stands at a place is the one that a search for it finds
pub place-found : (ledger : List Change) → IsLedger ledger → (i id : ℕ) (x : OpenRecord) → i < length (live_ids ledger) → id ≡ get_or (live_ids ledger) i id
    → Some x ≡ find (λ item. eqb item.id id) (live ledger) → (i < length (live ledger)) × (x ≡ get_or (live ledger) i x)
place-found ledger is i id x within at found =
    let number : OpenRecord → ℕ = λ item. item.id in
    let inside : i < length (live ledger) = let n = length-map (live ledger) number in omega arith in
    let same : id ≡ (get_or (live ledger) i x).id = at ∙ get_or-map number (live ledger) i x id inside in
    let one : Some x ≡ Some (get_or (live ledger) i x) = found ∙ ap (λ (n : ℕ). find (λ (item : OpenRecord). eqb item.id n) (live ledger)) same ∙ find-at_place ledger is i x inside in
    (inside, cc)

pub place-missed : (ledger : List Change) (i id : ℕ) → i < length (live_ids ledger) → id ≡ get_or (live_ids ledger) i id → None ≡ find (λ item. eqb item.id id) (live ledger) → ⊥
place-missed ledger i id within at missed =
    let among = Contains-unmap (λ (item : OpenRecord). item.id) (live ledger) id (subst (Contains (live_ids ledger)) (sym at) (Contains-get_or (live_ids ledger) i id within)) in
    let none = find-none (λ (item : OpenRecord). eqb item.id id) (live ledger) (sym missed) among.0 among.1 in
    eqb-false among.0.id id none among.2
