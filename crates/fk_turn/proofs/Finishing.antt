-- A turn that is cut could have gone on: from each place the closes that are due can be attempted, one after another, until none is.
use Rattle.std.proofs.Common.{◌≡◌, ◌⊎◌, ℕ, zero, suc, ◌+◌, ◌<◌, ◌≤◌, ◌==◌, ◌&&◌, ◌||◌, Bool, true, false, not, cond, nat_lt, nat_le, List, [], ◌∷◌, ◌++◌, inl, inr, refl, sym, ap, ◌∙◌, append-nil, arith, eq-eqb}
use Rattle.std.specs.List.{All, AllByRecursion, Contains, filter, list_any}
use Rattle.std.proofs.lemmas.Bool.Decides.{nat_tests}
use Rattle.std.proofs.lemmas.List.Elements.{All-cons, All-weaker}
use Rattle.fk_base.specs.declared.purpose.Purpose.TheVariants.{Close}
use Rattle.fk_trace.specs.declared.change.OpenRecord.{OpenRecord}
use Rattle.fk_trace.specs.Trace.{Item, Child, running, close_tried, is_open_of, is_close_of}
use Rattle.fk_trace.specs.Trace.Event.{StartFailed}
use Rattle.fk_trace.specs.Ledger.{live}
use Rattle.fk_trace.specs.Idle.{is_idle, last_close, ended_well, rests}
use Rattle.fk_trace.proofs.Lists.{Contains-head, Contains-tail, Contains-cases, Contains-filter, Contains-unmap}
use Rattle.fk_run.specs.Place.{Place, behind}
use Rattle.fk_cycle.specs.Stands.{Obligation, is_due, precedes}
use Rattle.fk_child.specs.Crew.{obligation_of, obligations_but}
use Rattle.fk_child.specs.Calls.{IsNextClose, AttemptsInTurn}
use Rattle.fk_turn.specs.Parts.{AttemptsNext}
use Rattle.fk_turn.proofs.Items.{Tries}

precedes_itself : (x : Obligation) → precedes x x ≡ false
precedes_itself x = itself x.due x.id
  where
    itself : (d i : ℕ) → (nat_lt d d || (d == d && nat_lt i i)) ≡ false
    itself d i = grind (arith, nat_tests)

precedes_through : (o x f : Obligation) → precedes x f ≡ true → precedes o f ≡ false → precedes o x ≡ false
precedes_through o x f = through o.due o.id x.due x.id f.due f.id
  where
    through : (d i e j f k : ℕ) → (nat_lt e f || (e == f && nat_lt j k)) ≡ true → (nat_lt d f || (d == f && nat_lt i k)) ≡ false → (nat_lt d e || (d == e && nat_lt i j)) ≡ false
    through d i e j f k g h = grind (arith, nat_tests)

module _ (p : Obligation → Bool) where
  -- the obligation that passes and that no other that passes precedes
  abbrev First : List Obligation → Type 0
  First live = (owed : Obligation) × Contains live owed × (p owed ≡ true) × All (λ other. p other ≡ true → precedes other owed ≡ false) live

  more : (x : Obligation) (xs : List Obligation) (passes : Bool) → p x ≡ passes → All (λ owed. p owed ≡ false) xs ⊎ First xs → All (λ owed. p owed ≡ false) (x ∷ xs) ⊎ First (x ∷ xs)
  more x xs false e (inl none) = inl (All-cons (λ owed. p owed ≡ false) x xs e none)
  more x xs false e (inr found) =
      inr (found.0, Contains-tail x xs found.0 found.1, found.2, All-cons (λ other. p other ≡ true → precedes other found.0 ≡ false) x xs (λ t. absurd cc) found.3)
  more x xs true e (inl none) =
      inr (
        x,
        Contains-head x xs,
        e,
        All-cons (λ other. p other ≡ true → precedes other x ≡ false) x xs (λ t. precedes_itself x)
            (All-weaker (λ owed. p owed ≡ false) (λ other. p other ≡ true → precedes other x ≡ false) (λ other n t. absurd cc) xs none),
      )
  more x xs true e (inr found) =
      (elim (precedes x found.0) as (λ b. precedes x found.0 ≡ b → All (λ owed. p owed ≡ false) (x ∷ xs) ⊎ First (x ∷ xs)) [
        | false ↦ λ f. inr (found.0, Contains-tail x xs found.0 found.1, found.2, All-cons (λ other. p other ≡ true → precedes other found.0 ≡ false) x xs (λ t. f) found.3)
        | true ↦ λ f. inr (
          x,
          Contains-head x xs,
          e,
          All-cons (λ other. p other ≡ true → precedes other x ≡ false) x xs (λ t. precedes_itself x)
              (All-weaker (λ other. p other ≡ true → precedes other found.0 ≡ false) (λ other. p other ≡ true → precedes other x ≡ false)
              (λ other n t. precedes_through other x found.0 f (n t)) xs found.3),
        )
      ]) refl

  -- none passes, or there is a first one
  first_of : (live : List Obligation) → All (λ owed. p owed ≡ false) live ⊎ First live
  first_of [] = inl (λ k d l. absurd (omega arith))
  first_of (x ∷ xs) = more x xs (p x) refl (first_of xs)

-- how many pass
abbrev pub passing : {X : Type 0} → (X → Bool) → List X → ℕ
passing p [] = 0
passing p (x ∷ xs) = cond (p x) 1 0 + passing p xs

-- fewer pass a test that is harder, and that one fails which passed
module _ {X : Type 0} (p q : X → Bool) (harder : (y : X) → q y ≡ true → p y ≡ true) where
  count-le : (xs : List X) → passing q xs ≤ passing p xs
  count-le [] = omega arith
  count-le (x ∷ xs) =
      let rest = count-le xs in
      (elim (q x) as (λ b. q x ≡ b → cond b 1 0 + passing q xs ≤ cond (p x) 1 0 + passing p xs) [
        | true ↦ λ e. rw (harder x e) (omega (arith, rest))
        | false ↦ λ e. omega (arith, rest)
      ]) refl

  pub count-lt : (xs : List X) (x : X) → Contains xs x → p x ≡ true → q x ≡ false → passing q xs < passing p xs
  count-lt [] x m e f = absurd (let l = m.1 in omega arith)
  count-lt (y ∷ ys) x m e f =
      elim (Contains-cases y ys x m) [
        | inl same ↦
            let rest = count-le ys in
            let py : p y ≡ true = ap p same ∙ e in
            let qy : q y ≡ false = ap q same ∙ f in
            rw (py, qy) (omega (arith, rest))
        | inr within ↦
            let rest = count-lt ys x within e f in
            (elim (q y) as (λ b. q y ≡ b → cond b 1 0 + passing q ys < cond (p y) 1 0 + passing p ys) [
              | true ↦ λ g. rw (harder y g) (omega (arith, rest))
              | false ↦ λ g. omega (arith, rest)
            ]) refl
      ]

-- a close that failed to start
abbrev pub failed_close : OpenRecord → Item
failed_close closing = record { event = StartFailed (Close closing.id) closing.close; moments = 0; faults = 0 }

module _ (moment : ℕ) (past : List Item) (ends : List ℕ) (closing : OpenRecord) where
  idle-behind : (id : ℕ) → is_idle (failed_close closing ∷ past) ends moment id ≡ is_idle past ends moment id
  idle-behind id =
      ap (λ (cs : List Child). not (list_any (λ child. is_close_of id child.purpose) cs)
      && not (list_any (λ child. is_open_of id child.purpose) cs && ended_well (last_close past ends id)) && not (rests (last_close past ends id) moment)) (append-nil (running past))

  due-behind : (owed : Obligation) → is_due (failed_close closing ∷ past) ends moment owed
      ≡ (is_idle past ends moment owed.id && nat_le owed.due moment && not ((closing.id == owed.id) || close_tried past owed.id))
  due-behind owed = ap (λ (b : Bool). b && nat_le owed.due moment && not ((closing.id == owed.id) || close_tried past owed.id)) (idle-behind owed.id)

  weaker : (z b t : Bool) → z && not (b || t) ≡ true → z && not t ≡ true
  weaker true true t e = absurd cc
  weaker true false t e = e
  weaker false b t e = absurd cc

  never : (z t : Bool) → z && not (true || t) ≡ false
  never true t = refl
  never false t = refl

  due-before : (owed : Obligation) → is_due (failed_close closing ∷ past) ends moment owed ≡ true → is_due past ends moment owed ≡ true
  due-before owed e = weaker (is_idle past ends moment owed.id && nat_le owed.due moment) (closing.id == owed.id) (close_tried past owed.id) (sym (due-behind owed) ∙ e)

  due-no_more : (owed : Obligation) → closing.id ≡ owed.id → is_due (failed_close closing ∷ past) ends moment owed ≡ false
  due-no_more owed same =
      let test : (closing.id == owed.id) ≡ true = eq-eqb closing.id owed.id same in
      due-behind owed ∙ ap (λ (b : Bool). (is_idle past ends moment owed.id && nat_le owed.due moment) && not (b || close_tried past owed.id)) test
      ∙ never (is_idle past ends moment owed.id && nat_le owed.due moment) (close_tried past owed.id)

abbrev due_at : ℕ → Place → Obligation → Bool
due_at moment place owed = is_due place.past place.ends moment owed

-- the record of the first close that is due
module _ (moment : ℕ) (place : Place) (found : First (due_at moment place) (obligations_but [] place.ledger)) where
  abbrev test : OpenRecord → Bool
  test item = not (list_any (λ (id : ℕ). id == item.id) [])

  first_record : (closing : OpenRecord) × Contains (filter test (live place.ledger)) closing × (obligation_of closing ≡ found.0)
  first_record = Contains-unmap obligation_of (filter test (live place.ledger)) found.0 found.1

  next-first : IsNextClose moment place first_record.0
  next-first = record {
    lives = Contains-filter test (live place.ledger) first_record.0 first_record.1;
    next = (found.0, found.1, ap (λ (owed : Obligation). owed.id) (sym first_record.2), found.2, found.3);
  }

  fewer-behind : passing (is_due (failed_close first_record.0 ∷ place.past) place.ends moment) (obligations_but [] place.ledger) < passing (due_at moment place) (obligations_but [] place.ledger)
  fewer-behind =
      count-lt (due_at moment place) (is_due (failed_close first_record.0 ∷ place.past) place.ends moment) (due-before moment place.past place.ends first_record.0)
      (obligations_but [] place.ledger) found.0 found.1 found.2
      (due-no_more moment place.past place.ends first_record.0 found.0 (ap (λ (owed : Obligation). owed.id) first_record.2))

-- the closes that are due can be attempted until none is
pub finishes : (n moment : ℕ) (place : Place) → passing (due_at moment place) (obligations_but [] place.ledger) ≤ n → (items : List Item) × AttemptsInTurn moment place items
finishes zero moment place le =
    elim (first_of (due_at moment place) (obligations_but [] place.ledger)) [
      | inl none ↦ ([], none)
      | inr found ↦ absurd (let fewer = fewer-behind moment place found in omega (arith, fewer))
    ]
finishes (suc n) moment place le =
    elim (first_of (due_at moment place) (obligations_but [] place.ledger)) [
      | inl none ↦ ([], none)
      | inr found ↦
          let closing : OpenRecord = (first_record moment place found).0 in
          let fewer = fewer-behind moment place found in
          let rest = finishes n moment (behind moment place (failed_close closing ∷ [])) (omega (arith, fewer)) in
          (failed_close closing ∷ rest.0, ((closing, next-first moment place found, (refl, refl)), rest.1))
    ]

-- what was attempted one after another, and what is attempted behind it
pub next-joined : (moment : ℕ) (place : Place) (xs ys : List Item) → AttemptsNext moment place xs → AttemptsInTurn moment (behind moment place xs) ys → AttemptsInTurn moment place (xs ++ ys)
next-joined moment place [] ys a b = b
next-joined moment place (x ∷ xs) ys a b = (a.0, next-joined moment (behind moment place (x ∷ [])) xs ys a.1 b)

pub next-tries : (moment : ℕ) (place : Place) (xs : List Item) → AttemptsNext moment place xs → AllByRecursion Tries xs
next-tries moment place [] a = tt
next-tries moment place (x ∷ xs) a = ((Close a.0.0.id, a.0.0.close, a.0.2), next-tries moment (behind moment place (x ∷ [])) xs a.1)

pub turn-tries : (moment : ℕ) (place : Place) (xs : List Item) → AttemptsInTurn moment place xs → AllByRecursion Tries xs
turn-tries moment place [] a = tt
turn-tries moment place (x ∷ xs) a = ((Close a.0.0.id, a.0.0.close, a.0.2), turn-tries moment (behind moment place (x ∷ [])) xs a.1)
