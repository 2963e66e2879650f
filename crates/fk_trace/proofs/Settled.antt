-- Where the close ended that settled a record.
use Rattle.std.proofs.Common.{◌≡◌, ℕ, Bool, true, false, cond, ◌==◌, List, [], ◌∷◌, ◌++◌, Option, Some, None, refl, sym, ap, ◌∙◌, subst, arith, inl, inr, append_assoc}
use Rattle.std.specs.List.{AllByRecursion, find, cons_option, Contains}
use Rattle.std.specs.Prelude.{IsTrue}
use Rattle.std.proofs.lemmas.Bool.{eqb-true}
use Rattle.std.proofs.lemmas.Option.{cond_some}
use Rattle.fk_base.specs.declared.purpose.Purpose.{Purpose}
use Rattle.fk_base.specs.declared.purpose.Purpose.TheVariants.{Open, Close}
use Rattle.fk_trace.specs.Trace.{Event, Item, Child, children, past_after}
use Rattle.fk_trace.specs.Trace.Event.{Turn, Began, StartFailed, Ended, Runs, PollFailed}
use Rattle.fk_trace.specs.Idle.{child_numbered, is_clean}
use Rattle.fk_trace.specs.Settled.{settled_by, settled_by_child, settled_at, settled_in, EndedCleanly}
use Rattle.fk_trace.proofs.Lists.{Contains-cases}

pub past_after-append : (past a b : List Item) → past_after past (a ++ b) ≡ past_after (past_after past a) b
past_after-append past [] b = refl
past_after-append past (item ∷ a) b = past_after-append (item ∷ past) a b

-- it ended in what begins with these items
pub ends-longer : (past items more : List Item) (id : ℕ) → EndedCleanly past items id → EndedCleanly past (items ++ more) id
ends-longer past items more id e = record {
  before = e.before;
  ended = e.ended;
  after = e.after ++ more;
  number = e.number;
  placed = ap (λ xs. xs ++ more) e.placed ∙ append_assoc e.before (e.ended ∷ e.after) more;
  well = e.well;
  closes = e.closes;
  clean = e.clean;
}

-- it ended in what ends with these items
pub ends-later : (past front items : List Item) (id : ℕ) → EndedCleanly (past_after past front) items id → EndedCleanly past (front ++ items) id
ends-later past front items id e =
    let same : past_after (past_after past front) e.before ≡ past_after past (front ++ e.before) = sym (past_after-append past front e.before) in
    record {
      before = front ++ e.before;
      ended = e.ended;
      after = e.after;
      number = e.number;
      placed = ap (λ xs. front ++ xs) e.placed ∙ sym (append_assoc front e.before (e.ended ∷ e.after));
      well = e.well;
      closes = subst (λ (place : List Item). child_numbered e.number place ≡ Some (record { number = e.number; purpose = Close id })) same e.closes;
      clean = subst (λ (place : List Item). IsTrue (is_clean place e.number id)) same e.clean;
    }

cons_option-append : {X : Type 0} (o : Option X) (xs ys : List X) → cons_option o (xs ++ ys) ≡ cons_option o xs ++ ys
cons_option-append None xs ys = refl
cons_option-append (Some x) xs ys = refl

pub settled_in-append : (past a b : List Item) → settled_in past (a ++ b) ≡ settled_in past a ++ settled_in (past_after past a) b
settled_in-append past [] b = refl
settled_in-append past (item ∷ a) b =
    ap (cons_option (settled_at past item.event)) (settled_in-append (item ∷ past) a b)
    ∙ cons_option-append (settled_at past item.event) (settled_in (item ∷ past) a) (settled_in (past_after (item ∷ past) a) b)

-- what the event settles nothing at any place
abbrev pub SettlesNothing : Item → Type 0
SettlesNothing item = (past : List Item) → settled_at past item.event ≡ None

pub settled_in-none : (past items : List Item) → AllByRecursion SettlesNothing items → settled_in past items ≡ []
settled_in-none past [] h = refl
settled_in-none past (item ∷ items) h = rw (h.0 past) (settled_in-none (item ∷ past) items h.1)

find-passes : {X : Type 0} (p : X → Bool) (xs : List X) (x : X) → find p xs ≡ Some x → p x ≡ true
find-passes p [] x e = absurd cc
find-passes p (y ∷ xs) x e =
    (elim (p y) as (λ b. p y ≡ b → cond b (Some y) (find p xs) ≡ Some x → p x ≡ true) [
      | true ↦ λ t f. let same : y ≡ x = cc in ap p (sym same) ∙ t
      | false ↦ λ t f. find-passes p xs x f
    ]) refl e

-- the child that is found has the number
numbered-found : (number : ℕ) (past : List Item) (child : Child) → child_numbered number past ≡ Some child → child.number ≡ number
numbered-found number past child e = eqb-true child.number number (find-passes (λ (c : Child). c.number == number) (children past) child e)

settled-purpose : (past : List Item) (number : ℕ) (purpose : Purpose) (id : ℕ) → settled_by past number purpose ≡ Some id → (purpose ≡ Close id) × (is_clean past number id ≡ true)
settled-purpose past number (Open other) id e = absurd cc
settled-purpose past number (Close other) id e =
    let both = cond_some (is_clean past number other) other id e in
    (ap Close both.1, sym (ap (is_clean past number) both.1) ∙ both.0)

settled-child : (past : List Item) (number : ℕ) (found : Option Child) (id : ℕ) → settled_by_child past number found ≡ Some id
    → (child : Child) × (found ≡ Some child) × (child.purpose ≡ Close id) × (is_clean past number id ≡ true)
settled-child past number None id e = absurd cc
settled-child past number (Some child) id e = let both = settled-purpose past number child.purpose id e in (child, refl, both.0, both.1)

pub settled-event : (past : List Item) (event : Event) (id : ℕ) → settled_at past event ≡ Some id
    → (number : ℕ) × (event ≡ Ended number true) × (child_numbered number past ≡ Some (record { number = number; purpose = Close id })) × IsTrue (is_clean past number id)
settled-event past (Turn number) id e = absurd cc
settled-event past (Began number purpose words) id e = absurd cc
settled-event past (StartFailed purpose words) id e = absurd cc
settled-event past (Ended number true) id e =
    let found = settled-child past number (child_numbered number past) id e in
    let child : Child = found.0 in
    let same : child.number ≡ number = numbered-found number past child found.1 in
    let is : child ≡ record { number = number; purpose = Close id } = λ i. record { number = same i; purpose = found.2 i } in
    (number, refl, found.1 ∙ ap Some is, found.3)
settled-event past (Ended number false) id e = absurd cc
settled-event past (Runs number) id e = absurd cc
settled-event past (PollFailed number) id e = absurd cc

-- what is settled in these items was closed there
pub ends-settled : (past items : List Item) (id : ℕ) → Contains (settled_in past items) id → EndedCleanly past items id
ends-settled past [] id m = absurd (omega (arith, m.1))
ends-settled past (item ∷ items) id m =
    let later : Contains (settled_in (item ∷ past) items) id → EndedCleanly past (item ∷ items) id =
    λ n. ends-later past (item ∷ []) items id (ends-settled (item ∷ past) items id n) in
    let here : settled_at past item.event ≡ Some id → EndedCleanly past (item ∷ items) id =
    λ e. let at = settled-event past item.event id e in
    record { before = []; ended = item; after = items; number = at.0; placed = refl; well = at.1; closes = at.2; clean = at.3 } in
    (elim (settled_at past item.event) as (λ (o : Option ℕ). settled_at past item.event ≡ o → Contains (cons_option o (settled_in (item ∷ past) items)) id → EndedCleanly past (item ∷ items) id) [
      | None ↦ λ e n. later n
      | Some other ↦ λ e n. elim (Contains-cases other (settled_in (item ∷ past) items) id n) [
        | inl same ↦ here (e ∙ ap Some same)
        | inr more ↦ later more
      ]
    ]) refl m
