-- Parts of whole turns at places where at most two children run and at most one record is live.
use Rattle.std.proofs.Common.{◌≡◌, ℕ, ◌<◌, ◌≤◌, true, false, List, [], ◌∷◌, sym, ap, subst, arith, inl, inr}
use Rattle.std.specs.List.{AllPairs, Contains}
use Rattle.std.proofs.lemmas.List.Elements.{All-cons, All-nil}
use Rattle.std.proofs.lemmas.List.Kept.{AllPairs-cons}
use Rattle.fk_base.specs.declared.purpose.Purpose.TheVariants.{Close}
use Rattle.fk_trace.specs.declared.change.OpenRecord.{OpenRecord}
use Rattle.fk_trace.specs.Trace.{Item, Child, running}
use Rattle.fk_trace.specs.Ledger.{live}
use Rattle.fk_trace.specs.Idle.{is_idle}
use Rattle.fk_trace.specs.Attempts.{IsPollOf, PollsEachOnce, IsAttempt, Precedes}
use Rattle.fk_trace.proofs.Lists.{Contains-head, Contains-cases}
use Rattle.fk_run.specs.Place.{Place}
use Rattle.fk_run.specs.Turn.{IsDueIdle, AttemptsEachDue}

pub only : {X : Type 0} (x y : X) → Contains (x ∷ []) y → x ≡ y
only x y m = elim (Contains-cases x [] y m) [ inl e ↦ e | inr n ↦ absurd (omega (arith, n.1)) ]

abbrev IsBelow : Child → Child → Type 0
IsBelow a b = a.number < b.number

no-pairs : {X : Type 0} (R : X → X → Type 0) → AllPairs R []
no-pairs R = λ i j d l k. absurd (omega arith)

one-pairs : {X : Type 0} (R : X → X → Type 0) (x : X) → AllPairs R (x ∷ [])
one-pairs R x = AllPairs-cons R x [] (All-nil (R x)) (no-pairs R)

pub polls-none : (past : List Item) → running past ≡ [] → PollsEachOnce past []
polls-none past runs =
    record {
      order = [];
      answered = tt;
      rising = no-pairs IsBelow;
      each = λ child. ((λ m. absurd (omega (arith, m.1))), (λ m. subst (λ (cs : List Child). Contains cs child) runs m));
    }

pub polls-one : (past : List Item) (child : Child) (item : Item) → running past ≡ child ∷ [] → IsPollOf child item.event → PollsEachOnce past (item ∷ [])
polls-one past child item runs poll =
    record {
      order = child ∷ [];
      answered = (poll, tt);
      rising = one-pairs IsBelow child;
      each = λ other. ((λ m. subst (λ (cs : List Child). Contains cs other) (sym runs) m), (λ m. subst (λ (cs : List Child). Contains cs other) runs m));
    }

pub polls-two : (past : List Item) (a b : Child) (item other : Item) → running past ≡ a ∷ b ∷ [] → a.number < b.number → IsPollOf a item.event → IsPollOf b other.event → PollsEachOnce past (item ∷ other ∷ [])
polls-two past a b item other runs lt poll poll_b =
    record {
      order = a ∷ b ∷ [];
      answered = (poll, (poll_b, tt));
      rising = AllPairs-cons IsBelow a (b ∷ []) (All-cons (IsBelow a) b [] lt (All-nil (IsBelow a))) (one-pairs IsBelow b);
      each = λ child. ((λ m. subst (λ (cs : List Child). Contains cs child) (sym runs) m), (λ m. subst (λ (cs : List Child). Contains cs child) runs m));
    }

pub closes-none : (place : Place) (moment : ℕ) → ((item : OpenRecord) → IsDueIdle place moment item → ⊥) → AttemptsEachDue place moment []
closes-none place moment none = record { order = []; attempted = tt; rising = no-pairs Precedes; each = λ closing. ((λ m. absurd (omega (arith, m.1))), (λ owed. absurd (none closing owed))) }

pub none-live : (place : Place) (moment : ℕ) → live place.ledger ≡ [] → AttemptsEachDue place moment []
none-live place moment lives = closes-none place moment (λ item owed. let m = subst (λ (items : List OpenRecord). Contains items item) lives owed.lives in omega (arith, m.1))

pub not-due : (place : Place) (moment : ℕ) (one : OpenRecord) → live place.ledger ≡ one ∷ [] → moment < one.due → AttemptsEachDue place moment []
not-due place moment one lives early =
    closes-none place moment
    (λ item owed.
    let same = ap (λ (r : OpenRecord). r.due) (only one item (subst (λ (items : List OpenRecord). Contains items item) lives owed.lives)) in
    let due = owed.due in
    omega arith)

pub not-idle : (place : Place) (moment : ℕ) (one : OpenRecord) → live place.ledger ≡ one ∷ [] → is_idle place.past place.ends moment one.id ≡ false → AttemptsEachDue place moment []
not-idle place moment one lives busy =
    closes-none place moment
    (λ item owed.
    let same = ap (λ (r : OpenRecord). is_idle place.past place.ends moment r.id) (only one item (subst (λ (items : List OpenRecord). Contains items item) lives owed.lives)) in
    let idle = owed.idle in
    cc)

pub closes-one : (place : Place) (moment : ℕ) (one : OpenRecord) (item : Item) → live place.ledger ≡ one ∷ [] → one.due ≤ moment → is_idle place.past place.ends moment one.id ≡ true → IsAttempt (Close one.id) one.close item.event
    → AttemptsEachDue place moment (item ∷ [])
closes-one place moment one item lives due idle attempt =
    record {
      order = one ∷ [];
      attempted = (attempt, tt);
      rising = one-pairs Precedes one;
      each = λ closing. (
        (λ m. subst (λ (r : OpenRecord). IsDueIdle place moment r) (only one closing m) (record { lives = subst (λ (items : List OpenRecord). Contains items one) (sym lives) (Contains-head one []); due = due; idle = idle })),
        (λ owed. subst (λ (items : List OpenRecord). Contains items closing) lives owed.lives),
      );
    }
