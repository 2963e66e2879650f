-- What a crash leaves of a turn and of its parts, and that it is the beginning of a whole turn.
use Rattle.std.proofs.Common.{◌≡◌, ◌≢◌, ℕ, zero, suc, ◌+◌, ◌<◌, ◌≤◌, min, nat_lt, nat_le, Bool, true, false, cond, List, [], ◌∷◌, ◌++◌, length, take, drop, refl, sym, ap, ◌∙◌, subst, arith, inl, inr, append_assoc, append-nil, length-append}
use Rattle.std.specs.List.{filter, AllPairs, AllByRecursion, All}
use Rattle.std.proofs.Math.Seq.{take-append_seam}
use Rattle.std.proofs.lemmas.Bool.{cases_lt}
use Rattle.std.proofs.lemmas.Bool.Decides.{nat_tests}
use Rattle.std.proofs.lemmas.List.{take-append-le, take_all, drop_all}
use Rattle.std.proofs.lemmas.List.Elements.{filter-append}
use Rattle.fk_trace.specs.declared.change.Change.{Change}
use Rattle.fk_trace.specs.Trace.{Event, Item}
use Rattle.fk_trace.specs.Trace.Event.{Turn, Began, StartFailed, Ended, Runs, PollFailed}
use Rattle.fk_trace.specs.Decision.{Rules}
use Rattle.fk_trace.specs.Attempts.{IsNoAttempt, IsNoPoll}
use Rattle.fk_run.specs.Place.{Place}
use Rattle.fk_run.specs.Turn.{TakenTurn, WholeTurn, CutTurn}
use Rattle.fk_run.specs.Left.{items_by, items_behind, is_attempt, IsCutAt, MayStandBefore}

pub recursion-joined : {X : Type 0} (P : X → Type 0) (xs ys : List X) → AllByRecursion P xs → AllByRecursion P ys → AllByRecursion P (xs ++ ys)
recursion-joined P [] ys h g = g
recursion-joined P (x ∷ xs) ys h g = (h.0, recursion-joined P xs ys h.1 g)

pub recursion-mapped : {X : Type 0} (P Q : X → Type 0) → ((x : X) → P x → Q x) → (xs : List X) → AllByRecursion P xs → AllByRecursion Q xs
recursion-mapped P Q f [] h = tt
recursion-mapped P Q f (x ∷ xs) h = (f x h.0, recursion-mapped P Q f xs h.1)

pub recursion-filtered : {X : Type 0} (P : X → Type 0) (p : X → Bool) (xs : List X) → AllByRecursion P xs → AllByRecursion P (filter p xs)
recursion-filtered P p [] h = tt
recursion-filtered P p (x ∷ xs) h =
    (elim (p x) as (λ b. AllByRecursion P (cond b (x ∷ filter p xs) (filter p xs))) [
      | true ↦ (h.0, recursion-filtered P p xs h.1)
      | false ↦ recursion-filtered P p xs h.1
    ])

abbrev StandsBy : ℕ → Item → Type 0
StandsBy k item = item.moments ≤ k

abbrev StandsBehind : ℕ → Item → Type 0
StandsBehind k item = k < item.moments

nat_le-from : (a b : ℕ) → a ≤ b → nat_le a b ≡ true
nat_le-from a b l = grind (arith, nat_tests)

nat_le-not : (a b : ℕ) → b < a → nat_le a b ≡ false
nat_le-not a b l = grind (arith, nat_tests)

nat_lt-from : (a b : ℕ) → a < b → nat_lt a b ≡ true
nat_lt-from a b l = grind (arith, nat_tests)

nat_lt-not : (a b : ℕ) → b ≤ a → nat_lt a b ≡ false
nat_lt-not a b l = grind (arith, nat_tests)

pub by-all : (k : ℕ) (xs : List Item) → AllByRecursion (λ item. item.moments ≤ k) xs → items_by k xs ≡ xs
by-all k [] h = refl
by-all k (x ∷ xs) h = rw (nat_le-from x.moments k h.0) (ap (λ (ys : List Item). x ∷ ys) (by-all k xs h.1))

pub by-none : (k : ℕ) (xs : List Item) → AllByRecursion (λ item. k < item.moments) xs → items_by k xs ≡ []
by-none k [] h = refl
by-none k (x ∷ xs) h = rw (nat_le-not x.moments k h.0) (by-none k xs h.1)

pub behind-all : (k : ℕ) (xs : List Item) → AllByRecursion (λ item. k < item.moments) xs → items_behind k xs ≡ xs
behind-all k [] h = refl
behind-all k (x ∷ xs) h = rw (nat_lt-from k x.moments h.0) (ap (λ (ys : List Item). x ∷ ys) (behind-all k xs h.1))

pub behind-none : (k : ℕ) (xs : List Item) → AllByRecursion (λ item. item.moments ≤ k) xs → items_behind k xs ≡ []
behind-none k [] h = refl
behind-none k (x ∷ xs) h = rw (nat_lt-not k x.moments h.0) (behind-none k xs h.1)

abbrev Attempts : List Item → Type 0
Attempts xs = AllByRecursion (λ item. is_attempt item.event ≡ true) xs

abbrev Others : List Item → Type 0
Others xs = AllByRecursion (λ item. is_attempt item.event ≡ false) xs

module _ (xs ys : List Item) (a b : List Change) (k n : ℕ) (order : MayStandBefore xs a ys b) where
  -- a crash in the later of two parts
  module _ (done : AllByRecursion (λ item. item.moments ≤ k) xs) (cut : IsCutAt k ys b n) where
    by-later : items_by k (xs ++ ys) ≡ xs ++ items_by k ys
    by-later = filter-append (λ (item : Item). nat_le item.moments k) xs ys ∙ ap (λ (zs : List Item). zs ++ items_by k ys) (by-all k xs done)

    behind-later : items_behind k (xs ++ ys) ≡ items_behind k ys
    behind-later = filter-append (λ (item : Item). nat_lt k item.moments) xs ys ∙ ap (λ (zs : List Item). zs ++ items_behind k ys) (behind-none k xs done)

    pub cut-later : IsCutAt k (xs ++ ys) (a ++ b) (length a + n)
    cut-later = record {
      changes_before_attempts = elim cut.changes_before_attempts [
        | inl all ↦ inl (let l = length-append a b in omega (arith, l, all))
        | inr none ↦ elim order.attempts [
          | inl e ↦ inl (let l = length-append a b in let z = ap length e in omega (arith, l, z))
          | inr others ↦ inr (subst Others (sym by-later) (recursion-joined (λ (item : Item). is_attempt item.event ≡ false) xs (items_by k ys) others none))
        ]
      ];
      others_before_changes = elim cut.others_before_changes [
        | inl none ↦ elim order.others [
          | inl e ↦ inl (let z = ap length e in omega (arith, z, none))
          | inr attempts ↦ inr (subst Attempts (sym behind-later) (recursion-filtered (λ (item : Item). is_attempt item.event ≡ true) (λ (item : Item). nat_lt k item.moments) ys attempts))
        ]
        | inr attempts ↦ inr (subst Attempts (sym behind-later) attempts)
      ];
    }

  -- a crash in the earlier one
  module _ (ahead : AllByRecursion (λ item. k < item.moments) ys) (cut : IsCutAt k xs a n) where
    by-earlier : items_by k (xs ++ ys) ≡ items_by k xs
    by-earlier = filter-append (λ (item : Item). nat_le item.moments k) xs ys ∙ ap (λ (zs : List Item). items_by k xs ++ zs) (by-none k ys ahead) ∙ append-nil (items_by k xs)

    behind-earlier : items_behind k (xs ++ ys) ≡ items_behind k xs ++ ys
    behind-earlier = filter-append (λ (item : Item). nat_lt k item.moments) xs ys ∙ ap (λ (zs : List Item). items_behind k xs ++ zs) (behind-all k ys ahead)

    pub cut-earlier : IsCutAt k (xs ++ ys) (a ++ b) (min n (length a))
    cut-earlier = record {
      changes_before_attempts = elim cut.changes_before_attempts [
        | inl all ↦ elim order.attempts [
          | inl e ↦ inl (let l = length-append a b in let z = ap length e in omega (arith, l, z, all))
          | inr others ↦ inr (subst Others (sym by-earlier) (recursion-filtered (λ (item : Item). is_attempt item.event ≡ false) (λ (item : Item). nat_le item.moments k) xs others))
        ]
        | inr none ↦ inr (subst Others (sym by-earlier) none)
      ];
      others_before_changes = elim cut.others_before_changes [
        | inl none ↦ inl (omega (arith, none))
        | inr behind ↦ elim order.others [
          | inl e ↦ inl (let z = ap length e in omega (arith, z))
          | inr attempts ↦ inr (subst Attempts (sym behind-earlier) (recursion-joined (λ (item : Item). is_attempt item.event ≡ true) (items_behind k xs) ys behind attempts))
        ]
      ];
    }

all-recursion : {X : Type 0} (P : X → Type 0) (xs : List X) → All P xs → AllByRecursion P xs
all-recursion P [] h = tt
all-recursion P (x ∷ xs) h = (h 0 x (omega arith), all-recursion P xs (λ k d l. h (suc k) d (omega arith)))

-- items that rise: those up to a moment stand before those behind it
rising-head : (x : Item) (xs : List Item) → AllPairs (λ a b. a.moments < b.moments) (x ∷ xs) → AllByRecursion (λ item. x.moments < item.moments) xs
rising-head x xs h = all-recursion (λ (item : Item). x.moments < item.moments) xs (λ k d l. h 0 (suc k) d (omega arith) (omega arith))

rising-tail : (x : Item) (xs : List Item) → AllPairs (λ a b. a.moments < b.moments) (x ∷ xs) → AllPairs (λ a b. a.moments < b.moments) xs
rising-tail x xs h = λ i j d l m. h (suc i) (suc j) d (omega arith) (omega arith)

pub split-at : (k : ℕ) (xs : List Item) → AllPairs (λ a b. a.moments < b.moments) xs → xs ≡ items_by k xs ++ items_behind k xs
split-at k [] rising = refl
split-at k (x ∷ xs) rising =
    elim (cases_lt k x.moments) [
      | inl behind ↦
          let all = recursion-mapped (λ (item : Item). x.moments < item.moments) (λ item. k < item.moments) (λ item l. omega (arith, l, behind)) xs (rising-head x xs rising) in
          sym (ap (λ (ys : List Item). ys ++ items_behind k (x ∷ xs)) (by-none k (x ∷ xs) (behind, all)) ∙ behind-all k (x ∷ xs) (behind, all))
      | inr by ↦ rw (nat_le-from x.moments k by, nat_lt-not k x.moments by) (ap (λ (ys : List Item). x ∷ ys) (split-at k xs (rising-tail x xs rising)))
    ]

pub attempt-no_poll : (event : Event) → is_attempt event ≡ true → IsNoPoll event
attempt-no_poll (Turn number) e = absurd cc
attempt-no_poll (Began number purpose words) e = tt
attempt-no_poll (StartFailed purpose words) e = tt
attempt-no_poll (Ended number good) e = absurd cc
attempt-no_poll (Runs number) e = absurd cc
attempt-no_poll (PollFailed number) e = absurd cc

pub other-no_attempt : (event : Event) → is_attempt event ≡ false → IsNoAttempt event
other-no_attempt (Turn number) e = tt
other-no_attempt (Began number purpose words) e = absurd cc
other-no_attempt (StartFailed purpose words) e = absurd cc
other-no_attempt (Ended number good) e = tt
other-no_attempt (Runs number) e = tt
other-no_attempt (PollFailed number) e = tt

pub take-within : {X : Type 0} (n : ℕ) (xs ys : List X) → take (min n (length xs)) (xs ++ ys) ≡ take n xs
take-within n xs ys =
    elim (cases_lt (length xs) n) [
      | inl past ↦ let m : min n (length xs) ≡ length xs = omega arith in rw (m, take-append_seam xs ys) (sym (take_all n xs (omega arith)))
      | inr fits ↦ let m : min n (length xs) ≡ n = omega arith in rw m (take-append-le n xs ys fits)
    ]

pub take-drop : {X : Type 0} (n : ℕ) (xs : List X) → take n xs ++ drop n xs ≡ xs
take-drop zero xs = refl
take-drop (suc n) [] = refl
take-drop (suc n) (x ∷ xs) = ap (λ ys. x ∷ ys) (take-drop n xs)

-- a turn as a crash cuts it
abbrev pub cut_off : TakenTurn → ℕ → ℕ → TakenTurn
cut_off taken k n = record { turn = taken.turn; items = items_by k taken.items; changes = take n taken.changes }

-- the beginning of a beginning of a whole turn is one
pub cut-cut : (rules : Rules) (place : Place) (taken : TakenTurn) (k n : ℕ) → CutTurn rules place taken → IsCutAt k taken.items taken.changes n
    → AllPairs (λ a b. a.moments < b.moments) taken.items → items_by k taken.items ≢ [] → CutTurn rules place (cut_off taken k n)
cut-cut rules place taken k n cut at rising begun =
    let behind : List Item = items_behind k taken.items in
    let left : List Change = drop n taken.changes in
    let items : taken.items ++ cut.missing ≡ items_by k taken.items ++ (behind ++ cut.missing) =
    ap (λ (xs : List Item). xs ++ cut.missing) (split-at k taken.items rising) ∙ append_assoc (items_by k taken.items) behind cut.missing in
    let changes : taken.changes ++ cut.unmade ≡ take n taken.changes ++ (left ++ cut.unmade) =
    ap (λ (cs : List Change). cs ++ cut.unmade) (sym (take-drop n taken.changes)) ∙ append_assoc (take n taken.changes) left cut.unmade in
    record {
      missing = behind ++ cut.missing;
      unmade = left ++ cut.unmade;
      whole = subst (λ (xs : List Item). WholeTurn rules place (record { turn = taken.turn; items = xs; changes = take n taken.changes ++ (left ++ cut.unmade) })) items
          (subst (λ (cs : List Change). WholeTurn rules place (record { turn = taken.turn; items = taken.items ++ cut.missing; changes = cs })) changes cut.whole);
      begun = begun;
      changes_before_attempts = elim at.changes_before_attempts [
        | inl all ↦ elim cut.changes_before_attempts [
          | inl none ↦ inl (ap (λ (cs : List Change). cs ++ cut.unmade) (drop_all n taken.changes all) ∙ none)
          | inr others ↦ inr (recursion-filtered (λ (item : Item). IsNoAttempt item.event) (λ (item : Item). nat_le item.moments k) taken.items others)
        ]
        | inr none ↦ inr (recursion-mapped (λ (item : Item). is_attempt item.event ≡ false) (λ item. IsNoAttempt item.event) (λ item e. other-no_attempt item.event e) (items_by k taken.items) none)
      ];
      polls_before_changes = elim at.others_before_changes [
        | inl none ↦ inl (ap (λ (m : ℕ). take m taken.changes) none)
        | inr attempts ↦ elim cut.polls_before_changes [
          | inl e ↦ inl (ap (take n) e ∙ take_all n [] (omega arith))
          | inr no_polls ↦ inr (recursion-joined (λ (item : Item). IsNoPoll item.event) behind cut.missing
              (recursion-mapped (λ (item : Item). is_attempt item.event ≡ true) (λ item. IsNoPoll item.event) (λ item e. attempt-no_poll item.event e) behind attempts) no_polls)
        ]
      ];
    }

-- a whole turn is a beginning of itself
pub whole-cut : (rules : Rules) (place : Place) (taken : TakenTurn) → WholeTurn rules place taken → CutTurn rules place taken
whole-cut rules place taken whole = record {
  missing = [];
  unmade = [];
  whole = subst (λ (xs : List Item). WholeTurn rules place (record { turn = taken.turn; items = xs; changes = taken.changes ++ [] })) (sym (append-nil taken.items))
      (subst (λ (cs : List Change). WholeTurn rules place (record { turn = taken.turn; items = taken.items; changes = cs })) (sym (append-nil taken.changes)) whole);
  begun = λ none. let is = sym whole.nothing_else.1 ∙ none in cc;
  changes_before_attempts = inl refl;
  polls_before_changes = inr tt;
}
