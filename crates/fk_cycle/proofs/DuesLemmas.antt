-- The dues that have come, and those that wait.
use Rattle.std.proofs.Common.{◌≡◌, ℕ, zero, suc, ◌<◌, ◌≤◌, ◌+◌, ◌==◌, ◌||◌, ◌&&◌, nat_lt, Bool, true, false, not, cond, List, [], ◌∷◌, ◌++◌, length, map, take, get_or, Option, Some, None, inl, inr, refl, sym, ap, ◌∙◌, subst, arith, rules}
use Rattle.std.proofs.Math.Bool.{and-false}
use Rattle.std.specs.Prelude.{nat_le, is_none, position, unwrap_or, IfSome, IfNone}
use Rattle.std.specs.List.{remove, position_or_len, All, Contains}
use Rattle.std.proofs.lemmas.Bool.Decides.{nat_tests}
use Rattle.std.proofs.lemmas.List.Quantifiers.{position-Some}
use Rattle.std.proofs.lemmas.Bool.{eqb-true, eq-eqb}
use Rattle.std.proofs.lemmas.List.{take_more, take_all}
use Rattle.std.proofs.lemmas.List.Edits.{length-insert}
use Rattle.std.proofs.lemmas.List.Sums.{prefix_len-le-length}
use Rattle.std.proofs.lemmas.List.Elements.{All-head, All-tail, All-cons, All-nil, All-weaker, All-push, All-contains, Contains-append_left, Contains-append_right, Contains-append_cases, filter-append}
use Rattle.fk_trace.proofs.Lists.{Contains-head, Contains-tail, Contains-cases}
use Rattle.fk_timer.specs.Schedule.{Entry, IsInOrder, precedes, holds, with_entry, without}
use Rattle.fk_timer.proofs.Orders.{All-with_entry, holds-with_entry, holds-filter}
use Rattle.fk_base.specs.declared.purpose.Purpose.{Purpose}
use Rattle.fk_base.specs.declared.purpose.Purpose.TheVariants.{Open, Close}
use Rattle.fk_trace.specs.Idle.{ended_well, rests}
use Rattle.fk_cycle.specs.Kept.{Kept, is_ready, noted_begun, noted_not_begun}
use Rattle.fk_cycle.specs.Private.{Waits, IsTimed, HasPassed, IsEntryOf, IsFirstWaiting, is_ready_at}
use Rattle.fk_cycle.proofs.TimedLemmas.{Contains-in, Contains-put, Contains-out, IsTimed-opened, IsTimed-settled}

-- the first place that passes, or the end
pub place-unwrapped : (passes : Entry → Bool) (entries : List Entry) (place : Option ℕ) (len : ℕ) → place ≡ position passes entries → len ≡ length entries
    → unwrap_or place len ≡ position_or_len passes entries
place-unwrapped passes entries place len is all =
    let within = prefix_len-le-length (λ entry. not (passes entry)) entries in
    rw (is, all)
    ((elim (nat_lt (position_or_len passes entries) (length entries))
    as (λ b. nat_lt (position_or_len passes entries) (length entries) ≡ b → unwrap_or (cond b (Some (position_or_len passes entries)) None) (length entries) ≡ position_or_len passes entries) [
      | true ↦ λ _. refl
      | false ↦ λ past. grind (arith, nat_tests)
    ]) refl)

pub place-within : (entry : Entry) (entries : List Entry) → position_or_len (λ other. precedes entry other) entries ≤ length entries
place-within entry entries = prefix_len-le-length (λ other. not (precedes entry other)) entries

pub length-with_entry : (entry : Entry) (entries : List Entry) → length (with_entry entry entries) ≡ length entries + 1
length-with_entry entry entries = length-insert entries (position_or_len (λ other. precedes entry other) entries) entry (place-within entry entries)

pub length-without : (id : ℕ) (entries : List Entry) → length (without id entries) ≤ length entries
length-without id [] = omega arith
length-without id (entry ∷ entries) =
    let ih = length-without id entries in
    elim (entry.id == id) as (λ b. length (cond (not b) (entry ∷ without id entries) (without id entries)) ≤ length (entry ∷ entries)) [ true ↦ omega (arith, ih) | false ↦ omega (arith, ih) ]

-- nothing has the number, so nothing is left out
pub without-none : (id : ℕ) (entries : List Entry) → holds id entries ≡ false → entries ≡ without id entries
without-none id [] none = refl
without-none id (entry ∷ entries) none =
    let here : (entry.id == id) ≡ false = grind rules in
    let rest : holds id entries ≡ false = grind rules in
    ap (λ (rest : List Entry). entry ∷ rest) (without-none id entries rest)
    ∙ sym (ap (λ b. cond (not b) (entry ∷ without id entries) (without id entries)) here)

behind : (id place : ℕ) (entry : Entry) (entries : List Entry) → IsEntryOf id (suc place) (entry ∷ entries) → IsEntryOf id place entries
behind id place entry entries at = record { within = omega (arith, at.within); number = λ other. at.number other }

eqb-swap : (a b : ℕ) → (a == b) ≡ false → (b == a) ≡ false
eqb-swap a b apart = grind (arith, nat_tests)

apart-at : (n id : ℕ) (entries : List Entry) (place : ℕ) → holds n entries ≡ false → IsEntryOf id place entries → (n == id) ≡ false
apart-at n id [] place none at = absurd (let within = at.within in omega (arith, within))
apart-at n id (entry ∷ entries) zero none at =
    let here : (entry.id == n) ≡ false = grind rules in
    subst (λ (m : ℕ). (n == m) ≡ false) (at.number entry) (eqb-swap entry.id n here)
apart-at n id (entry ∷ entries) (suc place) none at =
    let rest : holds n entries ≡ false = grind rules in
    apart-at n id entries place rest (behind id place entry entries at)

pub removed : (id : ℕ) (entries : List Entry) (place : ℕ) → IsInOrder entries → IsEntryOf id place entries → remove entries place ≡ without id entries
removed id [] place order at = absurd (let within = at.within in omega (arith, within))
removed id (entry ∷ entries) zero order at =
    let none : holds id entries ≡ false = subst (λ (n : ℕ). holds n entries ≡ false) (at.number entry) order.1 in
    without-none id entries none
    ∙ sym (ap (λ b. cond (not b) (entry ∷ without id entries) (without id entries)) (eq-eqb entry.id id (at.number entry)))
removed id (entry ∷ entries) (suc place) order at =
    let next = behind id place entry entries at in
    ap (λ (rest : List Entry). entry ∷ rest) (removed id entries place order.2 next)
    ∙ sym (ap (λ b. cond (not b) (entry ∷ without id entries) (without id entries)) (apart-at entry.id id entries place order.1 next))

-- what stands at the place does not wait
pub apart-of : (id : ℕ) (come waiting : List Entry) (place : ℕ) → IsEntryOf id place come → All (λ entry. holds entry.id waiting ≡ false) come → holds id waiting ≡ false
apart-of id come waiting place at apart =
    let other : Entry = record { id = 0; moment = 0 } in
    subst (λ (n : ℕ). holds n waiting ≡ false) (at.number other) (apart place other at.within)

pub apart-filter : (id : ℕ) (come waiting : List Entry) → All (λ entry. holds entry.id waiting ≡ false) come → All (λ entry. holds entry.id (without id waiting) ≡ false) come
apart-filter id come waiting apart =
    All-weaker (λ entry. holds entry.id waiting ≡ false) (λ entry. holds entry.id (without id waiting) ≡ false) (λ entry none. holds-filter entry.id (λ entry. not (entry.id == id)) waiting none) come apart

-- of those that have come none has the number of one that waits
pub unknown-come : (entry : Entry) (come waiting : List Entry) → All (λ other. holds other.id (entry ∷ waiting) ≡ false) come → holds entry.id come ≡ false
unknown-come entry [] waiting apart = refl
unknown-come entry (x ∷ come) waiting apart =
    let first = All-head (λ other. holds other.id (entry ∷ waiting) ≡ false) x come apart in
    let here : (entry.id == x.id) ≡ false = grind rules in
    let rest = unknown-come entry come waiting (All-tail (λ other. holds other.id (entry ∷ waiting) ≡ false) x come apart) in
    rw (eqb-swap entry.id x.id here) rest

tail-none : (id : ℕ) (entry : Entry) (entries : List Entry) → holds id (entry ∷ entries) ≡ false → holds id entries ≡ false
tail-none id entry entries none = grind rules

pub apart-moved : (entry : Entry) (come waiting : List Entry) → All (λ other. holds other.id (entry ∷ waiting) ≡ false) come → holds entry.id waiting ≡ false → All (λ other. holds other.id waiting ≡ false) (with_entry entry come)
apart-moved entry come waiting apart once =
    All-with_entry (λ other. holds other.id waiting ≡ false) entry come once
    (All-weaker (λ other. holds other.id (entry ∷ waiting) ≡ false) (λ other. holds other.id waiting ≡ false) (λ other none. tail-none other.id entry waiting none) come apart)

pub none-left : (id : ℕ) (xs ys : List Entry) → holds id (xs ++ ys) ≡ false → holds id xs ≡ false
none-left id [] ys none = refl
none-left id (x ∷ xs) ys none =
    let here : (x.id == id) ≡ false = grind rules in
    let rest : holds id (xs ++ ys) ≡ false = grind rules in
    rw here (none-left id xs ys rest)

pub none-right : (id : ℕ) (xs ys : List Entry) → holds id (xs ++ ys) ≡ false → holds id ys ≡ false
none-right id [] ys none = none
none-right id (x ∷ xs) ys none = none-right id xs ys (tail-none id x (xs ++ ys) none)

-- one more waits, of a number that none of those that have come has
pub apart-put : (entry : Entry) (come waiting : List Entry) → holds entry.id come ≡ false → All (λ other. holds other.id waiting ≡ false) come → All (λ other. holds other.id (with_entry entry waiting) ≡ false) come
apart-put entry [] waiting unknown apart = All-nil (λ other. holds other.id (with_entry entry waiting) ≡ false)
apart-put entry (x ∷ come) waiting unknown apart =
    let here : (x.id == entry.id) ≡ false = grind rules in
    let rest : holds entry.id come ≡ false = grind rules in
    All-cons (λ other. holds other.id (with_entry entry waiting) ≡ false) x come
    (holds-with_entry x.id entry waiting (eqb-swap x.id entry.id here) (All-head (λ other. holds other.id waiting ≡ false) x come apart))
    (apart-put entry come waiting rest (All-tail (λ other. holds other.id waiting ≡ false) x come apart))

-- dues are timed by what is there, in whichever order
IsTimed-same : (dues xs ys : List Entry) → ((entry : Entry) → Contains xs entry → Contains ys entry) → ((entry : Entry) → Contains ys entry → Contains xs entry) → IsTimed dues xs → IsTimed dues ys
IsTimed-same dues xs ys there back timed =
    record {
      each = λ due m. there due (timed.each due m);
      waits = record {
        only = λ entry m. timed.waits.only entry (back entry m);
        agree = λ due entry m n same. timed.waits.agree due entry m (back entry n) same;
      };
    }

-- the first that waited has come
pub IsTimed-moved : (dues : List Entry) (entry : Entry) (come waiting : List Entry) → IsTimed dues (come ++ entry ∷ waiting) → IsTimed dues (with_entry entry come ++ waiting)
IsTimed-moved dues entry come waiting timed =
    IsTimed-same dues (come ++ entry ∷ waiting) (with_entry entry come ++ waiting)
    (λ x m. elim (Contains-append_cases come (entry ∷ waiting) x m) [
      | inl f ↦ Contains-append_left (with_entry entry come) waiting x (Contains-in entry come x f)
      | inr r ↦ elim (Contains-cases entry waiting x r) [
        | inl e ↦ subst (λ (y : Entry). Contains (with_entry entry come ++ waiting) y) e (Contains-append_left (with_entry entry come) waiting entry (Contains-put entry come))
        | inr t ↦ Contains-append_right (with_entry entry come) waiting x t
      ]
    ])
    (λ x m. elim (Contains-append_cases (with_entry entry come) waiting x m) [
      | inl f ↦ elim (Contains-out entry come x f) [
        | inl e ↦ subst (λ (y : Entry). Contains (come ++ entry ∷ waiting) y) e (Contains-append_right come (entry ∷ waiting) entry (Contains-head entry waiting))
        | inr k ↦ Contains-append_left come (entry ∷ waiting) x k
      ]
      | inr r ↦ Contains-append_right come (entry ∷ waiting) x (Contains-tail entry waiting x r)
    ])
    timed

-- one more waits
pub IsTimed-put : (entry : Entry) (dues come waiting : List Entry) → holds entry.id dues ≡ false → IsTimed dues (come ++ waiting) → IsTimed (dues ++ entry ∷ []) (come ++ with_entry entry waiting)
IsTimed-put entry dues come waiting unknown timed =
    IsTimed-same (dues ++ entry ∷ []) (with_entry entry (come ++ waiting)) (come ++ with_entry entry waiting)
    (λ x m. elim (Contains-out entry (come ++ waiting) x m) [
      | inl e ↦ subst (λ (y : Entry). Contains (come ++ with_entry entry waiting) y) e (Contains-append_right come (with_entry entry waiting) entry (Contains-put entry waiting))
      | inr k ↦ elim (Contains-append_cases come waiting x k) [
        | inl f ↦ Contains-append_left come (with_entry entry waiting) x f
        | inr r ↦ Contains-append_right come (with_entry entry waiting) x (Contains-in entry waiting x r)
      ]
    ])
    (λ x m. elim (Contains-append_cases come (with_entry entry waiting) x m) [
      | inl f ↦ Contains-in entry (come ++ waiting) x (Contains-append_left come waiting x f)
      | inr r ↦ elim (Contains-out entry waiting x r) [
        | inl e ↦ subst (λ (y : Entry). Contains (with_entry entry (come ++ waiting)) y) e (Contains-put entry (come ++ waiting))
        | inr k ↦ Contains-in entry (come ++ waiting) x (Contains-append_right come waiting x k)
      ]
    ])
    (IsTimed-opened entry dues (come ++ waiting) unknown timed)

pub IsTimed-dropped : (id : ℕ) (dues come waiting : List Entry) → IsTimed dues (come ++ waiting) → IsTimed (without id dues) (without id come ++ without id waiting)
IsTimed-dropped id dues come waiting timed =
    subst (IsTimed (without id dues)) (filter-append (λ (entry : Entry). not (entry.id == id)) come waiting) (IsTimed-settled id dues (come ++ waiting) timed)

pub Waits-right : (dues come waiting : List Entry) → Waits dues (come ++ waiting) → Waits dues waiting
Waits-right dues come waiting waits =
    record {
      only = λ entry m. waits.only entry (Contains-append_right come waiting entry m);
      agree = λ due entry m n same. waits.agree due entry m (Contains-append_right come waiting entry n) same;
    }

unready : (here ready before : Bool) → (ready ≡ true → before ≡ true) → (here && before) ≡ false → (here && ready) ≡ false
unready false ready before less none = refl
unready true false before less none = refl
unready true true before less none = absurd (let w = less refl in cc)

itself : (entry : Entry) → precedes entry entry ≡ false
itself entry = grind (arith, nat_tests)

other_side : (a b : Entry) → precedes a b ≡ true → precedes b a ≡ false
other_side a b before = grind (arith, nat_tests)

-- what was noted makes no close ready that was not
ready_at-noted : (moment : ℕ) (noted : Kept → Kept) → ((kept : Kept) → (noted kept).id ≡ kept.id) → ((kept : Kept) → is_ready moment (noted kept) ≡ true → is_ready moment kept ≡ true) → (machine : List Kept) (id : ℕ)
    → is_ready_at moment machine id ≡ false → is_ready_at moment (map noted machine) id ≡ false
ready_at-noted moment noted number ready [] id none = refl
ready_at-noted moment noted number ready (kept ∷ machine) id none =
    let here : (kept.id == id && is_ready moment kept) ≡ false = grind rules in
    let rest : is_ready_at moment machine id ≡ false = grind rules in
    let ih = ready_at-noted moment noted number ready machine id rest in
    let test : ((noted kept).id == id && is_ready moment (noted kept)) ≡ false =
    ap (λ (n : ℕ). n == id && is_ready moment (noted kept)) (number kept) ∙ unready (kept.id == id) (is_ready moment (noted kept)) (is_ready moment kept) (ready kept) here in
    rw test ih

pub HasPassed-noted : (at : ℕ) (noted : Kept → Kept) → ((kept : Kept) → (noted kept).id ≡ kept.id) → ((kept : Kept) → is_ready at (noted kept) ≡ true → is_ready at kept ≡ true) → (machine : List Kept) (passed : ℕ) (come : List Entry)
    → HasPassed at machine passed come → HasPassed at (map noted machine) passed come
HasPassed-noted at noted number ready machine passed come all =
    All-weaker (λ entry. is_ready_at at machine entry.id ≡ false) (λ entry. is_ready_at at (map noted machine) entry.id ≡ false) (λ entry none. ready_at-noted at noted number ready machine entry.id none) (take passed come) all

pub HasPassed-none : (at : ℕ) (machine : List Kept) (come : List Entry) → HasPassed at machine 0 come
HasPassed-none at machine come = All-nil (λ entry. is_ready_at at machine entry.id ≡ false)

pub HasPassed-more : (at : ℕ) (machine : List Kept) (come : List Entry) (place : ℕ) (entry : Entry) → entry ≡ get_or come place entry → place < length come → is_ready_at at machine entry.id ≡ false → HasPassed at machine place come → HasPassed at machine (place + 1) come
HasPassed-more at machine come place entry is within unready all =
    subst (All (λ entry. is_ready_at at machine entry.id ≡ false)) (sym (take_more come place entry within ∙ ap (λ (e : Entry). take place come ++ e ∷ []) (sym is)))
    (All-push (λ entry. is_ready_at at machine entry.id ≡ false) (take place come) entry all unready)

-- what is behind an entry does not precede it
later-not : (entry : Entry) (entries : List Entry) → All (λ other. precedes entry other ≡ true) entries → (other : Entry) → Contains entries other → precedes other entry ≡ false
later-not entry entries all other m =
    let before = All-contains (λ other. precedes entry other ≡ true) entries other all m in
    other_side entry other before

module _ (at : ℕ) (machine : List Kept) where
  -- the first that was not passed over
  pub first-at : (come : List Entry) (place : ℕ) (entry : Entry) → IsInOrder come → place < length come → entry ≡ get_or come place entry → HasPassed at machine place come → is_ready_at at machine entry.id ≡ true → IsFirstWaiting at machine come (Some entry.id)
  first-at [] place entry order within is all ready = absurd (omega (arith, within))
  first-at (x ∷ come) zero entry order within is all ready = (
    entry,
    subst (λ (y : Entry). Contains (x ∷ come) y) (sym is) (Contains-head x come),
    refl,
    ready,
    λ other m _. elim (Contains-cases x come other m) [
      | inl e ↦ subst (λ (y : Entry). precedes y entry ≡ false) (is ∙ e) (itself entry)
      | inr k ↦ subst (λ (y : Entry). precedes other y ≡ false) (sym is) (later-not x come order.0 other k)
    ],
  )
  first-at (x ∷ come) (suc place) entry order within is all ready =
      let rest = first-at come place entry order.2 (omega (arith, within)) is (All-tail (λ entry. is_ready_at at machine entry.id ≡ false) x (take place come) all) ready in
      let unready : is_ready_at at machine x.id ≡ false = All-head (λ entry. is_ready_at at machine entry.id ≡ false) x (take place come) all in (
        rest.0,
        Contains-tail x come rest.0 rest.1,
        rest.2,
        rest.3,
        λ other m t. elim (Contains-cases x come other m) [
          | inl e ↦ absurd (let w = ap (λ (y : Entry). is_ready_at at machine y.id) e in cc)
          | inr k ↦ rest.4 other k t
        ],
      )

  pub none-at : (come : List Entry) (passed : ℕ) → length come ≤ passed → HasPassed at machine passed come → IsFirstWaiting at machine come None
  none-at come passed all none = λ entry m. All-contains (λ entry. is_ready_at at machine entry.id ≡ false) come entry (subst (All (λ entry. is_ready_at at machine entry.id ≡ false)) (take_all passed come all) none) m

  -- what waits for a later moment does not count
  pub joined : (come waiting : List Entry) (first : Option ℕ) → IsFirstWaiting at machine waiting None → IsFirstWaiting at machine come first → IsFirstWaiting at machine (come ++ waiting) first
  joined come waiting None none first =
      λ entry m. elim (Contains-append_cases come waiting entry m) [ inl f ↦ first entry f | inr r ↦ none entry r ]
  joined come waiting (Some id) none first = (
    first.0,
    Contains-append_left come waiting first.0 first.1,
    first.2,
    first.3,
    λ other m t. elim (Contains-append_cases come waiting other m) [ inl f ↦ first.4 other f t | inr r ↦ absurd (let w = none other r in cc) ],
  )

first-within : (n : ℕ) → nat_lt 0 (suc n) ≡ false → ⊥
first-within n past = grind (arith, nat_tests)

rest-past : (n m : ℕ) → nat_lt (1 + n) (suc m) ≡ false → nat_lt n m ≡ false
rest-past n m past = grind (arith, nat_tests)

-- what a walk over all finds
none-placed : (id : ℕ) (xs : List Entry) → nat_lt (position_or_len (λ x. x.id == id) xs) (length xs) ≡ false → holds id xs ≡ false
none-placed id [] past = refl
none-placed id (x ∷ xs) past =
    (elim (x.id == id) as (λ b. nat_lt (cond (not b) (1 + position_or_len (λ x. x.id == id) xs) 0) (length (x ∷ xs)) ≡ false → (b || holds id xs) ≡ false) [
      | true ↦ λ past. absurd (first-within (length xs) past)
      | false ↦ λ past. none-placed id xs (rest-past (position_or_len (λ x. x.id == id) xs) (length xs) past)
    ]) past

position-none : (id : ℕ) (xs : List Entry) → None ≡ position (λ x. x.id == id) xs → holds id xs ≡ false
position-none id xs is =
    none-placed id xs ((elim (nat_lt (position_or_len (λ x. x.id == id) xs) (length xs)) as (λ b. None ≡ cond b (Some (position_or_len (λ x. x.id == id) xs)) None → b ≡ false) [
      | true ↦ λ e. absurd (cc e)
      | false ↦ λ e. refl
    ]) is)

pub placed : (id : ℕ) (xs : List Entry) (place : Option ℕ) → place ≡ position (λ x. x.id == id) xs → IfSome place (λ place. IsEntryOf id place xs)
placed id xs None is = tt
placed id xs (Some place) is =
    record {
      within = let other : Entry = record { id = 0; moment = 0 } in (position-Some (λ x. x.id == id) xs place other (sym is)).0;
      number = λ other. eqb-true _ _ (position-Some (λ x. x.id == id) xs place other (sym is)).1;
    }

pub unplaced : (id : ℕ) (xs : List Entry) (place : Option ℕ) → place ≡ position (λ x. x.id == id) xs → IfNone place (holds id xs ≡ false)
unplaced id xs None is = position-none id xs is
unplaced id xs (Some place) is = tt

pub HasPassed-all : (at : ℕ) (machine : List Kept) (come : List Entry) (passed : ℕ) → length come ≤ passed → HasPassed at machine passed come → HasPassed at machine (length come) come
HasPassed-all at machine come passed long all =
    subst (All (λ entry. is_ready_at at machine entry.id ≡ false)) (take_all passed come long ∙ sym (take_all (length come) come (omega arith))) all

shut : (a b c d : Bool) → (a && false && b && c && d) ≡ true → ⊥
shut true b c d r = cc
shut false b c d r = cc

-- a close that was begun, or was to be begun, makes no close ready that was not, nor does an open that was begun
opened-ready : (moment : ℕ) (kept : Kept) → is_ready moment (record kept { open_runs = true }) ≡ true → is_ready moment kept ≡ true
opened-ready moment kept ready =
    let rest : Bool = not (rests kept.last_close moment) in
    (elim kept.open_runs as (λ runs. (is_none kept.close && not (true && ended_well kept.last_close) && rest && nat_le kept.due moment && not kept.tried) ≡ true → (is_none kept.close && not (runs && ended_well kept.last_close) && rest && nat_le kept.due moment && not kept.tried) ≡ true) [
      | true ↦ λ r. r
      | false ↦ (elim (ended_well kept.last_close) as (λ well. (is_none kept.close && not (true && well) && rest && nat_le kept.due moment && not kept.tried) ≡ true → (is_none kept.close && not (false && well) && rest && nat_le kept.due moment && not kept.tried) ≡ true) [
        | true ↦ λ r. absurd (shut (is_none kept.close) rest (nat_le kept.due moment) (not kept.tried) r)
        | false ↦ λ r. r
      ])
    ]) ready

pub ready-begun : (purpose : Purpose) (moment : ℕ) (kept : Kept) → is_ready moment (noted_begun purpose kept) ≡ true → is_ready moment kept ≡ true
ready-begun (Open id) moment kept =
    elim (id == kept.id) as (λ b. is_ready moment (cond b (record kept { open_runs = true }) kept) ≡ true → is_ready moment kept ≡ true) [ true ↦ opened-ready moment kept | false ↦ λ r. r ]
ready-begun (Close id) moment kept =
    elim (id == kept.id) as (λ b. is_ready moment (cond b (record kept { close = Some (not kept.open_runs); tried = true }) kept) ≡ true → is_ready moment kept ≡ true) [ true ↦ λ r. absurd (cc r) | false ↦ λ r. r ]

pub ready-not_begun : (purpose : Purpose) (moment : ℕ) (kept : Kept) → is_ready moment (noted_not_begun purpose kept) ≡ true → is_ready moment kept ≡ true
ready-not_begun (Open id) moment kept = λ r. r
ready-not_begun (Close id) moment kept =
    let rest : Bool = is_none kept.close && not (kept.open_runs && ended_well kept.last_close) && not (rests kept.last_close moment) && nat_le kept.due moment in
    elim (id == kept.id) as (λ b. is_ready moment (cond b (record kept { tried = true }) kept) ≡ true → is_ready moment kept ≡ true) [
      | true ↦ λ r. absurd (let w = sym (and-false rest) ∙ r in cc)
      | false ↦ λ r. r
    ]

same-entry : (entries : List Entry) (place : ℕ) (a b : Entry) → place < length entries → get_or entries place a ≡ get_or entries place b
same-entry [] place a b within = absurd (omega (arith, within))
same-entry (entry ∷ entries) zero a b within = refl
same-entry (entry ∷ entries) (suc place) a b within = same-entry entries place a b (omega (arith, within))

-- what stands at the first place that was not passed over
pub first-found : (at : ℕ) (machine : List Kept) (come : List Entry) (place : ℕ) (first : Option ℕ) → IsInOrder come → HasPassed at machine place come → (place < length come → (other : Entry) → is_ready_at at machine (get_or come place other).id ≡ true)
    → IfSome first (λ id. IsEntryOf id place come) → IfNone first (length come ≤ place) → IsFirstWaiting at machine come first
first-found at machine come place None order all ready some none = none-at at machine come place none all
first-found at machine come place (Some id) order all ready some none =
    let zeroth : Entry = record { id = 0; moment = 0 } in
    let entry : Entry = get_or come place zeroth in
    subst (λ (n : ℕ). IsFirstWaiting at machine come (Some n)) (some.number zeroth)
    (first-at at machine come place entry order some.within (same-entry come place zeroth entry some.within) all (ready some.within zeroth))
