-- One record among all that are stored: what is noted of it, read of it, and left without it.
use Rattle.std.proofs.Common.{◌≡◌, ℕ, zero, suc, ◌≤◌, ◌+◌, ◌==◌, ◌||◌, ◌&&◌, nat_lt, Bool, true, false, not, cond, List, [], ◌∷◌, ◌++◌, length, map, set, get_or, take, drop, Option, Some, None, refl, sym, ap, ◌∙◌, subst, arith, rules}
use Rattle.std.specs.Prelude.{position, IfSome, IfNone}
use Rattle.std.specs.List.{list_any, find, filter, remove, position_or_len}
use Rattle.std.proofs.lemmas.Bool.Decides.{nat_tests}
use Rattle.std.proofs.lemmas.List.Quantifiers.{position-Some}
use Rattle.std.proofs.lemmas.List.{take_all, drop_all, append-nil, length-map, take-append-le}
use Rattle.std.proofs.lemmas.Bool.{eqb-true, eq-eqb}
use Rattle.fk_base.specs.declared.purpose.Purpose.{Purpose}
use Rattle.fk_base.specs.declared.purpose.Purpose.TheVariants.{Open, Close}
use Rattle.fk_cycle.specs.Kept.{Kept, noted_turn, noted_begun, noted_not_begun, noted_ended, may_begin, has_running, is_ready}
use Rattle.fk_cycle.specs.Stands.{record_of}
use Rattle.fk_cycle.specs.Private.{Stored, kept_at, IsApart, IsTriedBy, IsPlaceOf}

eqb-swap : (a b : ℕ) → (a == b) ≡ false → (b == a) ≡ false
eqb-swap a b apart = grind (arith, nat_tests)

-- whether something stored has this number
abbrev pub is_stored : ℕ → List Stored → Bool
is_stored id items = list_any (λ item. item.id == id) items

behind : (id place : ℕ) (item : Stored) (items : List Stored) → IsPlaceOf id (suc place) (item ∷ items) → IsPlaceOf id place items
behind id place item items at = record { within = omega (arith, at.within); number = λ other. at.number other }

-- what nothing has is not the number of what stands at a place
apart-at : (n id : ℕ) (items : List Stored) (place : ℕ) → is_stored n items ≡ false → IsPlaceOf id place items → (n == id) ≡ false
apart-at n id [] place none at = absurd (let within = at.within in omega (arith, within))
apart-at n id (item ∷ items) zero none at =
    let here : (item.id == n) ≡ false = grind rules in
    subst (λ (m : ℕ). (n == m) ≡ false) (at.number item) (eqb-swap item.id n here)
apart-at n id (item ∷ items) (suc place) none at =
    let rest : is_stored n items ≡ false = grind rules in
    apart-at n id items place rest (behind id place item items at)

module _ (turn id : ℕ) (noted : Kept → Kept) (others : (kept : Kept) → (kept.id == id) ≡ false → noted kept ≡ kept) where
  pub noted-none : (items : List Stored) → is_stored id items ≡ false → map noted (map (kept_at turn) items) ≡ map (kept_at turn) items
  noted-none [] none = refl
  noted-none (item ∷ items) none =
      let here : (item.id == id) ≡ false = grind rules in
      let rest : is_stored id items ≡ false = grind rules in
      let ih = noted-none items rest in
      let same = others (kept_at turn item) here in cc

  -- what is noted of one is noted of all
  pub noted-at : (items : List Stored) (place : ℕ) (old new : Stored) → IsApart items → IsPlaceOf id place items → old ≡ get_or items place old → kept_at turn new ≡ noted (kept_at turn old)
      → map (kept_at turn) (set items place new) ≡ map noted (map (kept_at turn) items)
  noted-at [] place old new apart at is step = absurd (let within = at.within in omega (arith, within))
  noted-at (item ∷ items) zero old new apart at is step =
      let none : is_stored id items ≡ false = subst (λ (n : ℕ). is_stored n items ≡ false) (at.number item) apart.0 in
      let rest = noted-none items none in
      let here : kept_at turn new ≡ noted (kept_at turn item) = step ∙ ap (λ (item : Stored). noted (kept_at turn item)) is in cc
  noted-at (item ∷ items) (suc place) old new apart at is step =
      let next = behind id place item items at in
      let ih = noted-at items place old new apart.1 next is step in
      let same = others (kept_at turn item) (apart-at item.id id items place apart.0 next) in cc

any-set : (n : ℕ) (items : List Stored) (place : ℕ) (old new : Stored) → old ≡ get_or items place old → new.id ≡ old.id → is_stored n (set items place new) ≡ is_stored n items
any-set n [] place old new is same = refl
any-set n (item ∷ items) zero old new is same =
    ap (λ (m : ℕ). (m == n) || is_stored n items) (same ∙ ap (λ (item : Stored). item.id) is)
any-set n (item ∷ items) (suc place) old new is same =
    let ih = any-set n items place old new is same in
    ap (λ b. (item.id == n) || b) ih

pub apart-set : (items : List Stored) (place : ℕ) (old new : Stored) → IsApart items → old ≡ get_or items place old → new.id ≡ old.id → IsApart (set items place new)
apart-set [] place old new apart is same = tt
apart-set (item ∷ items) zero old new apart is same =
    (subst (λ (m : ℕ). is_stored m items ≡ false) (sym (same ∙ ap (λ (item : Stored). item.id) is)) apart.0, apart.1)
apart-set (item ∷ items) (suc place) old new apart is same =
    (any-set item.id items place old new is same ∙ apart.0, apart-set items place old new apart.1 is same)

pub tried-set : (turn : ℕ) (items : List Stored) (place : ℕ) (old new : Stored) → IsTriedBy turn items → old ≡ get_or items place old → (old.tried_in ≤ turn → new.tried_in ≤ turn) → IsTriedBy turn (set items place new)
tried-set turn [] place old new tried is step = tt
tried-set turn (item ∷ items) zero old new tried is step =
    (step (subst (λ (item : Stored). item.tried_in ≤ turn) (sym is) tried.0), tried.1)
tried-set turn (item ∷ items) (suc place) old new tried is step = (tried.0, tried-set turn items place old new tried.1 is step)

or-cases : (a b : Bool) → a ≡ false → b ≡ false → (a || b) ≡ false
or-cases a b first second = rw (first, second) refl

any-push : (n : ℕ) (items : List Stored) (new : Stored) → is_stored n items ≡ false → (new.id == n) ≡ false → is_stored n (items ++ new ∷ []) ≡ false
any-push n [] new none apart = rw apart refl
any-push n (item ∷ items) new none apart =
    let here : (item.id == n) ≡ false = grind rules in
    let rest : is_stored n items ≡ false = grind rules in
    or-cases (item.id == n) (is_stored n (items ++ new ∷ [])) here (any-push n items new rest apart)

pub apart-push : (items : List Stored) (new : Stored) → IsApart items → is_stored new.id items ≡ false → IsApart (items ++ new ∷ [])
apart-push [] new apart none = (refl, tt)
apart-push (item ∷ items) new apart none =
    let here : (item.id == new.id) ≡ false = grind rules in
    let rest : is_stored new.id items ≡ false = grind rules in
    (any-push item.id items new apart.0 (eqb-swap item.id new.id here), apart-push items new apart.1 rest)

pub tried-push : (turn : ℕ) (items : List Stored) (new : Stored) → IsTriedBy turn items → new.tried_in ≤ turn → IsTriedBy turn (items ++ new ∷ [])
tried-push turn [] new tried one = (one, tt)
tried-push turn (item ∷ items) new tried one = (tried.0, tried-push turn items new tried.1 one)

-- the next turn
abbrev tried_as : Stored → Bool → Kept
tried_as item tried =
    record { id = item.id; due = item.due; open_runs = item.open_runs; close = item.close; last_close = item.last_close; tried = tried }

not-next : (n turn : ℕ) → n ≤ turn → (n == turn + 1) ≡ false
not-next n turn within = grind (arith, nat_tests)

pub turned : (turn : ℕ) (items : List Stored) → IsTriedBy turn items → map (kept_at (turn + 1)) items ≡ map noted_turn (map (kept_at turn) items)
turned turn [] tried = refl
turned turn (item ∷ items) tried =
    let ih = turned turn items tried.1 in
    let here : kept_at (turn + 1) item ≡ noted_turn (kept_at turn item) = ap (tried_as item) (not-next item.tried_in turn tried.0) in cc

pub tried-later : (turn : ℕ) (items : List Stored) → IsTriedBy turn items → IsTriedBy (turn + 1) items
tried-later turn [] tried = tt
tried-later turn (item ∷ items) tried = (omega (arith, tried.0), tried-later turn items tried.1)

abbrev pub untried : Stored → Stored
untried item = record item { tried_in = 0 }

pub begun-again : (turn : ℕ) (items : List Stored) → map (kept_at 1) (map untried items) ≡ map noted_turn (map (kept_at turn) items)
begun-again turn [] = refl
begun-again turn (item ∷ items) =
    let ih = begun-again turn items in
    ap (λ (rest : List Kept). noted_turn (kept_at turn item) ∷ rest) ih

any-untried : (n : ℕ) (items : List Stored) → is_stored n (map untried items) ≡ is_stored n items
any-untried n [] = refl
any-untried n (item ∷ items) = ap (λ b. (item.id == n) || b) (any-untried n items)

pub apart-untried : (items : List Stored) → IsApart items → IsApart (map untried items)
apart-untried [] apart = tt
apart-untried (item ∷ items) apart = (any-untried item.id items ∙ apart.0, apart-untried items apart.1)

pub tried-untried : (items : List Stored) → IsTriedBy 1 (map untried items)
tried-untried [] = tt
tried-untried (item ∷ items) = (omega arith, tried-untried items)

-- what is asked of one is asked of all
or-false : (b : Bool) → (b || false) ≡ b
or-false true = refl
or-false false = refl

module _ (turn id : ℕ) (test : Kept → Bool) (others : (kept : Kept) → (kept.id == id) ≡ false → test kept ≡ false) where
  pub any-none : (items : List Stored) → is_stored id items ≡ false → list_any test (map (kept_at turn) items) ≡ false
  any-none [] none = refl
  any-none (item ∷ items) none =
      let here : (item.id == id) ≡ false = grind rules in
      let rest : is_stored id items ≡ false = grind rules in
      or-cases (test (kept_at turn item)) (list_any test (map (kept_at turn) items)) (others (kept_at turn item) here) (any-none items rest)

  pub any-at : (items : List Stored) (place : ℕ) (old : Stored) → IsApart items → IsPlaceOf id place items → old ≡ get_or items place old → list_any test (map (kept_at turn) items) ≡ test (kept_at turn old)
  any-at [] place old apart at is = absurd (let within = at.within in omega (arith, within))
  any-at (item ∷ items) zero old apart at is =
      let none : is_stored id items ≡ false = subst (λ (n : ℕ). is_stored n items ≡ false) (at.number item) apart.0 in
      ap (λ b. test (kept_at turn item) || b) (any-none items none) ∙ or-false (test (kept_at turn item)) ∙ ap (λ (item : Stored). test (kept_at turn item)) (sym is)
  any-at (item ∷ items) (suc place) old apart at is =
      let next = behind id place item items at in
      ap (λ b. b || list_any test (map (kept_at turn) items)) (others (kept_at turn item) (apart-at item.id id items place apart.0 next)) ∙ any-at items place old apart.1 next is

module _ (turn id : ℕ) where
  abbrev numbered : Kept → Bool
  numbered kept = kept.id == id

  pub find-none : (items : List Stored) → is_stored id items ≡ false → find (λ kept. kept.id == id) (map (kept_at turn) items) ≡ None
  find-none [] none = refl
  find-none (item ∷ items) none =
      let here : (item.id == id) ≡ false = grind rules in
      let rest : is_stored id items ≡ false = grind rules in
      ap (λ b. cond b (Some (kept_at turn item)) (find (λ kept. kept.id == id) (map (kept_at turn) items))) here ∙ find-none items rest

  pub find-place : (items : List Stored) (place : ℕ) (old : Stored) → IsApart items → IsPlaceOf id place items → old ≡ get_or items place old
      → find (λ kept. kept.id == id) (map (kept_at turn) items) ≡ Some (kept_at turn old)
  find-place [] place old apart at is = absurd (let within = at.within in omega (arith, within))
  find-place (item ∷ items) zero old apart at is =
      ap (λ b. cond b (Some (kept_at turn item)) (find (λ kept. kept.id == id) (map (kept_at turn) items))) (eq-eqb item.id id (at.number item))
      ∙ ap (λ (item : Stored). Some (kept_at turn item)) (sym is)
  find-place (item ∷ items) (suc place) old apart at is =
      let next = behind id place item items at in
      ap (λ b. cond b (Some (kept_at turn item)) (find (λ kept. kept.id == id) (map (kept_at turn) items))) (apart-at item.id id items place apart.0 next)
      ∙ find-place items place old apart.1 next is

-- what is noted of one purpose leaves the records of other numbers
pub others-begun : (purpose : Purpose) (kept : Kept) → (kept.id == record_of purpose) ≡ false → noted_begun purpose kept ≡ kept
others-begun (Open id) kept apart = rw (eqb-swap kept.id id apart) refl
others-begun (Close id) kept apart = rw (eqb-swap kept.id id apart) refl

pub others-not_begun : (purpose : Purpose) (kept : Kept) → (kept.id == record_of purpose) ≡ false → noted_not_begun purpose kept ≡ kept
others-not_begun (Open id) kept apart = refl
others-not_begun (Close id) kept apart = rw (eqb-swap kept.id id apart) refl

pub others-ended : (purpose : Purpose) (good : Bool) (moment : ℕ) (kept : Kept) → (kept.id == record_of purpose) ≡ false → noted_ended purpose good moment kept ≡ kept
others-ended (Open id) good moment kept apart = rw (eqb-swap kept.id id apart) refl
others-ended (Close id) good moment kept apart = rw (eqb-swap kept.id id apart) refl

pub others-may_begin : (purpose : Purpose) (kept : Kept) → (kept.id == record_of purpose) ≡ false → may_begin purpose kept ≡ false
others-may_begin (Open id) kept apart = rw (eqb-swap kept.id id apart) refl
others-may_begin (Close id) kept apart = rw (eqb-swap kept.id id apart) refl

pub others-has_running : (purpose : Purpose) (kept : Kept) → (kept.id == record_of purpose) ≡ false → has_running purpose kept ≡ false
others-has_running (Open id) kept apart = rw (eqb-swap kept.id id apart) refl
others-has_running (Close id) kept apart = rw (eqb-swap kept.id id apart) refl

-- what is left without one of them
others-left : (id : ℕ) (turn : ℕ) (items : List Stored) → is_stored id items ≡ false → filter (λ kept. not (kept.id == id)) (map (kept_at turn) items) ≡ map (kept_at turn) items
others-left id turn [] none = refl
others-left id turn (item ∷ items) none =
    let here : (item.id == id) ≡ false = grind rules in
    let rest : is_stored id items ≡ false = grind rules in
    ap (λ b. cond (not b) (kept_at turn item ∷ filter (λ kept. not (kept.id == id)) (map (kept_at turn) items)) (filter (λ kept. not (kept.id == id)) (map (kept_at turn) items))) here
    ∙ ap (λ (rest : List Kept). kept_at turn item ∷ rest) (others-left id turn items rest)

pub left-none : (id turn : ℕ) (items : List Stored) → is_stored id items ≡ false → map (kept_at turn) items ≡ filter (λ kept. not (kept.id == id)) (map (kept_at turn) items)
left-none id turn items none = sym (others-left id turn items none)

pub left-at : (id turn : ℕ) (items : List Stored) (place : ℕ) → IsApart items → IsPlaceOf id place items → map (kept_at turn) (remove items place) ≡ filter (λ kept. not (kept.id == id)) (map (kept_at turn) items)
left-at id turn [] place apart at = absurd (let within = at.within in omega (arith, within))
left-at id turn (item ∷ items) zero apart at =
    let none : is_stored id items ≡ false = subst (λ (n : ℕ). is_stored n items ≡ false) (at.number item) apart.0 in
    sym (ap (λ b. cond (not b) (kept_at turn item ∷ filter (λ kept. not (kept.id == id)) (map (kept_at turn) items)) (filter (λ kept. not (kept.id == id)) (map (kept_at turn) items))) (eq-eqb item.id id (at.number item))
    ∙ others-left id turn items none)
left-at id turn (item ∷ items) (suc place) apart at =
    let next = behind id place item items at in
    ap (λ (rest : List Kept). kept_at turn item ∷ rest) (left-at id turn items place apart.1 next)
    ∙ sym (ap (λ b. cond (not b) (kept_at turn item ∷ filter (λ kept. not (kept.id == id)) (map (kept_at turn) items)) (filter (λ kept. not (kept.id == id)) (map (kept_at turn) items))) (apart-at item.id id items place apart.0 next))

any-remove : (n : ℕ) (items : List Stored) (place : ℕ) → is_stored n items ≡ false → is_stored n (remove items place) ≡ false
any-remove n [] zero none = refl
any-remove n [] (suc place) none = refl
any-remove n (item ∷ items) zero none = let rest : is_stored n items ≡ false = grind rules in rest
any-remove n (item ∷ items) (suc place) none =
    let here : (item.id == n) ≡ false = grind rules in
    let rest : is_stored n items ≡ false = grind rules in
    or-cases (item.id == n) (is_stored n (remove items place)) here (any-remove n items place rest)

pub apart-remove : (items : List Stored) (place : ℕ) → IsApart items → IsApart (remove items place)
apart-remove [] zero apart = tt
apart-remove [] (suc place) apart = tt
apart-remove (item ∷ items) zero apart = apart.1
apart-remove (item ∷ items) (suc place) apart = (any-remove item.id items place apart.0, apart-remove items place apart.1)

pub tried-remove : (turn : ℕ) (items : List Stored) (place : ℕ) → IsTriedBy turn items → IsTriedBy turn (remove items place)
tried-remove turn [] zero tried = tt
tried-remove turn [] (suc place) tried = tt
tried-remove turn (item ∷ items) zero tried = tried.1
tried-remove turn (item ∷ items) (suc place) tried = (tried.0, tried-remove turn items place tried.1)

pub others-ready : (id moment : ℕ) (kept : Kept) → (kept.id == id) ≡ false → (kept.id == id && is_ready moment kept) ≡ false
others-ready id moment kept apart = rw apart refl

pub stored-any : (turn id : ℕ) (items : List Stored) → list_any (λ kept. kept.id == id) (map (kept_at turn) items) ≡ is_stored id items
stored-any turn id [] = refl
stored-any turn id (item ∷ items) = ap (λ b. (item.id == id) || b) (stored-any turn id items)

pub kept-at : (turn id : ℕ) (items : List Stored) (place : ℕ) → IsPlaceOf id place items → list_any (λ kept. kept.id == id) (map (kept_at turn) items) ≡ true
kept-at turn id [] place at = absurd (let within = at.within in omega (arith, within))
kept-at turn id (item ∷ items) zero at = rw (eq-eqb item.id id (at.number item)) refl
kept-at turn id (item ∷ items) (suc place) at =
    let ih = kept-at turn id items place (behind id place item items at) in
    elim (item.id == id) as (λ b. (b || list_any (λ kept. kept.id == id) (map (kept_at turn) items)) ≡ true) [ true ↦ refl | false ↦ ih ]

-- a loop that noted something of every record leaves the list with it noted of each
pub all-written : (f : Stored → Stored) (items start written : List Stored) (len index : ℕ) → start ≡ items → length start ≡ len → length start ≤ index → written ≡ map f (take index start) ++ drop index start
    → take len (written ++ drop (length written) items) ≡ map f items
all-written f items start written len index is long all w =
    let one : map f (take index start) ++ drop index start ≡ map f items =
    ap (λ (front : List Stored). map f front ++ drop index start) (take_all index start all) ∙ ap (λ (rest : List Stored). map f start ++ rest) (drop_all index start all) ∙ append-nil (map f start) ∙ ap (map f) is in
    let noted : written ≡ map f items = w ∙ one in
    let count : length written ≡ len = ap length noted ∙ length-map items f ∙ ap length (sym is) ∙ long in
    take-append-le len written (drop (length written) items) (omega arith) ∙ take_all len written (omega arith) ∙ noted

first-within : (n : ℕ) → nat_lt 0 (suc n) ≡ false → ⊥
first-within n past = grind (arith, nat_tests)

rest-past : (n m : ℕ) → nat_lt (1 + n) (suc m) ≡ false → nat_lt n m ≡ false
rest-past n m past = grind (arith, nat_tests)

-- what a walk over all finds
none-placed : (id : ℕ) (xs : List Stored) → nat_lt (position_or_len (λ x. x.id == id) xs) (length xs) ≡ false → is_stored id xs ≡ false
none-placed id [] past = refl
none-placed id (x ∷ xs) past =
    (elim (x.id == id) as (λ b. nat_lt (cond (not b) (1 + position_or_len (λ x. x.id == id) xs) 0) (length (x ∷ xs)) ≡ false → (b || is_stored id xs) ≡ false) [
      | true ↦ λ past. absurd (first-within (length xs) past)
      | false ↦ λ past. none-placed id xs (rest-past (position_or_len (λ x. x.id == id) xs) (length xs) past)
    ]) past

position-none : (id : ℕ) (xs : List Stored) → None ≡ position (λ x. x.id == id) xs → is_stored id xs ≡ false
position-none id xs is =
    none-placed id xs ((elim (nat_lt (position_or_len (λ x. x.id == id) xs) (length xs)) as (λ b. None ≡ cond b (Some (position_or_len (λ x. x.id == id) xs)) None → b ≡ false) [
      | true ↦ λ e. absurd (cc e)
      | false ↦ λ e. refl
    ]) is)

pub placed : (id : ℕ) (xs : List Stored) (place : Option ℕ) → place ≡ position (λ x. x.id == id) xs → IfSome place (λ place. IsPlaceOf id place xs)
placed id xs None is = tt
placed id xs (Some place) is =
    record {
      within = let other : Stored = record { id = 0; due = 0; open_runs = false; close = None; last_close = None; tried_in = 0 } in (position-Some (λ x. x.id == id) xs place other (sym is)).0;
      number = λ other. eqb-true _ _ (position-Some (λ x. x.id == id) xs place other (sym is)).1;
    }

pub unplaced : (id : ℕ) (xs : List Stored) (place : Option ℕ) → place ≡ position (λ x. x.id == id) xs → IfNone place (is_stored id xs ≡ false)
unplaced id xs None is = position-none id xs is
unplaced id xs (Some place) is = tt

-- a new record was not tried in any turn
abbrev pub fresh_tried : ℕ → ℕ → Bool → Kept
fresh_tried id due tried =
    record { id = id; due = due; open_runs = false; close = None; last_close = None; tried = tried }

pub not_now : (turn : ℕ) → 1 ≤ turn → (0 == turn) ≡ false
not_now turn started = grind (arith, nat_tests)
