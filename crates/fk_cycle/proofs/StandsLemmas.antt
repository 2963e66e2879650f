-- What each call does to a machine that stands for a trace.
use Rattle.std.proofs.Common.{◌≡◌, ◌≢◌, ℕ, ◌<◌, Bool, true, false, not, ◌&&◌, ◌==◌, cond, List, [], ◌∷◌, ◌++◌, map, Option, Some, None, refl, sym, ap, ◌∙◌, subst, arith, get_or}
use Rattle.std.specs.Prelude.{is_some, is_none}
use Rattle.std.specs.List.{find, filter, list_any, All, Contains}
use Rattle.std.specs.Option.{option_map}
use Rattle.std.proofs.lemmas.List.{append-nil, map-append}
use Rattle.std.proofs.lemmas.List.Elements.{All-contains, All-map, All-push, All-filter, All-weaker, Contains-get_or}
use Rattle.std.proofs.lemmas.List.Kept.{AllPairs-filter}
use Rattle.std.proofs.lemmas.List.Quantifiers.{all_pairs_push}
use Rattle.std.proofs.lemmas.Bool.{eqb-true, eq-eqb, ne_eqb, and_parts, not-true, eqb-false, or_left, and_from}
use Rattle.fk_base.specs.declared.purpose.Purpose.{Purpose}
use Rattle.fk_base.specs.declared.purpose.Purpose.TheVariants.{Open, Close}
use Rattle.fk_trace.specs.Trace.{Event, Item, Child, children, running, open_runs, close_runs, is_open_of, is_close_of}
use Rattle.fk_trace.specs.Trace.Event.{Turn, Began, StartFailed, Ended}
use Rattle.fk_trace.specs.Idle.{is_clean}
use Rattle.fk_trace.specs.Orderly.{is_attempted}
use Rattle.fk_trace.proofs.Lists.{list_any-find, list_any-at, list_any-from, list_any-map, list_any-none, map-step, same_by_key, filter-map, find-filter_kept, Contains-map, All-by}
use Rattle.fk_trace.proofs.Running.{orderly-quiet, orderly-began, orderly-ended}
use Rattle.fk_cycle.specs.Kept.{Kept, fresh, noted_turn, noted_begun, noted_not_begun, noted_ended, may_begin, has_running, is_kept}
use Rattle.fk_cycle.specs.Stands.{Obligation, Stands, kept_of, record_of, is_owed, without}
use Rattle.fk_cycle.proofs.KeptLemmas.{kept_of-turn, kept_of-not_begun, kept_of-began, kept_of-ended, none-mapped}
use Rattle.fk_cycle.proofs.FreshLemmas.{kept_of-opened}
use Rattle.std.proofs.lemmas.List.Folds.{list_any-append}

abbrev item_of : Event → ℕ → ℕ → Item
item_of event moments faults = record { event = event; moments = moments; faults = faults }

-- a clean close of it runs only while its open doesn't
abbrev IsParted : Kept → Type 0
IsParted kept = kept.close ≡ Some true → kept.open_runs ≡ false

pub Stands-new : Stands [] [] [] []
Stands-new =
    record {
      orderly = record { numbered = λ i j d l m. absurd (omega arith); apart = λ i j d l m. absurd (omega arith) };
      moments = refl;
      distinct = λ i j d l m. absurd (omega arith);
      kept = refl;
      held = λ k d l. absurd (omega arith);
      parted = λ k d l. absurd (omega arith);
    }

may_begin-id : (purpose : Purpose) (kept : Kept) → may_begin purpose kept ≡ true → (record_of purpose == kept.id) ≡ true
may_begin-id (Open id) kept e = (and_parts (id == kept.id) (not kept.open_runs) (and_parts (id == kept.id && not kept.open_runs) (is_none kept.close) e).0).0
may_begin-id (Close id) kept e = (and_parts (id == kept.id) (is_none kept.close) e).0

may_open : (id other : ℕ) (open_runs : Bool) (close : Option Bool) → ((other == id) && not open_runs && is_none close) ≡ true → ((other == id) ≡ true) × (open_runs ≡ false) × (is_none close ≡ true)
may_open id other open_runs close e =
    let a = and_parts ((other == id) && not open_runs) (is_none close) e in
    let b = and_parts (other == id) (not open_runs) a.0 in
    (b.0, not-true open_runs b.1, a.1)

none_is : {X : Type 0} (o : Option X) → is_none o ≡ true → o ≡ None
none_is None e = refl
none_is (Some x) e = absurd cc

some_same : {x y : Bool} → Some x ≡ Some y → x ≡ y
some_same e = cc

-- a child that may begin leaves the open apart from a clean close
parted-begun : (purpose : Purpose) (kept : Kept) → ((record_of purpose == kept.id) ≡ true → may_begin purpose kept ≡ true) → IsParted kept → IsParted (noted_begun purpose kept)
parted-begun (Open id) kept may parted =
    (elim (id == kept.id) as (λ b. (id == kept.id) ≡ b → IsParted (cond b (record kept { open_runs = true }) kept)) [
      | true ↦ λ e clean. let none = none_is kept.close (may_open kept.id id kept.open_runs kept.close (may e)).2 in absurd cc
      | false ↦ λ e. parted
    ]) refl
parted-begun (Close id) kept may parted =
    elim (id == kept.id) as (λ b. IsParted (cond b (record kept { close = Some (not kept.open_runs); tried = true }) kept))
    [ true ↦ λ clean. not-true kept.open_runs (some_same clean) | false ↦ parted ]

parted-not_begun : (purpose : Purpose) (kept : Kept) → IsParted kept → IsParted (noted_not_begun purpose kept)
parted-not_begun (Open id) kept parted = parted
parted-not_begun (Close id) kept parted = elim (id == kept.id) as (λ b. IsParted (cond b (record kept { tried = true }) kept)) [ true ↦ parted | false ↦ parted ]

parted-ended : (purpose : Purpose) (good : Bool) (moment : ℕ) (kept : Kept) → IsParted kept → IsParted (noted_ended purpose good moment kept)
parted-ended (Open id) good moment kept parted =
    elim (id == kept.id) as (λ b. IsParted (cond b (record kept { open_runs = false }) kept)) [ true ↦ λ clean. refl | false ↦ parted ]
parted-ended (Close id) good moment kept parted =
    elim (id == kept.id) as (λ b. IsParted (cond b (record kept { close = None; last_close = Some (record { good = good; moment = moment }) }) kept))
    [ true ↦ λ clean. absurd cc | false ↦ parted ]

is_owed-without : (id other : ℕ) (live : List Obligation) → other ≢ id → is_owed live other ≡ true → is_owed (without id live) other ≡ true
is_owed-without id other live differ owed =
    let kept = find-filter_kept (λ (o : Obligation). o.id == other) (λ o. not (o.id == id)) live (λ o m t.
    let e = eqb-true o.id other t in
    ap not (ne_eqb o.id id (λ same. differ (sym e ∙ same)))) in
    list_any-find (λ (o : Obligation). o.id == other) (without id live) ∙ ap is_some kept ∙ sym (list_any-find (λ (o : Obligation). o.id == other) live) ∙ owed

is_none-mapped : {X Y : Type 0} (f : X → Y) (o : Option X) → is_some o ≡ false → is_none (option_map f o) ≡ true
is_none-mapped f None e = refl
is_none-mapped f (Some x) e = absurd cc

is_some-mapped : {X Y : Type 0} (f : X → Y) (o : Option X) → is_some o ≡ true → is_some (option_map f o) ≡ true
is_some-mapped f None e = absurd cc
is_some-mapped f (Some x) e = refl

none-close : (past : List Item) (id : ℕ) → close_runs past id ≡ false → is_none (option_map (λ (child : Child). is_clean past child.number id) (find (λ child. is_close_of id child.purpose) (running past))) ≡ true
none-close past id e =
    is_none-mapped (λ (child : Child). is_clean past child.number id) (find (λ child. is_close_of id child.purpose) (running past))
    (sym (list_any-find (λ (child : Child). is_close_of id child.purpose) (running past)) ∙ e)

-- what is kept of a record tells each child of it that runs
has_running-kept : (past : List Item) (ends : List ℕ) (owed : Obligation) (child : Child) → Contains (running past) child → (purpose : Purpose) → child.purpose ≡ purpose → record_of purpose ≡ owed.id → has_running purpose (kept_of past ends owed) ≡ true
has_running-kept past ends owed child m (Open id) p e =
    and_from (id == owed.id) (open_runs past owed.id) (eq-eqb id owed.id e)
    (list_any-from (λ (c : Child). is_open_of owed.id c.purpose) (running past) child m (ap (is_open_of owed.id) p ∙ eq-eqb id owed.id e))
has_running-kept past ends owed child m (Close id) p e =
    let runs = list_any-from (λ (c : Child). is_close_of owed.id c.purpose) (running past) child m (ap (is_close_of owed.id) p ∙ eq-eqb id owed.id e) in
    and_from (id == owed.id) (is_some (kept_of past ends owed).close) (eq-eqb id owed.id e)
    (is_some-mapped (λ (c : Child). is_clean past c.number owed.id) (find (λ c. is_close_of owed.id c.purpose) (running past)) (sym (list_any-find (λ (c : Child). is_close_of owed.id c.purpose) (running past)) ∙ runs))

module _ (machine : List Kept) (past : List Item) (ends : List ℕ) (live : List Obligation) (stands : Stands machine past ends live) where
  -- what holds of what is kept for each record that is owed holds of all that is kept
  all-kept : (P : Kept → Type 0) → ((owed : Obligation) → Contains live owed → P (kept_of past ends owed)) → All P machine
  all-kept P h = rw stands.kept (All-map P (kept_of past ends) live (All-by (λ owed. P (kept_of past ends owed)) live h))

  pub parted-at : (owed : Obligation) → Contains live owed → IsParted (kept_of past ends owed)
  parted-at owed m =
      let all : All IsParted (map (kept_of past ends) live) = rw stands.kept at stands.parted in
      All-contains IsParted (map (kept_of past ends) live) (kept_of past ends owed) all (Contains-map (kept_of past ends) live owed m)

  pub is_kept-owed : (id : ℕ) → is_kept id machine ≡ is_owed live id
  is_kept-owed id = rw stands.kept (list_any-map (kept_of past ends) (λ (kept : Kept). kept.id == id) live)

  pub Stands-turn : (number moments faults : ℕ) → Stands (map noted_turn machine) (item_of (Turn number) moments faults ∷ past) ends live
  Stands-turn number moments faults =
      record {
        orderly = orderly-quiet past (item_of (Turn number) moments faults) (append-nil (children past)) (append-nil (running past)) stands.orderly;
        moments = stands.moments ∙ omega arith;
        distinct = stands.distinct;
        kept = ap (map noted_turn) stands.kept ∙ sym (map-step (kept_of (item_of (Turn number) moments faults ∷ past) ends) (kept_of past ends) noted_turn live (λ owed m. kept_of-turn past ends owed number moments faults));
        held = rw append-nil stands.held;
        parted = All-map IsParted noted_turn machine stands.parted;
      }

  pub Stands-not_begun : (purpose : Purpose) (words : List (List ℕ)) (moments faults : ℕ) → Stands (map (noted_not_begun purpose) machine) (item_of (StartFailed purpose words) moments faults ∷ past) ends live
  Stands-not_begun purpose words moments faults =
      record {
        orderly = orderly-quiet past (item_of (StartFailed purpose words) moments faults) (append-nil (children past)) (append-nil (running past)) stands.orderly;
        moments = stands.moments ∙ omega arith;
        distinct = stands.distinct;
        kept = ap (map (noted_not_begun purpose)) stands.kept
            ∙ sym (map-step (kept_of (item_of (StartFailed purpose words) moments faults ∷ past) ends) (kept_of past ends) (noted_not_begun purpose) live (λ owed m. kept_of-not_begun past ends owed purpose words moments faults));
        held = rw append-nil stands.held;
        parted = All-map IsParted (noted_not_begun purpose) machine (all-kept (λ kept. IsParted (noted_not_begun purpose kept)) (λ owed m. parted-not_begun purpose (kept_of past ends owed) (parted-at owed m)));
      }

  -- the obligation for whose record a child may begin
  may-at : (purpose : Purpose) → list_any (may_begin purpose) machine ≡ true → (owed : Obligation) × Contains live owed × (may_begin purpose (kept_of past ends owed) ≡ true)
  may-at purpose h =
      let some : list_any (λ owed. may_begin purpose (kept_of past ends owed)) live ≡ true = sym (list_any-map (kept_of past ends) (may_begin purpose) live) ∙ (rw stands.kept at h) in
      list_any-at (λ owed. may_begin purpose (kept_of past ends owed)) live some

  -- which holds for each obligation of that record, since no record is owed twice
  pub may-for : (purpose : Purpose) → list_any (may_begin purpose) machine ≡ true → (owed : Obligation) → Contains live owed → (record_of purpose == owed.id) ≡ true → may_begin purpose (kept_of past ends owed) ≡ true
  may-for purpose h owed m e =
      let some = may-at purpose h in
      let named : record_of purpose ≡ some.0.id = eqb-true (record_of purpose) some.0.id (may_begin-id purpose (kept_of past ends some.0) some.2) in
      let same : some.0 ≡ owed = same_by_key (λ (o : Obligation). o.id) live stands.distinct some.0 owed some.1 m (sym named ∙ eqb-true (record_of purpose) owed.id e) in
      subst (λ (o : Obligation). may_begin purpose (kept_of past ends o) ≡ true) same some.2

  -- none that runs has a purpose for which a child may begin
  none-runs : (purpose : Purpose) → list_any (may_begin purpose) machine ≡ true → (child : Child) → Contains (running past) child → child.purpose ≢ purpose
  none-runs (Open id) h child m e =
      let some = may-at (Open id) h in
      let may = may_open some.0.id id (open_runs past some.0.id) (kept_of past ends some.0).close some.2 in
      let runs = list_any-from (λ (c : Child). is_open_of some.0.id c.purpose) (running past) child m (ap (is_open_of some.0.id) e ∙ may.0) in
      absurd (let not_open = may.1 in cc)
  none-runs (Close id) h child m e =
      let some = may-at (Close id) h in
      let may = and_parts (id == some.0.id) (is_none (kept_of past ends some.0).close) some.2 in
      let none = none-mapped (λ (c : Child). is_clean past c.number some.0.id) (find (λ c. is_close_of some.0.id c.purpose) (running past)) may.1 in
      let runs = list_any-from (λ (c : Child). is_close_of some.0.id c.purpose) (running past) child m (ap (is_close_of some.0.id) e ∙ may.0) in
      let found = sym (list_any-find (λ (c : Child). is_close_of some.0.id c.purpose) (running past)) ∙ runs in
      absurd (let gone = ap is_some none in cc)

  owed-named : (purpose : Purpose) → list_any (may_begin purpose) machine ≡ true → is_owed live (record_of purpose) ≡ true
  owed-named purpose h =
      let some = may-at purpose h in
      list_any-from (λ (owed : Obligation). owed.id == record_of purpose) live some.0 some.1
      (eq-eqb some.0.id (record_of purpose) (sym (eqb-true (record_of purpose) some.0.id (may_begin-id purpose (kept_of past ends some.0) some.2))))

  pub Stands-began : (purpose : Purpose) → list_any (may_begin purpose) machine ≡ true → (number : ℕ) → All (λ child. child.number < number) (children past) → (words : List (List ℕ)) (moments faults : ℕ) → Stands (map (noted_begun purpose) machine) (item_of (Began number purpose words) moments faults ∷ past) ends live
  Stands-began purpose h number below words moments faults =
      record {
        orderly = orderly-began past number purpose words moments faults below (none-runs purpose h) stands.orderly;
        moments = stands.moments ∙ omega arith;
        distinct = stands.distinct;
        kept = ap (map (noted_begun purpose)) stands.kept
            ∙ sym (map-step (kept_of (item_of (Began number purpose words) moments faults ∷ past) ends) (kept_of past ends) (noted_begun purpose) live
            (λ owed m. kept_of-began past ends owed number words moments faults below purpose (may-for purpose h owed m)));
        held = All-push (λ child. is_owed live (record_of child.purpose) ≡ true) (running past) (record { number = number; purpose = purpose }) stands.held (owed-named purpose h);
        parted = All-map IsParted (noted_begun purpose) machine (all-kept (λ kept. IsParted (noted_begun purpose kept)) (λ owed m. parted-begun purpose (kept_of past ends owed) (may-for purpose h owed m) (parted-at owed m)));
      }

  pub Stands-ended : (purpose : Purpose) (good : Bool) (moment number : ℕ) → Contains (running past) (record { number = number; purpose = purpose }) → (moments faults : ℕ) → Stands (map (noted_ended purpose good moment) machine) (item_of (Ended number good) moments faults ∷ past) (moment ∷ ends) live
  Stands-ended purpose good moment number runs moments faults =
      record {
        orderly = orderly-ended past number good moments faults stands.orderly;
        moments = let same = stands.moments in omega arith;
        distinct = stands.distinct;
        kept = ap (map (noted_ended purpose good moment)) stands.kept
            ∙ sym (map-step (kept_of (item_of (Ended number good) moments faults ∷ past) (moment ∷ ends)) (kept_of past ends) (noted_ended purpose good moment) live
            (λ owed m. kept_of-ended past ends owed number good moment moments faults stands.orderly purpose runs));
        held = rw append-nil (All-filter (λ child. not (child.number == number)) (λ child. is_owed live (record_of child.purpose) ≡ true) (running past) stands.held);
        parted = All-map IsParted (noted_ended purpose good moment) machine (all-kept (λ kept. IsParted (noted_ended purpose good moment kept)) (λ owed m. parted-ended purpose good moment (kept_of past ends owed) (parted-at owed m)));
      }

  -- a record of which no child runs may be forgotten
  pub Stands-without : (id : ℕ) → ((child : Child) → Contains (running past) child → record_of child.purpose ≢ id) → Stands (filter (λ kept. not (kept.id == id)) machine) past ends (without id live)
  Stands-without id gone =
      record {
        orderly = stands.orderly;
        moments = stands.moments;
        distinct = AllPairs-filter (λ a b. a.id ≢ b.id) (λ (owed : Obligation). not (owed.id == id)) live stands.distinct;
        kept = rw stands.kept (filter-map (kept_of past ends) (λ (kept : Kept). not (kept.id == id)) live);
        held = All-by (λ child. is_owed (without id live) (record_of child.purpose) ≡ true) (running past) (λ child m.
            let owed = All-contains (λ c. is_owed live (record_of c.purpose) ≡ true) (running past) child stands.held m in
            is_owed-without id (record_of child.purpose) live (gone child m) owed);
        parted = All-filter (λ kept. not (kept.id == id)) IsParted machine stands.parted;
      }

  pub Stands-opened : (id due : ℕ) → is_kept id machine ≡ false → is_attempted past id ≡ false → Stands (machine ++ fresh id due ∷ []) past ends (live ++ record { id = id; due = due } ∷ [])
  Stands-opened id due unknown untried =
      let unowed : is_owed live id ≡ false = sym (is_kept-owed id) ∙ unknown in
      record {
        orderly = stands.orderly;
        moments = stands.moments;
        distinct = all_pairs_push (λ a b. a.id ≢ b.id) live (record { id = id; due = due }) stands.distinct (λ k d l same.
            let owed : Obligation = get_or live k d in
            eqb-false owed.id id (list_any-none (λ (o : Obligation). o.id == id) live unowed owed (Contains-get_or live k d l)) same);
        kept = rw (stands.kept, map-append) (ap (λ kept. map (kept_of past ends) live ++ kept ∷ []) (sym (kept_of-opened past ends id due untried)));
        held = All-weaker (λ child. is_owed live (record_of child.purpose) ≡ true) (λ child. is_owed (live ++ record { id = id; due = due } ∷ []) (record_of child.purpose) ≡ true)
            (λ child h. list_any-append (λ (owed : Obligation). owed.id == record_of child.purpose) live (record { id = id; due = due } ∷ []) ∙ or_left (is_owed live (record_of child.purpose)) (is_owed (record { id = id; due = due } ∷ []) (record_of child.purpose)) h)
            (running past) stands.held;
        parted = All-push IsParted machine (fresh id due) stands.parted (λ clean. refl);
      }

  -- a test of what is kept passes where it passes for a record that is owed
  any-kept : (p : Kept → Bool) (id : ℕ) → is_owed live id ≡ true → ((owed : Obligation) → owed.id ≡ id → p (kept_of past ends owed) ≡ true) → list_any p machine ≡ true
  any-kept p id owed h =
      let some = list_any-at (λ (o : Obligation). o.id == id) live owed in
      let passes = list_any-from (λ o. p (kept_of past ends o)) live some.0 some.1 (h some.0 (eqb-true some.0.id id some.2)) in
      ap (list_any p) stands.kept ∙ list_any-map (kept_of past ends) p live ∙ passes

  pub runs-kept : (child : Child) → Contains (running past) child → list_any (has_running child.purpose) machine ≡ true
  runs-kept child m =
      let owed = All-contains (λ c. is_owed live (record_of c.purpose) ≡ true) (running past) child stands.held m in
      any-kept (has_running child.purpose) (record_of child.purpose) owed (λ o e. has_running-kept past ends o child m child.purpose refl (sym e))

  pub open-begins : (id : ℕ) → is_owed live id ≡ true → open_runs past id ≡ false → close_runs past id ≡ false → list_any (may_begin (Open id)) machine ≡ true
  open-begins id owed opens closes =
      any-kept (may_begin (Open id)) id owed (λ o e. rw e (rw (eq-eqb id id refl, opens, none-close past id closes) refl))

  pub close-begins : (id : ℕ) → is_owed live id ≡ true → close_runs past id ≡ false → list_any (may_begin (Close id)) machine ≡ true
  close-begins id owed closes =
      any-kept (may_begin (Close id)) id owed (λ o e. rw e (rw (eq-eqb id id refl, none-close past id closes) refl))
