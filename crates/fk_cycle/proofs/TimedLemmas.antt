-- What waits in the timer is what the records kept are due at, and the first of them that may be closed.
use Rattle.std.proofs.Common.{◌≡◌, ℕ, ◌<◌, Bool, true, false, not, ◌==◌, ◌&&◌, cond, List, [], ◌∷◌, ◌++◌, map, take, drop, Option, Some, None, ◌⊎◌, inl, inr, refl, sym, ap, ◌∙◌, subst, arith}
use Rattle.std.specs.Prelude.{nat_le, is_none}
use Rattle.std.specs.List.{filter, find, position_or_len, All, Contains}
use Rattle.std.specs.Option.{option_map}
use Rattle.std.proofs.lemmas.Bool.Decides.{nat_tests}
use Rattle.std.proofs.lemmas.Bool.{eqb-true, eq-eqb, eqb-false, and_parts, false_from_ne_true}
use Rattle.std.proofs.lemmas.List.{take-append-drop}
use Rattle.std.proofs.lemmas.List.Elements.{All-contains, Contains-append_left, Contains-append_right, Contains-append_cases, Contains-push, Contains-push_cases}
use Rattle.fk_base.specs.declared.purpose.Purpose.{Purpose}
use Rattle.fk_base.specs.declared.purpose.Purpose.TheVariants.{Open, Close}
use Rattle.fk_trace.specs.Idle.{ended_well, rests}
use Rattle.fk_trace.proofs.Lists.{Contains-head, Contains-tail, Contains-cases, Contains-filter, Contains-map, list_any-at, list_any-from, list_any-none, list_any-map, find-at, All-by}
use Rattle.fk_timer.specs.Schedule.{Entry, precedes, holds, with_entry, without, IsTakenFirst}
use Rattle.fk_cycle.specs.Kept.{Kept, noted_begun, noted_not_begun, noted_ended, is_ready, is_kept}
use Rattle.fk_cycle.specs.Private.{entry_of, Waits, IsTimed, is_ready_at, IsFirstWaiting}
use Rattle.fk_cycle.specs.Ranks.{IsFirstReady}

not_due_yet : (due moment : ℕ) → moment < due → nat_le due moment ≡ false
not_due_yet due moment later = grind (arith, nat_tests)

module _ (x : Entry) (entries : List Entry) where
  pub Contains-in : (y : Entry) → Contains entries y → Contains (with_entry x entries) y
  Contains-in y m =
      let place = position_or_len (λ other. precedes x other) entries in
      let split : Contains (take place entries ++ drop place entries) y = subst (λ (es : List Entry). Contains es y) (sym (take-append-drop place entries)) m in
      elim (Contains-append_cases (take place entries) (drop place entries) y split) [
        | inl f ↦ Contains-append_left (take place entries) (x ∷ drop place entries) y f
        | inr r ↦ Contains-append_right (take place entries) (x ∷ drop place entries) y (Contains-tail x (drop place entries) y r)
      ]

  pub Contains-put : Contains (with_entry x entries) x
  Contains-put =
      let place = position_or_len (λ other. precedes x other) entries in
      Contains-append_right (take place entries) (x ∷ drop place entries) x (Contains-head x (drop place entries))

  pub Contains-out : (y : Entry) → Contains (with_entry x entries) y → (x ≡ y) ⊎ Contains entries y
  Contains-out y m =
      let place = position_or_len (λ other. precedes x other) entries in
      elim (Contains-append_cases (take place entries) (x ∷ drop place entries) y m) [
        | inl f ↦ inr (subst (λ (es : List Entry). Contains es y) (take-append-drop place entries) (Contains-append_left (take place entries) (drop place entries) y f))
        | inr r ↦ elim (Contains-cases x (drop place entries) y r) [
          | inl e ↦ inl e
          | inr t ↦ inr (subst (λ (es : List Entry). Contains es y) (take-append-drop place entries) (Contains-append_right (take place entries) (drop place entries) y t))
        ]
      ]

Contains-keep : (q : Entry → Bool) (xs : List Entry) (x : Entry) → Contains xs x → q x ≡ true → Contains (filter q xs) x
Contains-keep q [] x m t = m
Contains-keep q (y ∷ ys) x m t =
    (elim (q y) as (λ b. q y ≡ b → Contains (cond b (y ∷ filter q ys) (filter q ys)) x) [
      | true ↦ λ e. elim (Contains-cases y ys x m) [
        | inl s ↦ subst (λ (z : Entry). Contains (y ∷ filter q ys) z) s (Contains-head y (filter q ys))
        | inr k ↦ Contains-tail y (filter q ys) x (Contains-keep q ys x k t)
      ]
      | false ↦ λ e. elim (Contains-cases y ys x m) [ inl s ↦ absurd (let w = ap q s in cc) | inr k ↦ Contains-keep q ys x k t ]
    ]) refl

Contains-passes : (q : Entry → Bool) (xs : List Entry) (x : Entry) → Contains (filter q xs) x → q x ≡ true
Contains-passes q [] x m = absurd (omega (arith, m.1))
Contains-passes q (y ∷ ys) x m =
    (elim (q y) as (λ b. q y ≡ b → Contains (cond b (y ∷ filter q ys) (filter q ys)) x → q x ≡ true) [
      | true ↦ λ e n. elim (Contains-cases y (filter q ys) x n) [ inl s ↦ ap q (sym s) ∙ e | inr k ↦ Contains-passes q ys x k ]
      | false ↦ λ e n. Contains-passes q ys x n
    ]) refl m

pub none-waits : (dues entries : List Entry) → Waits dues entries → (id : ℕ) → holds id dues ≡ false → holds id entries ≡ false
none-waits dues entries waits id none =
    false_from_ne_true (holds id entries) (λ t. absurd (
    let at = list_any-at (λ (entry : Entry). entry.id == id) entries t in
    let w = subst (λ (n : ℕ). holds n dues ≡ true) (eqb-true at.0.id id at.2) (waits.only at.0 at.1) in cc))

pub IsTimed-opened : (x : Entry) (dues entries : List Entry) → holds x.id dues ≡ false → IsTimed dues entries → IsTimed (dues ++ x ∷ []) (with_entry x entries)
IsTimed-opened x dues entries unknown timed =
    record {
      each = λ due m. elim (Contains-push_cases dues x due m) [
        | inl k ↦ Contains-in x entries due (timed.each due k)
        | inr e ↦ subst (λ (y : Entry). Contains (with_entry x entries) y) e (Contains-put x entries)
      ];
      waits = record {
        only = λ entry m. elim (Contains-out x entries entry m) [
          | inl e ↦ list_any-from (λ (due : Entry). due.id == entry.id) (dues ++ x ∷ []) x (Contains-push dues x) (eq-eqb x.id entry.id (ap (λ (y : Entry). y.id) e))
          | inr k ↦
              let at = list_any-at (λ (due : Entry). due.id == entry.id) dues (timed.waits.only entry k) in
              list_any-from (λ (due : Entry). due.id == entry.id) (dues ++ x ∷ []) at.0 (Contains-append_left dues (x ∷ []) at.0 at.1) at.2
        ];
        agree = λ due entry m n same. elim (Contains-push_cases dues x due m) [
          | inl d ↦ elim (Contains-out x entries entry n) [
            | inl e ↦ absurd (eqb-false due.id x.id (list_any-none (λ (d : Entry). d.id == x.id) dues unknown due d) (same ∙ sym (ap (λ (y : Entry). y.id) e)))
            | inr k ↦ timed.waits.agree due entry d k same
          ]
          | inr e ↦ elim (Contains-out x entries entry n) [
            | inl f ↦ sym e ∙ f
            | inr k ↦ absurd (
                let number : entry.id ≡ x.id = sym same ∙ sym (ap (λ (y : Entry). y.id) e) in
                let w = subst (λ (n : ℕ). holds n dues ≡ true) number (timed.waits.only entry k) in cc)
          ]
        ];
      };
    }

pub IsTimed-settled : (id : ℕ) (dues entries : List Entry) → IsTimed dues entries → IsTimed (without id dues) (without id entries)
IsTimed-settled id dues entries timed =
    let other : Entry → Bool = λ entry. not (entry.id == id) in
    record {
      each = λ due m. Contains-keep other entries due (timed.each due (Contains-filter other dues due m)) (Contains-passes other dues due m);
      waits = record {
        only = λ entry m.
            let at = list_any-at (λ (due : Entry). due.id == entry.id) dues (timed.waits.only entry (Contains-filter other entries entry m)) in
            let passes = ap (λ (n : ℕ). not (n == id)) (eqb-true at.0.id entry.id at.2) ∙ Contains-passes other entries entry m in
            list_any-from (λ (due : Entry). due.id == entry.id) (without id dues) at.0 (Contains-keep other dues at.0 at.1 passes) at.2;
        agree = λ due entry m n same. timed.waits.agree due entry (Contains-filter other dues due m) (Contains-filter other entries entry n) same;
      };
    }

-- what is noted of the records leaves their dues
pub dues-noted : (f : Kept → Kept) → ((kept : Kept) → entry_of (f kept) ≡ entry_of kept) → (machine : List Kept) → map entry_of (map f machine) ≡ map entry_of machine
dues-noted f same [] = refl
dues-noted f same (kept ∷ machine) =
    let ih = dues-noted f same machine in
    let here = same kept in cc

pub due-begun : (purpose : Purpose) (kept : Kept) → entry_of (noted_begun purpose kept) ≡ entry_of kept
due-begun (Open id) kept = elim (id == kept.id) as (λ b. entry_of (cond b (record kept { open_runs = true }) kept) ≡ entry_of kept) [ true ↦ refl | false ↦ refl ]
due-begun (Close id) kept = elim (id == kept.id) as (λ b. entry_of (cond b (record kept { close = Some (not kept.open_runs); tried = true }) kept) ≡ entry_of kept) [ true ↦ refl | false ↦ refl ]

pub due-not_begun : (purpose : Purpose) (kept : Kept) → entry_of (noted_not_begun purpose kept) ≡ entry_of kept
due-not_begun (Open id) kept = refl
due-not_begun (Close id) kept = elim (id == kept.id) as (λ b. entry_of (cond b (record kept { tried = true }) kept) ≡ entry_of kept) [ true ↦ refl | false ↦ refl ]

pub due-ended : (purpose : Purpose) (good : Bool) (moment : ℕ) (kept : Kept) → entry_of (noted_ended purpose good moment kept) ≡ entry_of kept
due-ended (Open id) good moment kept = elim (id == kept.id) as (λ b. entry_of (cond b (record kept { open_runs = false }) kept) ≡ entry_of kept) [ true ↦ refl | false ↦ refl ]
due-ended (Close id) good moment kept =
    elim (id == kept.id) as (λ b. entry_of (cond b (record kept { close = None; last_close = Some (record { good = good; moment = moment }) }) kept) ≡ entry_of kept) [ true ↦ refl | false ↦ refl ]

pub id-begun : (purpose : Purpose) (kept : Kept) → (noted_begun purpose kept).id ≡ kept.id
id-begun purpose kept = ap (λ (entry : Entry). entry.id) (due-begun purpose kept)

pub id-not_begun : (purpose : Purpose) (kept : Kept) → (noted_not_begun purpose kept).id ≡ kept.id
id-not_begun purpose kept = ap (λ (entry : Entry). entry.id) (due-not_begun purpose kept)

pub Waits-rest : (dues : List Entry) (entry : Entry) (entries : List Entry) → Waits dues (entry ∷ entries) → Waits dues entries
Waits-rest dues entry entries waits =
    record {
      only = λ other m. waits.only other (Contains-tail entry entries other m);
      agree = λ due other m n same. waits.agree due other m (Contains-tail entry entries other n) same;
    }

module _ (moment : ℕ) (machine : List Kept) where
  ready_at : (kept : Kept) → Contains machine kept → is_ready moment kept ≡ true → is_ready_at moment machine kept.id ≡ true
  ready_at kept m t = list_any-from (λ (other : Kept). other.id == kept.id && is_ready moment other) machine kept m (rw (eq-eqb kept.id kept.id refl, t) refl)

  is_due_by : (kept : Kept) → is_ready moment kept ≡ true → nat_le kept.due moment ≡ true
  is_due_by kept t =
      let rest : Bool = is_none kept.close && not (kept.open_runs && ended_well kept.last_close) && not (rests kept.last_close moment) in
      let parts = and_parts (rest && nat_le kept.due moment) (not kept.tried) t in
      let inner = and_parts rest (nat_le kept.due moment) parts.0 in inner.1

  pub none-due : (entries : List Entry) → Waits (map entry_of machine) entries → All (λ entry. moment < entry.moment) entries → IsFirstWaiting moment machine entries None
  none-due entries waits all =
      λ entry m. false_from_ne_true (is_ready_at moment machine entry.id) (λ t. absurd (
      let at = list_any-at (λ (kept : Kept). kept.id == entry.id && is_ready moment kept) machine t in
      let parts = and_parts (at.0.id == entry.id) (is_ready moment at.0) at.2 in
      let same : entry_of at.0 ≡ entry = waits.agree (entry_of at.0) entry (Contains-map entry_of machine at.0 at.1) m (eqb-true at.0.id entry.id parts.0) in
      let later : moment < entry.moment = All-contains (λ (entry : Entry). moment < entry.moment) entries entry all m in
      let early = not_due_yet at.0.due moment (subst (λ (e : Entry). moment < e.moment) (sym same) later) in
      let due = is_due_by at.0 parts.1 in cc))

  pub first_ready : (entries : List Entry) → IsTimed (map entry_of machine) entries → (first : Option ℕ) → IsFirstWaiting moment machine entries first → IsFirstReady moment machine first
  first_ready entries timed None h =
      All-by (λ kept. is_ready moment kept ≡ false) machine (λ kept m. false_from_ne_true (is_ready moment kept) (λ t. absurd (
      let ready = ready_at kept m t in
      let none = h (entry_of kept) (timed.each (entry_of kept) (Contains-map entry_of machine kept m)) in cc)))
  first_ready entries timed (Some id) h =
      let at = list_any-at (λ (kept : Kept). kept.id == id && is_ready moment kept) machine h.3 in
      let parts = and_parts (at.0.id == id) (is_ready moment at.0) at.2 in
      let number = eqb-true at.0.id id parts.0 in
      let same : entry_of at.0 ≡ h.0 = timed.waits.agree (entry_of at.0) h.0 (Contains-map entry_of machine at.0 at.1) h.1 (number ∙ sym h.2) in (
        at.0,
        at.1,
        number,
        parts.1,
        All-by (λ other. is_ready moment other ≡ true → precedes (entry_of other) (entry_of at.0) ≡ false) machine (λ other m t.
            ap (λ (x : Entry). precedes (entry_of other) x) same ∙ h.4 (entry_of other) (timed.each (entry_of other) (Contains-map entry_of machine other m)) (ready_at other m t)),
      )

abbrev pub entry_at : ℕ → ℕ → Entry
entry_at id moment = record { id = id; moment = moment }

-- what the timer gave out, of what waits for these records
module _ (machine : List Kept) (at id : ℕ) (old new : List Entry) (taken : IsTakenFirst at id old new) (waits : Waits (map entry_of machine) old) where
  in_front : Waits (map entry_of machine) (taken.entry ∷ new)
  in_front = subst (Waits (map entry_of machine)) taken.taken waits

  pub Waits-taken : Waits (map entry_of machine) new
  Waits-taken = Waits-rest (map entry_of machine) taken.entry new in_front

  pub is_kept-taken : is_kept id machine ≡ true
  is_kept-taken =
      sym (list_any-map entry_of (λ (entry : Entry). entry.id == id) machine)
      ∙ ap (λ (n : ℕ). holds n (map entry_of machine)) (sym taken.number) ∙ in_front.only taken.entry (Contains-head taken.entry new)

  pub due-taken : (due : ℕ) → option_map (λ (kept : Kept). kept.due) (find (λ (kept : Kept). kept.id == id) machine) ≡ Some due → due ≡ taken.entry.moment
  due-taken due found =
      let at = find-at (λ (kept : Kept). kept.id == id) machine is_kept-taken in
      let number : at.0.id ≡ id = eqb-true at.0.id id at.2 in
      let same : entry_of at.0 ≡ taken.entry = in_front.agree (entry_of at.0) taken.entry (Contains-map entry_of machine at.0 at.1) (Contains-head taken.entry new) (number ∙ sym taken.number) in
      let some : Some due ≡ Some at.0.due = sym found ∙ ap (option_map (λ (kept : Kept). kept.due)) at.3 in
      let due_is : due ≡ at.0.due = cc in
      due_is ∙ ap (λ (entry : Entry). entry.moment) same
