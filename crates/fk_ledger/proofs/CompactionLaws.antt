-- A journal that begins anew, as a stretch whose one change is its Floor.
use Rattle.std.proofs.Common.{◌≡◌, ℕ, ◌+◌, Bool, true, false, cond, List, [], ◌∷◌, length, refl, sym, ap, subst, ◌∙◌, arith, inl, inr, Option, Some, None, Ok, Err}
use Rattle.std.specs.Prelude.{Result, is_ok, nat_le, OnOk, IfSome}
use Rattle.std.specs.List.{AllByRecursion, filter_map, cons_option}
use Rattle.std.proofs.lemmas.Bool.{cases_lt}
use Rattle.std.proofs.lemmas.List.{length-map}
use Rattle.fk_base.specs.declared.memory.Failed.{Failed}
use Rattle.fk_host.specs.declared.disk.Area.{Area}
use Rattle.fk_host.specs.Disk.{Areas, Told, IfTold}
use Rattle.fk_trace.specs.declared.change.Change.{Change}
use Rattle.fk_trace.specs.declared.change.Change.TheVariants.{Open, Done, Settled, Floor}
use Rattle.fk_trace.specs.Ledger.{is_open, next_id, kept_by, after_one, IsLedger}
use Rattle.fk_trace.proofs.RiseLaws.{ledger-rise}
use Rattle.fk_journal.specs.Entries.{Content, IsClosedBehind, HoldsEntries, place_behind}
use Rattle.fk_journal.specs.Keeps.{Log, Keeps, HoldsIn, HoldsEither, CopyMoments, IsSettled, selected}
use Rattle.fk_journal.proofs.Told.{past_then, if_told_map, if_told_then}
use Rattle.fk_ledger.specs.Payloads.{content_of, ledger_contents, IsChange}
use Rattle.fk_ledger.specs.Book.{used, live_ids, calls_of_one}
use Rattle.fk_ledger.specs.Holds.{HoldsState, KeepsLedger}
use Rattle.fk_ledger.specs.Stretch.{Stretch}
use Rattle.fk_ledger.specs.Anew.{kept_as, HoldsAll, CopiesOn, FailsOn}
use Rattle.fk_ledger.proofs.AnewLaws.{kept_live}
use Rattle.fk_ledger.proofs.CopyLaws.{holds_then, moments_hold}
use Rattle.fk_ledger.proofs.RoomLaws.{used-place}
use Rattle.fk_ledger.proofs.StretchLaws.{held_state, settled_holds}

-- ---- what was copied before the switch

module _ (a b : Log) (contents : List Content) (s s' : Option Told) (p q : ℕ → Areas → Type 0) (begun : b ≡ record a { is_copying = true; copied_end = 1 })
    (keeps : Keeps b contents s' q) (moments : IfTold s s' (CopyMoments 2 (HoldsIn a.area contents) p q)) where
  module _ (c : Log) (t : Option Told) (r : ℕ → Areas → Type 0) where
    pub with_rest : IfTold s' t (HoldsAll (HoldsIn b.area contents) q r) → IfTold s t (HoldsAll (HoldsIn a.area contents) p r)
    with_rest rest =
        if_told_then s s' t (HoldsAll (HoldsIn a.area contents) p q) (HoldsAll (HoldsIn a.area contents) q r) (HoldsAll (HoldsIn a.area contents) p r)
        (λ x y z one two. holds_then (HoldsIn a.area contents) p q r x y z one two) (moments_hold 2 (HoldsIn a.area contents) p q s s' moments)
        (subst (λ (area : Area). IfTold s' t (HoldsAll (HoldsIn area contents) q r)) (ap (λ (l : Log). l.area) begun) rest)

    pub copied_so_far : (xs : List Content) → CopiesOn b c xs s' t q r → IfTold s t (HoldsAll (HoldsIn a.area contents) p r)
    copied_so_far xs copied = with_rest (copied.moments contents keeps)

    pub failed_so_far : FailsOn b c s' t q r → IfTold s t (HoldsAll (HoldsIn a.area contents) p r)
    failed_so_far failed = with_rest (failed.moments contents keeps)

-- ---- stretches

told_is : (t : Option Told) (z : Told) (P : Told → Told → Type 0) → IfTold t (Some z) P → IfTold t (Some z) (λ y w. P y w × (w ≡ z))
told_is None z P told = told
told_is (Some y) z P told = (told, refl)

module _ (ledger : List Change) where
  held_before : (area : Area) (image : Areas) → AllByRecursion IsChange ledger → IsLedger ledger → HoldsIn area (ledger_contents ledger) image → HoldsState ledger image
  held_before area image each follow held = held_state ledger image (record { entries = held.1; each = each; follow = follow })

  -- a copy that did not come to its switch
  pub failed_anew : (area : Area) (changes : List Change) (s t : Option Told) (p q : ℕ → Areas → Type 0) → KeepsLedger ledger s p → IfTold s t (HoldsAll (HoldsIn area (ledger_contents ledger)) p q)
      → IfTold s t (Stretch ledger changes false p q)
  failed_anew area changes s t p q keeps holds =
      if_told_map s t (HoldsAll (HoldsIn area (ledger_contents ledger)) p q) (Stretch ledger changes false p q)
      (λ x y h. record {
        later = h.later;
        past = h.past;
        each = λ k image behind upto left. (0, held_before area image keeps.each keeps.follow (h.each k image behind upto left));
        all = λ no. absurd (let n : false ≡ true = no in cc);
      }) holds

  module _ (floor next : ℕ) (numbered : next ≡ next_id ledger) (is_floor : IsChange (Floor floor next)) where
    abbrev anew : List Change
    anew = after_one ledger (Floor floor next)

    -- the entries that are copied are those of the ledger that begins anew
    pub anew_contents : ledger_contents anew ≡ content_of (Floor floor next) ∷ ledger_contents (filter_map (kept_as floor (live_ids ledger)) ledger)
    anew_contents = ap (λ (changes : List Change). content_of (Floor floor next) ∷ ledger_contents changes) (kept_live floor ledger)

    kept_each : (changes : List Change) → AllByRecursion IsChange changes → AllByRecursion IsChange (filter_map (kept_by floor ledger) changes)
    kept_each [] each = tt
    kept_each (Open item ∷ changes) each =
        let rest = kept_each changes each.1 in
        elim (is_open ledger item) as (λ b. AllByRecursion IsChange (cons_option (cond b (Some (Open item)) (cond (nat_le floor item.stamp) (Some (Settled item.id item.stamp item.digest)) None)) (filter_map (kept_by floor ledger) changes))) [
          | true ↦ (each.0, rest)
          | false ↦ elim (nat_le floor item.stamp) as (λ c. AllByRecursion IsChange (cons_option (cond c (Some (Settled item.id item.stamp item.digest)) None) (filter_map (kept_by floor ledger) changes))) [
            | true ↦ ((each.0.id, each.0.stamp, each.0.digest), rest)
            | false ↦ rest
          ]
        ]
    kept_each (Done id ∷ changes) each = kept_each changes each.1
    kept_each (Settled id stamp digest ∷ changes) each =
        let rest = kept_each changes each.1 in
        elim (nat_le floor stamp) as (λ c. AllByRecursion IsChange (cons_option (cond c (Some (Settled id stamp digest)) None) (filter_map (kept_by floor ledger) changes))) [
          | true ↦ (each.0, rest)
          | false ↦ rest
        ]
    kept_each (Floor lower first ∷ changes) each = kept_each changes each.1

    pub anew_each : AllByRecursion IsChange ledger → AllByRecursion IsChange anew
    anew_each each = (is_floor, kept_each ledger each)

    pub anew_follows : IsLedger ledger → IsLedger anew
    anew_follows follow = ledger-rise floor next ledger numbered follow

    module _ (copied : List Content) (same : copied ≡ ledger_contents anew) (s t u : Option Told) (p q r : ℕ → Areas → Type 0) (keeps : KeepsLedger ledger s p) where
      held_anew : (area : Area) (image : Areas) → HoldsIn area copied image → HoldsState anew image
      held_anew area image held =
          held_state anew image (record { entries = subst (HoldsEntries (selected image)) same held.1; each = anew_each keeps.each; follow = anew_follows keeps.follow })

      -- the disk keeps the ledger that begins anew
      pub keeps_anew : (log : Log) (result : Result (Unit {0}) Failed) → OnOk result (Keeps log copied u r) → OnOk result (KeepsLedger anew u r)
      keeps_anew log (Ok done) now = record {
        each = anew_each keeps.each;
        follow = anew_follows keeps.follow;
        held = subst (λ (contents : List Content). IfSome u (λ told. IsClosedBehind contents (selected told.areas) × IsSettled told r)) same now.held;
      }
      keeps_anew log (Err fault) now = tt

      pub used_anew_is : (log : Log) (result : Result (Unit {0}) Failed) → OnOk result (Keeps log copied u r) → OnOk result (used anew ≡ log.end + 1)
      used_anew_is log (Ok done) now = used-place anew ∙ ap (λ (contents : List Content). place_behind contents + 1) (sym same) ∙ ap (λ (n : ℕ). n + 1) (sym now.behind)
      used_anew_is log (Err fault) now = tt

      switched : (area : Area) (whole : Bool) (x y z : Told) → HoldsAll (HoldsIn area (ledger_contents ledger)) p q x y → CopyMoments 4 (HoldsEither area (ledger_contents ledger) copied) q r y z
          → (whole ≡ true → (image : Areas) → r z.moments image → HoldsState anew image) → Stretch ledger (Floor floor next ∷ []) whole p r x z
      switched area whole x y z first second all = record {
        later = omega (arith, first.later, second.later);
        past = past_then x.moments y.moments p q r first.later first.past second.past;
        each = λ k image behind upto left.
            elim (cases_lt y.moments k) [
              | inl later ↦ elim (second.each k image later upto left) [
                | inl held ↦ (0, held_before area image keeps.each keeps.follow held)
                | inr held ↦ (1, held_anew _ image held)
              ]
              | inr before ↦ (0, held_before area image keeps.each keeps.follow (first.each k image behind before ((second.past k image before).0 left)))
            ];
        all = all;
      }

      switched_ok : (area : Area) (log : Log) → (v : Option Told) → IfTold s t (HoldsAll (HoldsIn area (ledger_contents ledger)) p q)
          → IfTold t v (CopyMoments 4 (HoldsEither area (ledger_contents ledger) copied) q r) → Keeps log copied v r → IfTold s v (Stretch ledger (Floor floor next ∷ []) true p r)
      switched_ok area log None first second now = tt
      switched_ok area log (Some z) first second now =
          if_told_then s t (Some z) (HoldsAll (HoldsIn area (ledger_contents ledger)) p q) (λ y w. CopyMoments 4 (HoldsEither area (ledger_contents ledger) copied) q r y w × (w ≡ z)) (Stretch ledger (Floor floor next ∷ []) true p r)
          (λ x y w one two. switched area true x y w one two.0 (λ is image left.
          held_state anew image (record {
            entries = subst (HoldsEntries (selected image)) same (settled_holds copied z r now.held.0 now.held.1 image (subst (λ (told : Told). r told.moments image) two.1 left));
            each = anew_each keeps.each;
            follow = anew_follows keeps.follow;
          }))) first (told_is t z (CopyMoments 4 (HoldsEither area (ledger_contents ledger) copied) q r) second)

      -- the calls of a copy with its switch
      pub switched_anew : (area : Area) (log : Log) (result : Result (Unit {0}) Failed) → IfTold s t (HoldsAll (HoldsIn area (ledger_contents ledger)) p q)
          → IfTold t u (CopyMoments 4 (HoldsEither area (ledger_contents ledger) copied) q r) → OnOk result (Keeps log copied u r) → IfTold s u (Stretch ledger (Floor floor next ∷ []) (is_ok result) p r)
      switched_anew area log (Ok done) first second now = switched_ok area log u first second now
      switched_anew area log (Err fault) first second now =
          if_told_then s t u (HoldsAll (HoldsIn area (ledger_contents ledger)) p q) (CopyMoments 4 (HoldsEither area (ledger_contents ledger) copied) q r) (Stretch ledger (Floor floor next ∷ []) false p r)
          (λ x y z one two. switched area false x y z one two (λ no. absurd (let n : false ≡ true = no in cc))) first second

-- how many calls they are
pub calls_anew : (ledger : List Change) (floor next : ℕ) (copied : List Content) (result : Result (Unit {0}) Failed) (s s' t u : Option Told) → copied ≡ ledger_contents (after_one ledger (Floor floor next))
    → IfTold s s' (λ before after. after.moments ≡ before.moments + 2) → IfTold s' t (λ before after. after.moments ≡ before.moments + length copied) → OnOk result (IfTold t u (λ before after. after.moments ≡ before.moments + 4))
    → OnOk result (IfTold s u (λ before after. after.moments ≡ before.moments + calls_of_one ledger (Floor floor next)))
calls_anew ledger floor next copied (Ok done) s s' t u same first second third =
    let anew : List Change = after_one ledger (Floor floor next) in
    let size : length copied ≡ length anew = ap length same ∙ length-map anew content_of in
    let two : IfTold s t (λ before after. after.moments ≡ before.moments + 2 + length copied) =
    if_told_then s s' t (λ before after. after.moments ≡ before.moments + 2) (λ before after. after.moments ≡ before.moments + length copied) (λ before after. after.moments ≡ before.moments + 2 + length copied)
    (λ x y z one other. omega (arith, one, other)) first second in
    if_told_then s t u (λ before after. after.moments ≡ before.moments + 2 + length copied) (λ before after. after.moments ≡ before.moments + 4) (λ before after. after.moments ≡ before.moments + (2 + length anew + 4))
    (λ x y z one other. omega (arith, one, other, size)) two third
calls_anew ledger floor next copied (Err fault) s s' t u same first second third = tt
