-- The opening of a ledger whose area may be of the older format: it is tried in this one, and where it is of another it is migrated and tried again.
use Rattle.std.proofs.Common.{◌≡◌, ◌≢◌, ℕ, ◌<◌, ◌≤◌, Bool, true, false, List, length, refl, sym, ap, subst, ◌∙◌, inl, inr, arith, Option, Some, None, Result, Ok, Err}
use Rattle.std.specs.Prelude.{IfSome, IfOk}
use Rattle.std.proofs.lemmas.Bool.{cases_lt}
use Rattle.fk_trace.specs.declared.change.Change.{Change}
use Rattle.fk_trace.specs.Ledger.{compacted, state_of}
use Rattle.fk_host.specs.declared.disk.Area.{Area}
use Rattle.fk_host.specs.declared.disk.Area.TheVariants.{Head}
use Rattle.fk_host.specs.Disk.{Areas, Told, IfTold, KeepsPast, LeavesAreas}
use Rattle.fk_journal.specs.declared.fault.JournalErr.{JournalErr}
use Rattle.fk_journal.specs.Head.{area_by}
use Rattle.fk_journal.specs.Keeps.{selected, selected_area, IsSettled, IsOpening, LeavesAllBut, LeavesOthers, SameEntries, UntilSynced}
use Rattle.fk_journal.specs.Older.{IsOlder}
use Rattle.fk_journal.proofs.Areas.{apart_from}
use Rattle.fk_journal.proofs.PutLemmas.{others_then}
use Rattle.fk_journal.proofs.Openings.{others_left}
use Rattle.fk_journal.proofs.Told.{past_then, if_told_map, if_told_then, if_told_both}
use Rattle.fk_journal.proofs.Uniqueness.{same_held}
use Rattle.fk_ledger.specs.Payloads.{ledger_contents}
use Rattle.fk_ledger.specs.Holds.{HoldsCurrent, HoldsOlder, HoldsLedger, HoldsState, IsCurrentDamagedAt, IsOldDamagedAt, IsLedgerDamagedAt}
use Rattle.fk_ledger.specs.Private.{is_other_format, IsNoOlderAt}
use Rattle.fk_ledger.specs.Stretch.{IsLedgerOpening, KeepsSelected, IsKeptOpening, Migrates, UnlessOlder}
use Rattle.fk_ledger.proofs.LedgerLaws.{not_older, damaged_older, one_ledger, one_current, apart_formats, current_undamaged}
use Rattle.fk_ledger.proofs.MigrationLaws.{same_current, same_older, same_ledger}

-- ---- which format it is

pub other_is : (fault : JournalErr) → true ≡ is_other_format fault → fault ≡ JournalErr.Damaged 0
other_is JournalErr.Disk is = absurd (let n : true ≡ false = is in cc)
other_is (JournalErr.Damaged place) is = ap JournalErr.Damaged (grind (arith, is))
other_is JournalErr.NoMemory is = absurd (let n : true ≡ false = is in cc)

pub apart_start : (fault : JournalErr) (place : ℕ) → fault ≡ JournalErr.Damaged place → false ≡ is_other_format fault → place ≢ 0
apart_start fault place is not = λ zero. absurd (let n : false ≡ true = not ∙ ap is_other_format is ∙ ap (λ (p : ℕ). is_other_format (JournalErr.Damaged p)) zero in cc)

not_older_here : (area : List ℕ) (place : ℕ) → IsCurrentDamagedAt area place → place ≢ 0 → IsOlder area → ⊥
not_older_here area place (inl damaged) apart = damaged_older area place damaged apart
not_older_here area place (inr (contents, entries, breaks)) apart = not_older area contents entries

pub damaged_apart : (place : ℕ) (s t : Option Told) → place ≢ 0 → IfTold s t (λ x y. IsCurrentDamagedAt (selected x.areas) place) → IfTold s t (λ x y. IsLedgerDamagedAt x.areas place)
damaged_apart place s t apart damaged =
    if_told_map s t (λ x y. IsCurrentDamagedAt (selected x.areas) place) (λ x y. IsLedgerDamagedAt x.areas place) (λ x y d. inl (not_older_here (selected x.areas) place d apart, d)) damaged

long_damaged : (area : List ℕ) → IsCurrentDamagedAt area 0 → 3 ≤ length area
long_damaged area (inl damaged) = damaged.0
long_damaged area (inr (contents, entries, breaks)) = absurd (let at = breaks.placed in omega arith)

same_selected : (from image : Areas) → 3 ≤ length (selected from) → SameEntries (selected from) (selected image) → selected image ≡ selected from
same_selected from image long (inl same) = same
same_selected from image long (inr both) = absurd (let short = both.0 in omega (arith, long, short))

none_damaged : (from image : Areas) (place : ℕ) → selected image ≡ selected from → IsCurrentDamagedAt (selected from) 0 → IsNoOlderAt (selected image) place → IsLedgerDamagedAt from place
none_damaged from image place same damaged (inl old) = inr (subst (λ (area : List ℕ). IsOldDamagedAt area place) same old)
none_damaged from image place same damaged (inr (none, at)) =
    inl (subst (λ (area : List ℕ). IsOlder area → ⊥) same none, subst (IsCurrentDamagedAt (selected from)) (sym at) damaged)

-- ---- the moments

-- what is kept of a ledger that was held has its State
short_held : (from image : Areas) (ledger : List Change) → length (selected from) < 3 → length (selected image) < 3 → HoldsLedger from ledger → HoldsState ledger image
short_held from image ledger few also (inl held) = (
  ledger,
  inl (record { entries = same_held (selected from) (selected image) (ledger_contents ledger) (inr (few, also)) held.entries; each = held.each; follow = held.follow }),
  refl,
)
short_held from image ledger few also (inr (changes, held, is)) = absurd (let long = held.entries.older.0 in omega (arith, few, long))

pub holds_kept : (from image : Areas) (ledger : List Change) → KeepsSelected from image → HoldsLedger from ledger → HoldsState ledger image
holds_kept from image ledger (inl (inl same)) held = (ledger, same_ledger from image ledger same held, refl)
holds_kept from image ledger (inl (inr both)) held = short_held from image ledger both.0 both.1 held
holds_kept from image ledger (inr (changes, older, anew)) held =
    let is : ledger ≡ compacted 0 changes = one_ledger from ledger (compacted 0 changes) held (inr (changes, older, refl)) in
    (compacted 0 changes, inl anew, ap state_of (sym is))

-- the same entries of what holds a ledger in this format
entries_current : (from image : Areas) (ledger : List Change) → SameEntries (selected from) (selected image) → HoldsCurrent from ledger → HoldsCurrent image ledger
entries_current from image ledger same held = record { entries = same_held (selected from) (selected image) (ledger_contents ledger) same held.entries; each = held.each; follow = held.follow }

pub kept_opening : (a b : ℕ → Areas → Type 0) (x y : Told) → IsOpening a b x y → IsKeptOpening a b x y
kept_opening a b x y opens = record {
  past = opens.past;
  unsynced = opens.unsynced;
  first = opens.first;
  then = λ k image behind upto left. inl (opens.then k image behind upto left);
}

pub told_kept : (s t : Option Told) (a b : ℕ → Areas → Type 0) → IfTold s t (IsOpening a b) → IfTold s t (IsKeptOpening a b)
told_kept s t a b opens = if_told_map s t (IsOpening a b) (IsKeptOpening a b) (λ x y o. kept_opening a b x y o) opens

-- an opening that was kept, as one of a ledger that was found
opening_of : (ledger : List Change) (whole : Bool) (a b : ℕ → Areas → Type 0) (x y : Told) → IsKeptOpening a b x y → HoldsLedger x.areas ledger → (whole ≡ true → (image : Areas) → b y.moments image → HoldsState ledger image)
    → IsLedgerOpening ledger whole a b x y
opening_of ledger whole a b x y kept held all = record {
  past = kept.past;
  unsynced = kept.unsynced;
  first = kept.first;
  then = record {
    later = kept.first.within;
    past = λ k image within. (λ h. h, λ h. h);
    each = λ k image behind upto left. (0, holds_kept x.areas image ledger (kept.then k image behind upto left) held);
    all = all;
  };
}

pub told_failed : (ledger : List Change) (s t : Option Told) (a b : ℕ → Areas → Type 0) → IfTold s t (IsKeptOpening a b) → IfTold s t (λ x y. HoldsLedger x.areas ledger → IsLedgerOpening ledger false a b x y)
told_failed ledger s t a b kept =
    if_told_map s t (IsKeptOpening a b) (λ x y. HoldsLedger x.areas ledger → IsLedgerOpening ledger false a b x y)
    (λ x y k held. opening_of ledger false a b x y k held (λ no. absurd (let n : false ≡ true = no in cc))) kept

by_format : (ledger found : List Change) (x : Areas) (P : Type 0) → HoldsCurrent x found → (HoldsCurrent x ledger → P) → HoldsLedger x ledger → P
by_format ledger found x P is f (inl held) = f held
by_format ledger found x P is f (inr (changes, held, same)) = absurd (apart_formats x found changes is held)

pub told_opened : (ledger found : List Change) (s t : Option Told) (a b : ℕ → Areas → Type 0) → IfTold s t (λ x y. HoldsCurrent x.areas found) → IfTold s t (λ x y. HoldsCurrent x.areas ledger → IsLedgerOpening ledger true a b x y)
    → IfTold s t (λ x y. HoldsLedger x.areas ledger → IsLedgerOpening ledger true a b x y)
told_opened ledger found s t a b held moments =
    if_told_map s t (λ x y. HoldsCurrent x.areas found × (HoldsCurrent x.areas ledger → IsLedgerOpening ledger true a b x y)) (λ x y. HoldsLedger x.areas ledger → IsLedgerOpening ledger true a b x y)
    (λ x y p. by_format ledger found x.areas (IsLedgerOpening ledger true a b x y) p.0 p.1)
    (if_told_both s t (λ x y. HoldsCurrent x.areas found) (λ x y. HoldsCurrent x.areas ledger → IsLedgerOpening ledger true a b x y) held moments)

-- ---- behind one that found another format

pub record Missed (a b : ℕ → Areas → Type 0) (x y : Told) : Type 0 where
  pub opens : IsOpening a b x y
  pub damaged : IsCurrentDamagedAt (selected x.areas) 0
  pub settled : IsSettled y b

-- what is kept of the same bytes is kept
keeps_of : (x y image : Areas) → selected y ≡ selected x → KeepsSelected y image → KeepsSelected x image
keeps_of x y image same (inl entries) = inl (subst (λ (bytes : List ℕ). SameEntries bytes (selected image)) same entries)
keeps_of x y image same (inr (changes, older, anew)) = inr (changes, same_older y x changes (sym same) older, anew)

later_first : (unsynced : ℕ) (a b c : ℕ → Areas → Type 0) (x y z : Told) → UntilSynced unsynced a b x y → KeepsPast y.moments b c → y.moments ≤ z.moments → UntilSynced unsynced a c x z
later_first unsynced a b c x y z first past later = record {
  since = first.since;
  soon = first.soon;
  within = (let inside = first.within in omega (arith, inside, later));
  stood = λ k image after upto left. first.stood k image after upto ((past k image (let inside = first.within in omega (arith, upto, inside))).0 left);
}

module _ (whole : Bool) (a b c : ℕ → Areas → Type 0) (x y z : Told) (missed : Missed a b x y) (migrates : Migrates whole b c y z) where
  bytes_same : selected y.areas ≡ selected x.areas
  bytes_same = same_selected x.areas y.areas (long_damaged (selected x.areas) missed.damaged) missed.opens.reads

  xy : x.moments ≤ y.moments
  xy = let since = missed.opens.first.since in let inside = missed.opens.first.within in omega (arith, since, inside)

  kept_both : IsKeptOpening a c x z
  kept_both = record {
    past = past_then x.moments y.moments a b c xy missed.opens.past migrates.past;
    unsynced = missed.opens.unsynced;
    first = later_first missed.opens.unsynced a b c x y z missed.opens.first migrates.past migrates.later;
    then = λ k image behind upto left.
        elim (cases_lt y.moments k) [
          | inl later ↦ keeps_of x.areas y.areas image bytes_same (migrates.each k image later upto left)
          | inr before ↦ inl (missed.opens.then k image behind before ((migrates.past k image before).0 left))
        ];
  }

-- where nothing was written behind it
module _ (a b c : ℕ → Areas → Type 0) (x y z : Told) (missed : Missed a b x y) (left : LeavesAreas b c y z) where
  same_bytes : selected y.areas ≡ selected x.areas
  same_bytes = same_selected x.areas y.areas (long_damaged (selected x.areas) missed.damaged) missed.opens.reads

  before_y : x.moments ≤ y.moments
  before_y = let since = missed.opens.first.since in let inside = missed.opens.first.within in omega (arith, since, inside)

  entries_both : IsOpening a c x z
  entries_both = record {
    past = past_then x.moments y.moments a b c before_y missed.opens.past left.past;
    unsynced = missed.opens.unsynced;
    first = later_first missed.opens.unsynced a b c x y z missed.opens.first left.past left.later;
    then = λ k image behind upto here.
        elim (cases_lt y.moments k) [
          | inl later ↦ inl ((missed.settled image (left.each k image later upto here)).1 ∙ same_bytes)
          | inr before ↦ missed.opens.then k image behind before ((left.past k image before).0 here)
        ];
    reads = inl (ap selected left.reads ∙ same_bytes);
  }

  others_both : LeavesOthers a b x y → LeavesOthers a c x z
  others_both first =
      let heads : selected_area y.areas ≡ selected_area x.areas = ap area_by (first.reads Head (apart_from x.areas.head (selected_area x.areas) refl)) in
      others_then (selected_area x.areas) a b c x y z before_y missed.opens.past left.past first
      (subst (λ (used : Area). LeavesAllBut used b c y z) heads (others_left (selected_area y.areas) b c y z left))

-- what is known once it was migrated
pub record Moved (a c : ℕ → Areas → Type 0) (x z : Told) : Type 0 where
  pub kept : IsKeptOpening a c x z
  pub changes : List Change
  pub older : HoldsOlder x.areas changes
  pub anew : HoldsCurrent z.areas (compacted 0 changes)
  pub settled : IsSettled z c

moved : (a b c : ℕ → Areas → Type 0) (x y z : Told) → Missed a b x y → Migrates true b c y z → Moved a c x z
moved a b c x y z missed migrates =
    let done = migrates.done refl in
    record {
      kept = kept_both true a b c x y z missed migrates;
      changes = done.0;
      older = same_older y.areas x.areas done.0 (sym (bytes_same true a b c x y z missed migrates)) done.1;
      anew = done.2;
      settled = done.3;
    }

through : (a c : ℕ → Areas → Type 0) (x z : Told) (ledger : List Change) → Moved a c x z → HoldsLedger x.areas ledger → HoldsCurrent z.areas ledger
through a c x z ledger move held =
    subst (HoldsCurrent z.areas) (sym (one_ledger x.areas ledger (compacted 0 move.changes) held (inr (move.changes, move.older, refl)))) move.anew

module _ (a c d : ℕ → Areas → Type 0) (x z w : Told) (move : Moved a c x z) (opens : IsOpening c d z w) where
  xz : x.moments ≤ z.moments
  xz = let since = move.kept.first.since in let inside = move.kept.first.within in omega (arith, since, inside)

  zw : z.moments ≤ w.moments
  zw = let since = opens.first.since in let inside = opens.first.within in omega (arith, since, inside)

  kept_all : IsKeptOpening a d x w
  kept_all = record {
    past = past_then x.moments z.moments a c d xz move.kept.past opens.past;
    unsynced = move.kept.unsynced;
    first = later_first move.kept.unsynced a c d x z w move.kept.first opens.past zw;
    then = λ k image behind upto left.
        elim (cases_lt z.moments k) [
          | inl later ↦ elim (cases_lt opens.unsynced k) [
            | inl synced ↦ inr (move.changes, move.older, entries_current z.areas image (compacted 0 move.changes) (opens.then k image synced upto left) move.anew)
            | inr unsynced ↦ inr (move.changes, move.older, same_current z.areas image (compacted 0 move.changes) (move.settled image (opens.first.stood k image later unsynced left)).1 move.anew)
          ]
          | inr before ↦ move.kept.then k image behind before ((opens.past k image before).0 left)
        ];
  }

  opened_all : (ledger : List Change) (whole : Bool) → (HoldsCurrent z.areas ledger → IsLedgerOpening ledger whole c d z w) → HoldsLedger x.areas ledger → IsLedgerOpening ledger whole a d x w
  opened_all ledger whole f held = opening_of ledger whole a d x w kept_all held (λ is image left. (f (through a c x z ledger move held)).then.all is image left)

-- ---- the same where a host may tell or not

pub told_missed : (s t : Option Told) (a b : ℕ → Areas → Type 0) → IfTold s t (IsOpening a b) → IfTold s t (λ x y. IsCurrentDamagedAt (selected x.areas) 0) → IfSome t (λ now. IsSettled now b) → IfTold s t (Missed a b)
told_missed s None a b opens damaged settled = tt
told_missed None (Some y) a b opens damaged settled = absurd opens
told_missed (Some x) (Some y) a b opens damaged settled = record { opens = opens; damaged = damaged; settled = settled }

pub told_none : (place : ℕ) (s t u : Option Told) (a b : ℕ → Areas → Type 0) → IfTold s t (Missed a b) → IfTold t u (λ y z. IsNoOlderAt (selected y.areas) place) → IfTold s u (λ x z. IsLedgerDamagedAt x.areas place)
told_none place s t u a b missed none =
    if_told_then s t u (Missed a b) (λ y z. IsNoOlderAt (selected y.areas) place) (λ x z. IsLedgerDamagedAt x.areas place)
    (λ x y z m n. none_damaged x.areas y.areas place (same_selected x.areas y.areas (long_damaged (selected x.areas) m.damaged) m.opens.reads) m.damaged n) missed none

pub told_both : (whole : Bool) (s t u : Option Told) (a b c : ℕ → Areas → Type 0) → IfTold s t (Missed a b) → IfTold t u (Migrates whole b c) → IfTold s u (IsKeptOpening a c)
told_both whole s t u a b c missed migrates =
    if_told_then s t u (Missed a b) (Migrates whole b c) (IsKeptOpening a c) (λ x y z m n. kept_both whole a b c x y z m n) missed migrates

-- where the areas are of this format, nothing was written behind the first try
abbrev Left : (ℕ → Areas → Type 0) → (ℕ → Areas → Type 0) → Told → Told → Type 0
Left b c y z = UnlessOlder (LeavesAreas b c) y z

left_of : (a b c : ℕ → Areas → Type 0) (x y z : Told) → Missed a b x y → Left b c y z → (IsOlder (selected x.areas) → ⊥) → LeavesAreas b c y z
left_of a b c x y z missed left none =
    left (λ older. none (subst IsOlder (same_selected x.areas y.areas (long_damaged (selected x.areas) missed.damaged) missed.opens.reads) older))

pub told_entries : (s t u : Option Told) (a b c : ℕ → Areas → Type 0) → IfTold s t (Missed a b) → IfTold t u (Left b c) → IfTold s u (UnlessOlder (IsOpening a c))
told_entries s t u a b c missed left =
    if_told_then s t u (Missed a b) (Left b c) (UnlessOlder (IsOpening a c)) (λ x y z m l none. entries_both a b c x y z m (left_of a b c x y z m l none)) missed left

pub told_others : (s t u : Option Told) (a b c : ℕ → Areas → Type 0) → IfTold s t (Missed a b) → IfTold s t (LeavesOthers a b) → IfTold t u (Left b c) → IfTold s u (UnlessOlder (LeavesOthers a c))
told_others s t u a b c missed first left =
    if_told_then s t u (λ x y. Missed a b x y × LeavesOthers a b x y) (Left b c) (UnlessOlder (LeavesOthers a c)) (λ x y z m l none. others_both a b c x y z m.0 (left_of a b c x y z m.0 l none) m.1)
    (if_told_both s t (Missed a b) (LeavesOthers a b) missed first) left

-- and so it is where the ledger was found in this format at once
pub told_said : (s t : Option Told) (P : Told → Told → Type 0) → IfTold s t P → IfTold s t (UnlessOlder P)
told_said s t P said = if_told_map s t P (UnlessOlder P) (λ x y p none. p) said

pub told_migrated : (s u v : Option Told) (a c : ℕ → Areas → Type 0) (P Said : Told → Told → Type 0) → IfTold s u (Moved a c) → IfTold u v P → IfTold s v (UnlessOlder Said)
told_migrated s u v a c P Said move after = if_told_then s u v (Moved a c) P (UnlessOlder Said) (λ x z w m p none. absurd (none m.older.entries.older)) move after

pub told_moved : (s t u : Option Told) (a b c : ℕ → Areas → Type 0) → IfTold s t (Missed a b) → IfTold t u (Migrates true b c) → IfTold s u (Moved a c)
told_moved s t u a b c missed migrates = if_told_then s t u (Missed a b) (Migrates true b c) (Moved a c) (λ x y z m n. moved a b c x y z m n) missed migrates

pub told_all : (s u v : Option Told) (a c d : ℕ → Areas → Type 0) → IfTold s u (Moved a c) → IfTold u v (IsOpening c d) → IfTold s v (IsKeptOpening a d)
told_all s u v a c d move opens = if_told_then s u v (Moved a c) (IsOpening c d) (IsKeptOpening a d) (λ x z w m o. kept_all a c d x z w m o) move opens

pub told_whole : (ledger : List Change) (whole : Bool) (s u v : Option Told) (a c d : ℕ → Areas → Type 0) → IfTold s u (Moved a c) → IfTold u v (IsOpening c d) → IfTold u v (λ z w. HoldsCurrent z.areas ledger → IsLedgerOpening ledger whole c d z w)
    → IfTold s v (λ x w. HoldsLedger x.areas ledger → IsLedgerOpening ledger whole a d x w)
told_whole ledger whole s u v a c d move opens moments =
    if_told_then s u v (Moved a c) (λ z w. IsOpening c d z w × (HoldsCurrent z.areas ledger → IsLedgerOpening ledger whole c d z w)) (λ x w. HoldsLedger x.areas ledger → IsLedgerOpening ledger whole a d x w)
    (λ x z w m o. opened_all a c d x z w m o.0 ledger whole o.1) move
    (if_told_both u v (IsOpening c d) (λ z w. HoldsCurrent z.areas ledger → IsLedgerOpening ledger whole c d z w) opens moments)

found_moved : (a c : ℕ → Areas → Type 0) (x z : Told) (ledger : List Change) → Moved a c x z → HoldsCurrent z.areas ledger → HoldsLedger x.areas ledger
found_moved a c x z ledger move held = inr (move.changes, move.older, one_current z.areas ledger (compacted 0 move.changes) held move.anew)

pub told_found : {V E : Type 0} (r : Result V E) (changes : V → List Change) (s u v : Option Told) (a c : ℕ → Areas → Type 0) → IfTold s u (Moved a c) → IfOk r (λ value. IfTold u v (λ z w. HoldsCurrent z.areas (changes value)))
    → IfOk r (λ value. IfTold s v (λ x w. HoldsLedger x.areas (changes value)))
told_found (Ok value) changes s u v a c move held =
    if_told_then s u v (Moved a c) (λ z w. HoldsCurrent z.areas (changes value)) (λ x w. HoldsLedger x.areas (changes value)) (λ x z w m h. found_moved a c x z (changes value) m h) move held
told_found (Err e) changes s u v a c move held = tt

pub told_undamaged : (place : ℕ) (s u v : Option Told) (a c : ℕ → Areas → Type 0) → IfTold s u (Moved a c) → IfTold u v (λ z w. IsCurrentDamagedAt (selected z.areas) place) → IfTold s v (λ x w. IsLedgerDamagedAt x.areas place)
told_undamaged place s u v a c move damaged =
    if_told_then s u v (Moved a c) (λ z w. IsCurrentDamagedAt (selected z.areas) place) (λ x w. IsLedgerDamagedAt x.areas place)
    (λ x z w m d. absurd (current_undamaged z.areas (compacted 0 m.changes) place m.anew d)) move damaged

-- ---- a view, which reads alone

pub seen_none : (place : ℕ) (s t u : Option Told) (a b : ℕ → Areas → Type 0) → IfTold s t (LeavesAreas a b) → IfTold s t (λ x y. IsCurrentDamagedAt (selected x.areas) 0) → IfTold t u (λ y z. IsNoOlderAt (selected y.areas) place) → IfTold s u (λ x z. IsLedgerDamagedAt x.areas place)
seen_none place s t u a b left damaged none =
    if_told_then s t u (λ x y. LeavesAreas a b x y × IsCurrentDamagedAt (selected x.areas) 0) (λ y z. IsNoOlderAt (selected y.areas) place) (λ x z. IsLedgerDamagedAt x.areas place)
    (λ x y z m n. none_damaged x.areas y.areas place (ap selected m.0.reads) m.1 n)
    (if_told_both s t (LeavesAreas a b) (λ x y. IsCurrentDamagedAt (selected x.areas) 0) left damaged) none
