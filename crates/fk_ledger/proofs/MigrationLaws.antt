-- A ledger of the older format is written in this one, and its opening.
use Rattle.std.proofs.Common.{◌≡◌, ℕ, Bool, true, false, List, [], ◌∷◌, ◌++◌, refl, sym, ap, subst, ◌∙◌, inl, inr, arith, Option, Some, None}
use Rattle.std.specs.Prelude.{IfSome}
use Rattle.std.specs.List.{AllByRecursion}
use Rattle.std.specs.Int.{w64, to_be_bytes}
use Rattle.std.proofs.lemmas.Bool.{cases_lt}
use Rattle.std.proofs.lemmas.List.{length-append}
use Rattle.fk_trace.specs.declared.change.Change.{Change}
use Rattle.fk_trace.specs.declared.change.Change.TheVariants.{Open, Done, Settled, Floor}
use Rattle.fk_trace.specs.Ledger.{compacted, next_id, IsLedger}
use Rattle.fk_host.specs.Disk.{Areas, Told, IfTold, LeavesAreas}
use Rattle.fk_journal.specs.Entries.{Content, IsContent, area_bytes, HoldsEntries}
use Rattle.fk_journal.specs.Keeps.{selected, IsSettled}
use Rattle.fk_journal.specs.Older.{HoldsOlderEntries, Replaces}
use Rattle.fk_journal.proofs.Told.{past_then, if_told_then, if_told_with}
use Rattle.fk_ledger.specs.Payloads.{content_of, ledger_contents, IsChange}
use Rattle.fk_ledger.specs.Holds.{HoldsCurrent, HoldsOlder, HoldsLedger}
use Rattle.fk_ledger.specs.Private.{MigratesTo}
use Rattle.fk_ledger.specs.Stretch.{KeepsSelected, Migrates, UnlessOlder}
use Rattle.fk_ledger.proofs.RoomLaws.{small_record}
use Rattle.fk_ledger.proofs.CompactionLaws.{anew_each, anew_follows}

-- ---- what is selected decides what is held

pub same_current : (from image : Areas) (ledger : List Change) → selected image ≡ selected from → HoldsCurrent from ledger → HoldsCurrent image ledger
same_current from image ledger same held = record {
  entries = subst (λ (bytes : List ℕ). HoldsEntries bytes (ledger_contents ledger)) (sym same) held.entries;
  each = held.each;
  follow = held.follow;
}

pub same_older : (from image : Areas) (changes : List Change) → selected image ≡ selected from → HoldsOlder from changes → HoldsOlder image changes
same_older from image changes same held = record {
  contents = held.contents;
  entries = subst (λ (bytes : List ℕ). HoldsOlderEntries bytes held.contents) (sym same) held.entries;
  same = held.same;
  each = held.each;
  follow = held.follow;
}

pub same_ledger : (from image : Areas) (ledger : List Change) → selected image ≡ selected from → HoldsLedger from ledger → HoldsLedger image ledger
same_ledger from image ledger same (inl held) = inl (same_current from image ledger same held)
same_ledger from image ledger same (inr (changes, held, is)) = inr (changes, same_older from image changes same held, is)

pub keeps_same : (from image : Areas) → selected image ≡ selected from → KeepsSelected from image
keeps_same from image same = inl (inl same)

-- ---- what is written is held

content_is : (change : Change) → IsChange change → IsContent (content_of change)
content_is (Open item) is = record { kind = (omega arith, omega arith); size = small_record item is }
content_is (Done id) is = record { kind = (omega arith, omega arith); size = omega arith }
content_is (Settled id stamp digest) is =
    record { kind = (omega arith, omega arith); size = (let long = is.2.size in let first = length-append (to_be_bytes w64 id) (to_be_bytes w64 stamp ++ digest.0) in let second = length-append (to_be_bytes w64 stamp) digest.0 in omega (arith, long, first, second)) }
content_is (Floor floor next) is = record { kind = (omega arith, omega arith); size = omega arith }

contents_are : (ledger : List Change) → AllByRecursion IsChange ledger → AllByRecursion IsContent (ledger_contents ledger)
contents_are [] each = tt
contents_are (change ∷ ledger) each = (content_is change each.0, contents_are ledger each.1)

pub written_current : (image : Areas) (ledger : List Change) → selected image ≡ area_bytes (ledger_contents ledger) → AllByRecursion IsChange ledger → IsLedger ledger → HoldsCurrent image ledger
written_current image ledger same each follow = record {
  entries = subst (λ (bytes : List ℕ). HoldsEntries bytes (ledger_contents ledger)) (sym same) (inr (0, [], omega arith, record { each = contents_are ledger each; bytes = refl }));
  each = each;
  follow = follow;
}

-- ---- the moments of a migration

pub read_migrates : (a b : ℕ → Areas → Type 0) (x y : Told) → IsSettled x a → LeavesAreas a b x y → Migrates false a b x y
read_migrates a b x y settled left = record {
  later = left.later;
  past = left.past;
  each = λ k image after upto here. keeps_same x.areas image (settled image (left.each k image after upto here)).1;
  done = λ no. absurd (let n : false ≡ true = no in cc);
}

pub told_read : (s t : Option Told) (a b : ℕ → Areas → Type 0) → IfSome s (λ now. IsSettled now a) → IfTold s t (LeavesAreas a b) → IfTold s t (Migrates false a b)
told_read s t a b settled left = if_told_with s t (λ now. IsSettled now a) (LeavesAreas a b) (Migrates false a b) (λ x y was p. read_migrates a b x y was p) settled left

module _ (contents : List Content) (bytes : List ℕ) (to : MigratesTo contents bytes) where
  abbrev anew : List Change
  anew = compacted 0 to.changes

  anew_is : AllByRecursion IsChange anew
  anew_is = anew_each to.changes 0 (next_id to.changes) refl to.first to.are.each

  anew_ledger : IsLedger anew
  anew_ledger = anew_follows to.changes 0 (next_id to.changes) refl to.first to.are.follow

  older_is : (image : Areas) → HoldsOlderEntries (selected image) contents → HoldsOlder image to.changes
  older_is image entries = record { contents = contents; entries = entries; same = to.are.entries; each = to.are.each; follow = to.are.follow }

  -- an image that selects the new bytes
  written_is : (image : Areas) → selected image ≡ bytes → HoldsCurrent image anew
  written_is image same = written_current image anew (same ∙ to.bytes_are) anew_is anew_ledger

  keeps_written : (from image : Areas) → HoldsOlderEntries (selected from) contents → selected image ≡ bytes → KeepsSelected from image
  keeps_written from image entries same = inr (to.changes, older_is from entries, written_is image same)

  migrates : (whole : Bool) (a b c : ℕ → Areas → Type 0) (x y z : Told) → IsSettled x a → HoldsOlderEntries (selected x.areas) contents → LeavesAreas a b x y → Replaces bytes b c y z
      → (whole ≡ true → (selected z.areas ≡ bytes) × IsSettled z c) → Migrates whole a c x z
  migrates whole a b c x y z settled entries left replaces done = record {
    later = omega (arith, left.later, replaces.later);
    past = past_then x.moments y.moments a b c left.later left.past replaces.past;
    each = λ k image after upto here.
        elim (cases_lt y.moments k) [
          | inl behind ↦ elim (replaces.each k image behind upto here) [
            | inl same ↦ keeps_same x.areas image (same ∙ ap selected left.reads)
            | inr same ↦ keeps_written x.areas image entries same
          ]
          | inr before ↦ keeps_same x.areas image (settled image (left.each k image after before ((replaces.past k image before).0 here))).1
        ];
    done = λ is. let r = done is in (to.changes, older_is x.areas entries, written_is z.areas r.0, r.1);
  }

  pub told_migrates_ok : (s t u : Option Told) (a b c : ℕ → Areas → Type 0) → IfSome s (λ now. IsSettled now a) → IfTold s t (λ x y. HoldsOlderEntries (selected x.areas) contents) → IfTold s t (LeavesAreas a b)
      → IfTold t u (Replaces bytes b c) → IfTold t u (λ y z. (selected z.areas ≡ bytes) × IsSettled z c) → IfTold s u (Migrates true a c)
  told_migrates_ok s t None a b c settled entries left replaces done = tt
  told_migrates_ok s None (Some z) a b c settled entries left replaces done = absurd replaces
  told_migrates_ok None (Some y) (Some z) a b c settled entries left replaces done = left
  told_migrates_ok (Some x) (Some y) (Some z) a b c settled entries left replaces done = migrates true a b c x y z settled entries left replaces (λ is. done)

  pub told_migrates_err : (s t u : Option Told) (a b c : ℕ → Areas → Type 0) → IfSome s (λ now. IsSettled now a) → IfTold s t (λ x y. HoldsOlderEntries (selected x.areas) contents) → IfTold s t (LeavesAreas a b)
      → IfTold t u (Replaces bytes b c) → IfTold s u (Migrates false a c)
  told_migrates_err s t None a b c settled entries left replaces = tt
  told_migrates_err s None (Some z) a b c settled entries left replaces = absurd replaces
  told_migrates_err None (Some y) (Some z) a b c settled entries left replaces = left
  told_migrates_err (Some x) (Some y) (Some z) a b c settled entries left replaces =
      migrates false a b c x y z settled entries left replaces (λ no. absurd (let n : false ≡ true = no in cc))

pub older_leaves : (contents : List Content) (s t u : Option Told) (P Said : Told → Told → Type 0) → IfTold s t (λ x y. HoldsOlderEntries (selected x.areas) contents) → IfTold t u P → IfTold s u (UnlessOlder Said)
older_leaves contents s t u P Said entries replaces =
    if_told_then s t u (λ x y. HoldsOlderEntries (selected x.areas) contents) P (UnlessOlder Said) (λ x y z e r none. absurd (none e.older)) entries replaces
