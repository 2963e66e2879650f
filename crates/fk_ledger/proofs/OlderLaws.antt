-- Payloads and areas of the older format, and what is written for a list of changes.
use Rattle.std.proofs.Common.{◌≡◌, ℕ, ◌+◌, ◌<◌, ◌≤◌, ◌^◌, Bool, false, cond, List, [], ◌∷◌, ◌++◌, length, take, drop, get_or, refl, sym, ap, subst, ◌∙◌, append_assoc, inl, inr, arith, Option, Result, Ok, Err, Vec, Global}
use Rattle.std.specs.Prelude.{nat_lt, IfOk}
use Rattle.std.specs.Int.{w64, to_be_bytes}
use Rattle.std.specs.List.{AllByRecursion, filter_map}
use Rattle.std.proofs.lemmas.List.{append-nil, take_more, map-append}
use Rattle.fk_trace.specs.declared.change.Change.{Change}
use Rattle.fk_trace.specs.declared.change.Change.TheVariants.{Floor}
use Rattle.fk_trace.specs.Ledger.{after_one, next_id}
use Rattle.fk_trace.proofs.Ledgers.{next_from-above}
use Rattle.fk_host.specs.Disk.{Told, IfTold}
use Rattle.fk_journal.specs.declared.fault.JournalErr.{JournalErr}
use Rattle.fk_journal.specs.Entries.{Content, format_byte, entry_bytes, entries_bytes, area_bytes, HoldsEntries}
use Rattle.fk_journal.specs.Keeps.{selected}
use Rattle.fk_journal.specs.Older.{HoldsOlderEntries, HasNoOlderAt}
use Rattle.fk_journal.proofs.Told.{if_told_map}
use Rattle.fk_ledger.specs.declared.older.Format.TheVariants.{Current, Older}
use Rattle.fk_ledger.specs.Holds.{HoldsCurrent, HoldsOlder, Breaks}
use Rattle.fk_ledger.specs.Older.{stamp_by, with_stamp, stamped}
use Rattle.fk_ledger.specs.Payloads.{content_of, ledger_contents, IsChange}
use Rattle.fk_ledger.specs.Anew.{kept_as}
use Rattle.fk_ledger.specs.Book.{live_ids}
use Rattle.fk_ledger.proofs.AnewLaws.{kept_live}
use Rattle.fk_ledger.proofs.CompactionLaws.{anew_each}
use Rattle.fk_ledger.specs.Private.{AreLedger, said_in, IsNoOlderAt, MigratesTo}
use Rattle.fk_ledger.proofs.OpeningLaws.{held_of}

-- a payload that is long enough gets its stamp
pub stamp_put : (at out : ℕ) (payload bytes : List ℕ) → nat_lt (length payload) (at + 8) ≡ false
    → bytes ≡ (take at payload ++ to_be_bytes w64 (stamp_by (take 8 (drop at payload)))) ++ drop out (drop at payload) → bytes ≡ with_stamp at out payload
stamp_put at out payload bytes long is =
    let stamp : List ℕ = to_be_bytes w64 (stamp_by (take 8 (drop at payload))) in
    is ∙ append_assoc (take at payload) stamp (drop out (drop at payload)) ∙ ap (λ (b : Bool). cond b payload (take at payload ++ (stamp ++ drop out (drop at payload)))) (sym long)

-- ---- what is written for a list of changes

entries_more : (contents : List Content) (content : Content) → entries_bytes (contents ++ content ∷ []) ≡ entries_bytes contents ++ entry_bytes content
entries_more [] content = append-nil (entry_bytes content)
entries_more (first ∷ contents) content =
    ap (λ (bytes : List ℕ). entry_bytes first ++ bytes) (entries_more contents content) ∙ sym (append_assoc (entry_bytes first) (entries_bytes contents) (entry_bytes content))

pub list_more : (changes : List Change) (i : ℕ) (change : Change) (content : Content) (old new : List ℕ) → i < length changes → change ≡ get_or changes i change → content ≡ content_of change
    → old ≡ format_byte ∷ entries_bytes (ledger_contents (take i changes)) → new ≡ old ++ entry_bytes content → new ≡ format_byte ∷ entries_bytes (ledger_contents (take (i + 1) changes))
list_more changes i change content old new within at same was is =
    let front : List Content = ledger_contents (take i changes) in
    let more : ledger_contents (take (i + 1) changes) ≡ front ++ content ∷ [] =
    ap ledger_contents (take_more changes i change within ∙ ap (λ (x : Change). take i changes ++ x ∷ []) (sym at)) ∙ map-append content_of (take i changes) (change ∷ [])
    ∙ ap (λ (x : Content). front ++ x ∷ []) (sym same) in
    is ∙ ap (λ (bytes : List ℕ). bytes ++ entry_bytes content) was ∙ ap (λ (bytes : List ℕ). format_byte ∷ bytes) (sym (entries_more front content))
    ∙ ap (λ (contents : List Content). format_byte ∷ entries_bytes contents) (sym more)

-- ---- what was read

abbrev pub Changes : Type 0
Changes = Result (Vec Change Global) JournalErr

pub current_shown : (r : Changes) (contents : List Content) (s t : Option Told) → IfOk r (λ changes. AreLedger (said_in Current) contents changes.items) → IfTold s t (λ x y. HoldsEntries (selected x.areas) contents)
    → IfOk r (λ changes. IfTold s t (λ x y. HoldsCurrent x.areas changes.items))
current_shown (Ok changes) contents s t are entries = held_of contents changes.items changes.items s t are refl entries
current_shown (Err e) contents s t are entries = tt

older_held : (contents : List Content) (found : List Change) (s t : Option Told) → AreLedger (said_in Older) contents found → IfTold s t (λ x y. HoldsOlderEntries (selected x.areas) contents) → IfTold s t (λ x y. HoldsOlder x.areas found)
older_held contents found s t are entries =
    if_told_map s t (λ x y. HoldsOlderEntries (selected x.areas) contents) (λ x y. HoldsOlder x.areas found)
    (λ x y e. record { contents = contents; entries = e; same = are.entries; each = are.each; follow = are.follow }) entries

pub older_shown : (r : Changes) (contents : List Content) (s t : Option Told) → IfOk r (λ changes. AreLedger (said_in Older) contents changes.items) → IfTold s t (λ x y. HoldsOlderEntries (selected x.areas) contents)
    → IfOk r (λ changes. IfTold s t (λ x y. HoldsOlder x.areas changes.items))
older_shown (Ok changes) contents s t are entries = older_held contents changes.items s t are entries
older_shown (Err e) contents s t are entries = tt

pub none_older : (place : ℕ) (s t : Option Told) → IfTold s t (λ x y. HasNoOlderAt (selected x.areas) place) → IfTold s t (λ x y. IsNoOlderAt (selected x.areas) place)
none_older place s t none =
    if_told_map s t (λ x y. HasNoOlderAt (selected x.areas) place) (λ x y. IsNoOlderAt (selected x.areas) place)
    (λ x y n. elim n [ inl damaged ↦ inl (inl damaged) | inr other ↦ inr other ]) none

pub older_breaks : (contents : List Content) (place : ℕ) → Breaks (said_in Older) contents place → Breaks stamped contents place
older_breaks contents place breaks = record {
  before = breaks.before;
  earlier = breaks.earlier;
  content = breaks.content;
  later = breaks.later;
  parts = breaks.parts;
  same = breaks.same;
  each = breaks.each;
  follow = breaks.follow;
  broken = breaks.broken;
  placed = breaks.placed;
}

pub broken_older : (contents : List Content) (place : ℕ) (s t : Option Told) → Breaks stamped contents place → IfTold s t (λ x y. HoldsOlderEntries (selected x.areas) contents) → IfTold s t (λ x y. IsNoOlderAt (selected x.areas) place)
broken_older contents place s t breaks entries =
    if_told_map s t (λ x y. HoldsOlderEntries (selected x.areas) contents) (λ x y. IsNoOlderAt (selected x.areas) place) (λ x y e. inl (inr (contents, e, breaks))) entries

-- ---- a ledger of the older format as it begins anew

module _ (found items : List Change) (next : ℕ) (ids : List ℕ) (numbered : next ≡ next_id found) (low : next ≤ 2 ^ 63) (each : AllByRecursion IsChange found) (live : ids ≡ live_ids found)
    (is : items ≡ Floor 0 next ∷ filter_map (kept_as 0 ids) found) where
  first_is : IsChange (Floor 0 next)
  first_is = (omega arith, (let high = next_from-above 1 found in omega (arith, numbered, high)), low)

  begun : items ≡ after_one found (Floor 0 next)
  begun = is ∙ ap (λ (numbers : List ℕ). Floor 0 next ∷ filter_map (kept_as 0 numbers) found) live ∙ ap (λ (rest : List Change). Floor 0 next ∷ rest) (sym (kept_live 0 found))

  pub begun_each : AllByRecursion IsChange items
  begun_each = subst (AllByRecursion IsChange) (sym begun) (anew_each found 0 next numbered first_is each)

  pub migrates_to : (contents : List Content) (bytes : List ℕ) → AreLedger (said_in Older) contents found → bytes ≡ area_bytes (ledger_contents items) → MigratesTo contents bytes
  migrates_to contents bytes are written = record {
    changes = found;
    are = record { entries = are.entries; each = are.each; follow = are.follow };
    first = subst (λ (n : ℕ). IsChange (Floor 0 n)) numbered first_is;
    bytes_are = written ∙ ap (λ (changes : List Change). area_bytes (ledger_contents changes)) (begun ∙ ap (λ (n : ℕ). after_one found (Floor 0 n)) numbered);
  }
