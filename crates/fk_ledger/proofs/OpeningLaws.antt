-- The moments of an opening, and what is damaged.
use Rattle.std.proofs.Common.{◌≡◌, ℕ, Bool, true, false, List, [], ◌∷◌, map, refl, sym, ap, subst, ◌∙◌, inl, inr, Option, Some, None, Err}
use Rattle.std.specs.Prelude.{Result, IfSome}
use Rattle.fk_trace.specs.declared.change.Change.{Change}
use Rattle.fk_host.specs.Disk.{Areas, Told, IfTold}
use Rattle.fk_journal.specs.declared.fault.JournalErr.{JournalErr}
use Rattle.fk_journal.specs.Entries.{Content, IsClosedBehind, HoldsEntries, IsDamagedAt}
use Rattle.fk_journal.specs.Keeps.{Log, Keeps, selected, IsSettled, IsOpening}
use Rattle.fk_journal.proofs.Told.{if_told_map}
use Rattle.fk_journal.proofs.Uniqueness.{one_list, same_held}
use Rattle.fk_ledger.specs.Payloads.{ledger_contents}
use Rattle.fk_ledger.specs.Holds.{HoldsCurrent, Breaks, IsCurrentDamagedAt, KeepsLedger}
use Rattle.fk_ledger.specs.Older.{itself}
use Rattle.fk_ledger.specs.declared.older.Format.TheVariants.{Current}
use Rattle.fk_ledger.specs.Stretch.{IsLedgerOpening}
use Rattle.fk_ledger.specs.Private.{AreLedger, said_in}
use Rattle.fk_ledger.proofs.StretchLaws.{held_state}

opening : (ledger : List Change) (whole : Bool) (old new : ℕ → Areas → Type 0) (x y : Told) → IsOpening old new x y → HoldsCurrent x.areas ledger
    → (whole ≡ true → (image : Areas) → new y.moments image → HoldsCurrent image ledger) → IsLedgerOpening ledger whole old new x y
opening ledger whole old new x y opens held all = record {
  past = opens.past;
  unsynced = opens.unsynced;
  first = opens.first;
  then = record {
    later = opens.first.within;
    past = λ k image within. (λ h. h, λ h. h);
    each = λ k image behind upto left. (
      0,
      held_state ledger image (record {
        entries = same_held (selected x.areas) (selected image) (ledger_contents ledger) (opens.then k image behind upto left) held.entries;
        each = held.each;
        follow = held.follow;
      }),
    );
    all = λ is image left. held_state ledger image (all is image left);
  };
}

pub failed_opening : (ledger : List Change) (s t : Option Told) (old new : ℕ → Areas → Type 0) → IfTold s t (IsOpening old new) → IfTold s t (λ x y. HoldsCurrent x.areas ledger → IsLedgerOpening ledger false old new x y)
failed_opening ledger s t old new opens =
    if_told_map s t (IsOpening old new) (λ x y. HoldsCurrent x.areas ledger → IsLedgerOpening ledger false old new x y)
    (λ x y o held. opening ledger false old new x y o held (λ no. absurd (let n : false ≡ true = no in cc))) opens

pub whole_opening : (ledger : List Change) (contents : List Content) (log : Log) (s t : Option Told) (old new : ℕ → Areas → Type 0) → IfTold s t (IsOpening old new) → IfTold s t (λ x y. HoldsEntries (selected x.areas) contents)
    → Keeps log contents t new → IfTold s t (λ x y. HoldsCurrent x.areas ledger → IsLedgerOpening ledger true old new x y)
whole_opening ledger contents log s None old new opens entries keeps = tt
whole_opening ledger contents log None (Some y) old new opens entries keeps = absurd opens
whole_opening ledger contents log (Some x) (Some y) old new opens entries keeps = λ held.
    opening ledger true old new x y opens held (λ is image left.
    let same : contents ≡ ledger_contents ledger = one_list (selected x.areas) contents (ledger_contents ledger) entries held.entries in
    let closed : IsClosedBehind contents (selected image) = subst (IsClosedBehind contents) (sym (keeps.held.1 image left).1) keeps.held.0 in
    record { entries = subst (HoldsEntries (selected image)) same (inr closed); each = held.each; follow = held.follow })

-- ---- damage

abbrev pub error_of : (T : Type 0) → JournalErr → Result T JournalErr
error_of T e = Err e

pub bare : (T : Type 0) (d e : JournalErr) → error_of T d ≡ error_of T e → d ≡ e
bare T d e same = cc

-- an error is the same beside a value of any type
pub same_error : (T U : Type 0) (d e : JournalErr) → error_of T d ≡ error_of T e → error_of U d ≡ error_of U e
same_error T U d e same = ap (error_of U) (bare T d e same)

pub area_damaged : (place : ℕ) (s t : Option Told) → IfTold s t (λ x y. IsDamagedAt (selected x.areas) place) → IfTold s t (λ x y. IsCurrentDamagedAt (selected x.areas) place)
area_damaged place s t damaged = if_told_map s t (λ x y. IsDamagedAt (selected x.areas) place) (λ x y. IsCurrentDamagedAt (selected x.areas) place) (λ x y d. inl d) damaged

-- entries of this format say what they say
itself_map : (contents : List Content) → map itself contents ≡ contents
itself_map [] = refl
itself_map (content ∷ contents) = ap (λ (rest : List Content). content ∷ rest) (itself_map contents)

pub current_breaks : (contents : List Content) (place : ℕ) → Breaks (said_in Current) contents place → Breaks itself contents place
current_breaks contents place breaks = record {
  before = breaks.before;
  earlier = breaks.earlier;
  content = breaks.content;
  later = breaks.later;
  parts = breaks.parts;
  same = breaks.same;
  each = breaks.each;
  follow = breaks.follow;
  broken = breaks.broken;
  placed = breaks.placed;
}

pub entry_damaged : (contents : List Content) (place : ℕ) (s t : Option Told) → Breaks (said_in Current) contents place → IfTold s t (λ x y. HoldsEntries (selected x.areas) contents) → IfTold s t (λ x y. IsCurrentDamagedAt (selected x.areas) place)
entry_damaged contents place s t breaks entries =
    if_told_map s t (λ x y. HoldsEntries (selected x.areas) contents) (λ x y. IsCurrentDamagedAt (selected x.areas) place)
    (λ x y e. inr (contents, e, current_breaks contents place breaks)) entries

-- the entries of this format that are a ledger are those of its changes
pub current_entries : (contents : List Content) (found : List Change) → AreLedger (said_in Current) contents found → contents ≡ ledger_contents found
current_entries contents found are = sym (itself_map contents) ∙ are.entries

-- where entries were read, nothing of their area is unsynced
pub read_settled : (contents : List Content) (log : Log) (t : Option Told) (images : ℕ → Areas → Type 0) → Keeps log contents t images → IfSome t (λ now. IsSettled now images)
read_settled contents log None images keeps = tt
read_settled contents log (Some now) images keeps = keeps.held.1

-- ---- what was read is held, and kept

pub held_of : (contents : List Content) (found items : List Change) (s t : Option Told) → AreLedger (said_in Current) contents found → items ≡ found
    → IfTold s t (λ x y. HoldsEntries (selected x.areas) contents) → IfTold s t (λ x y. HoldsCurrent x.areas items)
held_of contents found items s t are same entries =
    subst (λ (ledger : List Change). IfTold s t (λ x y. HoldsCurrent x.areas ledger)) (sym same)
    (if_told_map s t (λ x y. HoldsEntries (selected x.areas) contents) (λ x y. HoldsCurrent x.areas found)
    (λ x y e. record { entries = subst (HoldsEntries (selected x.areas)) (current_entries contents found are) e; each = are.each; follow = are.follow }) entries)

pub kept_of : (contents : List Content) (found items : List Change) (log : Log) (t : Option Told) (images : ℕ → Areas → Type 0) → AreLedger (said_in Current) contents found → items ≡ found
    → Keeps log contents t images → KeepsLedger items t images
kept_of contents found items log t images are same keeps =
    subst (λ (ledger : List Change). KeepsLedger ledger t images) (sym same)
    (record {
      each = are.each;
      follow = are.follow;
      held = subst (λ (cs : List Content). IfSome t (λ now. IsClosedBehind cs (selected now.areas) × IsSettled now images)) (current_entries contents found are) keeps.held;
    })
