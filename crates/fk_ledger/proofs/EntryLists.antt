-- The entries of a journal as the changes of a ledger, one after the other.
use Rattle.std.proofs.Common.{◌≡◌, ℕ, zero, suc, ◌+◌, ◌<◌, List, [], ◌∷◌, ◌++◌, length, get_or, take, drop, map, sym, ap, subst, ◌∙◌, append_assoc, arith}
use Rattle.std.proofs.lemmas.List.{take_more, take-append-drop, map-append, length-append}
use Rattle.fk_trace.specs.declared.change.Change.{Change}
use Rattle.fk_trace.specs.Ledger.{MayFollow}
use Rattle.fk_journal.specs.declared.entry.Entry.{Entry}
use Rattle.fk_journal.specs.Entries.{Content, entry_bytes, entries_bytes, content_of_entry, contents_of, ArePlacedFrom}
use Rattle.fk_ledger.specs.Payloads.{content_of, ledger_contents, IsChange}
use Rattle.fk_ledger.specs.Holds.{Breaks, IsBroken}
use Rattle.fk_ledger.specs.Private.{AreLedger}
use Rattle.fk_ledger.proofs.StretchLaws.{all-push, follow-push, contents-push}
use Rattle.fk_ledger.proofs.LedgerLaws.{content-injective}

pub placed_at : (start : ℕ) (entries : List Entry) (i : ℕ) (entry : Entry) → ArePlacedFrom start entries → i < length entries → entry ≡ get_or entries i entry → entry.place ≡ start + length (entries_bytes (contents_of (take i entries)))
placed_at start [] i entry placed within at = absurd (omega arith)
placed_at start (first ∷ entries) zero entry placed within at = ap (λ (e : Entry). e.place) at ∙ placed.0 ∙ omega arith
placed_at start (first ∷ entries) (suc i) entry placed within at =
    let rest = placed_at (start + length (entry_bytes (content_of_entry first))) entries i entry placed.1 (omega arith) at in
    let both = length-append (entry_bytes (content_of_entry first)) (entries_bytes (contents_of (take i entries))) in
    rest ∙ omega arith

next_entry : (entries : List Entry) (i : ℕ) (entry : Entry) → i < length entries → entry ≡ get_or entries i entry → contents_of (take (i + 1) entries) ≡ contents_of (take i entries) ++ content_of_entry entry ∷ []
next_entry entries i entry within at =
    ap contents_of (take_more entries i entry within ∙ ap (λ x. take i entries ++ x ∷ []) (sym at)) ∙ map-append content_of_entry (take i entries) (entry ∷ [])

-- one entry more, by what it says
next_said : (says : Content → Content) (entries : List Entry) (i : ℕ) (entry : Entry) → i < length entries → entry ≡ get_or entries i entry
    → map says (contents_of (take (i + 1) entries)) ≡ map says (contents_of (take i entries)) ++ says (content_of_entry entry) ∷ []
next_said says entries i entry within at =
    ap (map says) (next_entry entries i entry within at) ∙ map-append says (contents_of (take i entries)) (content_of_entry entry ∷ [])

pub ledger_step : (says : Content → Content) (entries : List Entry) (i : ℕ) (entry : Entry) (ledger : List Change) (change : Change) → i < length entries → entry ≡ get_or entries i entry → AreLedger says (contents_of (take i entries)) ledger
    → IsChange change → says (content_of_entry entry) ≡ content_of change → MayFollow ledger change → AreLedger says (contents_of (take (i + 1) entries)) (ledger ++ change ∷ [])
ledger_step says entries i entry ledger change within at are is same may = record {
  entries = next_said says entries i entry within at ∙ ap (λ front. front ++ says (content_of_entry entry) ∷ []) are.entries ∙ ap (λ c. ledger_contents ledger ++ c ∷ []) same ∙ sym (contents-push ledger change);
  each = all-push ledger change are.each is;
  follow = follow-push [] ledger change are.follow may;
}

pub ledger_break : (says : Content → Content) (entries : List Entry) (i : ℕ) (entry : Entry) (ledger : List Change) (place : ℕ) → ArePlacedFrom 1 entries → i < length entries → entry ≡ get_or entries i entry → AreLedger says (contents_of (take i entries)) ledger
    → (place ≡ entry.place) × IsBroken ledger (says (content_of_entry entry)) → Breaks says (contents_of entries) place
ledger_break says entries i entry ledger place placed within at are broken = record {
  before = ledger;
  earlier = contents_of (take i entries);
  content = content_of_entry entry;
  later = contents_of (drop (i + 1) entries);
  parts =
      ap contents_of (sym (take-append-drop (i + 1) entries)) ∙ map-append content_of_entry (take (i + 1) entries) (drop (i + 1) entries)
      ∙ ap (λ front. front ++ contents_of (drop (i + 1) entries)) (next_entry entries i entry within at)
      ∙ append_assoc (contents_of (take i entries)) (content_of_entry entry ∷ []) (contents_of (drop (i + 1) entries));
  same = are.entries;
  each = are.each;
  follow = are.follow;
  broken = broken.1;
  placed = broken.0 ∙ placed_at 1 entries i entry placed within at;
}

-- a change that may not stand there is the only one with its entry
pub other_broken : (ledger : List Change) (content : Content) (change : Change) → IsChange change → content ≡ content_of change → (MayFollow ledger change → ⊥) → IsBroken ledger content
other_broken ledger content change is same none = λ other fits also may.
    none (subst (MayFollow ledger) (content-injective other change fits is (sym also ∙ same)) may)
