-- What an index holds. The contracts of private functions alone speak of it.
use Rattle.std.specs.Prelude.{◌≡◌, ℕ, ◌+◌, max, Bool, nat_eq, nat_le, List}
use Rattle.std.specs.List.{list_any, list_all}
use Rattle.std.specs.Cmp.Lexicographic.{pointwise}
use Rattle.std.specs.HashSet.{HashSet, contains}
use Rattle.fk_trace.specs.declared.change.Change.{Change}
use Rattle.fk_trace.specs.declared.change.Change.TheVariants.{Open, Done, Settled, Floor}
use Rattle.fk_trace.specs.Ledger.{is_seen, next_id}
use Rattle.fk_ledger.specs.declared.outline.Outline.{Outline}
use Rattle.fk_ledger.specs.Private.{is_below, opens_id, settles_id}

-- the digest is in the set
abbrev pub holds : {S : Type 0} → List ℕ → HashSet (List ℕ) S → Bool
holds digest set = contains (pointwise nat_eq) set digest

-- the set has the digests that the ledger has kept, and no others
abbrev pub Indexes : {S : Type 0} → HashSet (List ℕ) S → List Change → Type 0
Indexes set ledger = (digest : List ℕ) → holds digest set ≡ is_seen digest ledger

-- the number above those of the records, where it was this one before the change
abbrev pub above_by : Change → ℕ → ℕ
above_by (Open item) above = max above (item.id + 1)
above_by (Done id) above = above
above_by (Settled id stamp digest) above = max above (id + 1)
above_by (Floor floor next) above = above

-- the outline says of the ledger what is asked where a change may follow it
pub record Outlines (outline : Outline) (ledger : List Change) : Type 0 where
  pub next : outline.next ≡ next_id ledger
  pub above : (id : ℕ) → list_all (is_below id) ledger ≡ nat_le outline.above id
  pub digests : Indexes outline.digests ledger
  pub opened : (id : ℕ) → contains nat_eq outline.opened id ≡ list_any (opens_id id) ledger
  pub closed : (id : ℕ) → contains nat_eq outline.closed id ≡ list_any (settles_id id) ledger
