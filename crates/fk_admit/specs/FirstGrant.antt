-- Which stanza a grant is of.
use Rattle.std.specs.Prelude.{◌≡◌, ℕ, ◌+◌, ◌<◌, List, Some, None, slice_get}
use Rattle.fk_base.specs.declared.grant.Grant.{Grant}
use Rattle.fk_access.specs.declared.stanza.Stanza.{Stanza}
use Rattle.fk_admit.specs.Admit.{granted_by}
use Rattle.fk_admit.specs.Arrival.{Arrival}

-- the grant is that of a stanza of the file, by its number, and no stanza before it grants anything
pub record IsFirstGrant (access : List Stanza) (arrival : Arrival) (grant : Grant) : Type 0 where
  pub at : ℕ
  pub stanza : Stanza
  pub here : slice_get access at ≡ Some stanza
  pub grants : granted_by (at + 1) stanza arrival ≡ Some grant
  pub first : (earlier : ℕ) (other : Stanza) → earlier < at → slice_get access earlier ≡ Some other → granted_by (earlier + 1) other arrival ≡ None
