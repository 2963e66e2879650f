-- A place of a run: all that the definitions look back at from there.
use Rattle.std.specs.Prelude.{ℕ, List, []}
use Rattle.fk_trace.specs.declared.change.Change.{Change}
use Rattle.fk_trace.specs.Trace.{Item, past_after}
use Rattle.fk_trace.specs.Ledger.{after}
use Rattle.fk_trace.specs.Idle.{ends_after}

pub record Place : Type 0 where
  -- the items of the run before the place, the latest first
  pub past : List Item
  -- the moments of the ends among them, the latest first
  pub ends : List ℕ
  -- the ledger as it stands there
  pub ledger : List Change
  -- the number of the turn that begins next
  pub number : ℕ

-- where a run over this ledger begins
abbrev pub entry : List Change → Place
entry ledger = record { past = []; ends = []; ledger = ledger; number = 1 }

-- the place behind these items of a turn with this moment
abbrev pub behind : ℕ → Place → List Item → Place
behind moment place items = record place { past = past_after place.past items; ends = ends_after moment place.ends items }

-- the place after these changes
abbrev pub changed : Place → List Change → Place
changed place changes = record place { ledger = after place.ledger changes }
