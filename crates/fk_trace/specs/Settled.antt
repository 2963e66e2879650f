-- Which records a turn's items settle: those whose clean close ended well in them.
use Rattle.std.specs.Prelude.{◌≡◌, ℕ, true, IsTrue, List, [], ◌∷◌, ◌++◌, map, Option, Some, None, if◌then◌else◌}
use Rattle.std.specs.List.{cons_option}
use Rattle.fk_base.specs.declared.purpose.Purpose.{Purpose}
use Rattle.fk_base.specs.declared.purpose.Purpose.TheVariants.{Open, Close}
use Rattle.fk_trace.specs.declared.change.Change.{Change}
use Rattle.fk_trace.specs.declared.change.Change.TheVariants.{Done}
use Rattle.fk_trace.specs.Trace.{Event, Item, Child, past_after}
use Rattle.fk_trace.specs.Trace.Event.{Turn, Began, StartFailed, Ended, Runs, PollFailed}
use Rattle.fk_trace.specs.Idle.{child_numbered, is_clean}

-- the record that a good end of this child settles: a clean close settles its own
abbrev pub settled_by : List Item → ℕ → Purpose → Option ℕ
settled_by past number (Open id) = None
settled_by past number (Close id) = if is_clean past number id then Some id else None

abbrev pub settled_by_child : List Item → ℕ → Option Child → Option ℕ
settled_by_child past number None = None
settled_by_child past number (Some child) = settled_by past number child.purpose

abbrev pub settled_at : List Item → Event → Option ℕ
settled_at past (Turn number) = None
settled_at past (Began number purpose words) = None
settled_at past (StartFailed purpose words) = None
settled_at past (Ended number good) = if good then settled_by_child past number (child_numbered number past) else None
settled_at past (Runs number) = None
settled_at past (PollFailed number) = None

-- the records whose clean close ended well in these items, in the order of those ends
abbrev pub settled_in : List Item → List Item → List ℕ
settled_in past [] = []
settled_in past (item ∷ items) = cons_option (settled_at past item.event) (settled_in (item ∷ past) items)

abbrev pub settlements : List Item → List Item → List Change
settlements past items = map Done (settled_in past items)

-- in these items, behind this past, a poll said that a close of the record has ended well, and that close was clean
pub record EndedCleanly (past items : List Item) (id : ℕ) : Type 0 where
  pub before : List Item
  pub ended : Item
  pub after : List Item
  pub number : ℕ
  pub placed : items ≡ before ++ ended ∷ after
  pub well : ended.event ≡ Ended number true
  pub closes : child_numbered number (past_after past before) ≡ Some (record { number = number; purpose = Close id })
  pub clean : IsTrue (is_clean (past_after past before) number id)
