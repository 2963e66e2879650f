-- When a live record is idle, so that its close may be attempted. All is read off the past of a place and the moments of
-- its ends: one moment for each Ended, the latest first, each the moment that was handed in with that end.
use Rattle.std.specs.Prelude.{ℕ, Bool, false, not, ◌+◌, ◌==◌, ◌&&◌, nat_lt, nat_le, List, [], ◌∷◌, Option, Some, None, if◌then◌else◌}
use Rattle.std.specs.List.{find}
use Rattle.fk_trace.specs.Trace.{Event, Item, Child, children, open_runs, close_runs, is_close_of}
use Rattle.fk_trace.specs.Trace.Event.{Turn, Began, StartFailed, Ended, Runs, PollFailed}

-- the child of this number, if it began before the place
abbrev pub child_numbered : ℕ → List Item → Option Child
child_numbered number past = find (λ child. child.number == number) (children past)

abbrev pub is_close_child : ℕ → Option Child → Bool
is_close_child id None = false
is_close_child id (Some child) = is_close_of id child.purpose

-- how and when a child ended
pub record End : Type 0 where
  pub good : Bool
  pub moment : ℕ

abbrev pub first_moment : List ℕ → ℕ
first_moment [] = 0
first_moment (moment ∷ moments) = moment

abbrev pub other_moments : List ℕ → List ℕ
other_moments [] = []
other_moments (moment ∷ moments) = moments

-- the moments of the ends before the event
abbrev pub moments_before : Event → List ℕ → List ℕ
moments_before (Turn number) ends = ends
moments_before (Began number purpose words) ends = ends
moments_before (StartFailed purpose words) ends = ends
moments_before (Ended number good) ends = other_moments ends
moments_before (Runs number) ends = ends
moments_before (PollFailed number) ends = ends

-- the moments of the ends behind these items, all of one turn with this moment
abbrev pub moments_with : ℕ → Event → List ℕ → List ℕ
moments_with moment (Turn number) ends = ends
moments_with moment (Began number purpose words) ends = ends
moments_with moment (StartFailed purpose words) ends = ends
moments_with moment (Ended number good) ends = moment ∷ ends
moments_with moment (Runs number) ends = ends
moments_with moment (PollFailed number) ends = ends

abbrev pub ends_after : ℕ → List ℕ → List Item → List ℕ
ends_after moment ends [] = ends
ends_after moment ends (item ∷ items) = ends_after moment (moments_with moment item.event ends) items

-- the end of a close of the record, if the event is one
abbrev pub close_end : ℕ → Event → List Item → List ℕ → Option End
close_end id (Turn number) past ends = None
close_end id (Began number purpose words) past ends = None
close_end id (StartFailed purpose words) past ends = None
close_end id (Ended number good) past ends =
    if is_close_child id (child_numbered number past) then Some (record { good = good; moment = first_moment ends }) else None
close_end id (Runs number) past ends = None
close_end id (PollFailed number) past ends = None

abbrev pub or_else : Option End → Option End → Option End
or_else None other = other
or_else (Some end) other = Some end

-- the end of that close of the record which ended last
abbrev pub last_close : List Item → List ℕ → ℕ → Option End
last_close [] ends id = None
last_close (item ∷ past) ends id = or_else (close_end id item.event past ends) (last_close past (moments_before item.event ends) id)

abbrev pub ended_well : Option End → Bool
ended_well None = false
ended_well (Some end) = end.good

-- for how many seconds a record rests after a close of it that ended badly
abbrev pub rest : ℕ
rest = 10

-- the last close failed less than that ago; where the clock stands before that end, it doesn't count
abbrev pub rests : Option End → ℕ → Bool
rests None moment = false
rests (Some end) moment = not end.good && nat_le end.moment moment && nat_lt moment (end.moment + rest)

-- a record is idle at a place with this moment where no close of it runs, none that ended well waits for its open's end,
-- and none failed while the record rests
abbrev pub is_idle : List Item → List ℕ → ℕ → ℕ → Bool
is_idle past ends moment id =
    not (close_runs past id) && not (open_runs past id && ended_well (last_close past ends id)) && not (rests (last_close past ends id) moment)

-- the event began the child of this number
abbrev pub begins : ℕ → Event → Bool
begins number (Turn n) = false
begins number (Began n purpose words) = n == number
begins number (StartFailed purpose words) = false
begins number (Ended n good) = false
begins number (Runs n) = false
begins number (PollFailed n) = false

-- a close is clean where no open of its record ran when it began
abbrev pub is_clean : List Item → ℕ → ℕ → Bool
is_clean [] number id = false
is_clean (item ∷ past) number id = if begins number item.event then not (open_runs past id) else is_clean past number id
