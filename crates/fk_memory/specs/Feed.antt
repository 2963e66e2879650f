-- A feed in memory.
use Rattle.std.specs.Prelude.{◌≡◌, ℕ, ◌+◌, ◌-◌, ◌==◌, nat_lt, Bool, true, false, List, [], ◌∷◌, length, map, take, Option, Some, None, MatchOption, slice_get, if◌then◌else◌}
use Rattle.fk_base.specs.declared.address.Ip4.{Ip4}
use Rattle.fk_trace.specs.Decision.{FeedTurn, Input}
use Rattle.fk_trace.specs.Decision.Input.{Quiet, Datagram}
use Rattle.fk_host.specs.declared.feed.TheConstants.{DATAGRAM_ROOM}
use Rattle.fk_host.specs.declared.feed.Turn.{Turn}
use Rattle.fk_host.specs.declared.feed.Input.TheVariants.{End}
use Rattle.fk_host.specs.Count.{counted}
use Rattle.fk_host.specs.Feed.{Given, turns_of}

-- where a feed in memory stands
pub record FeedState : Type 0 where
  -- its turns, with each datagram whole
  pub turns : List FeedTurn
  -- how many of them it has given
  pub given : ℕ
  -- the call for a turn that will fail, counted from the next one as 1; at 0 none will
  pub fails_in : ℕ
  -- the port of its last opening
  pub port : Option ℕ
  -- its last call has answered that no turn comes any more
  pub has_ended : Bool
  -- how often it has failed
  pub faults : ℕ

-- what a turn is taken for: a datagram of this source, or nothing but the time
abbrev pub input_of : Ip4 → Option (List ℕ) → Input
input_of source None = Quiet
input_of source (Some bytes) = Datagram source bytes

-- a turn as it is given: of a datagram only as many bytes as a buffer has room for
abbrev pub cut_input : Input → Input
cut_input Quiet = Quiet
cut_input (Datagram source bytes) = Datagram source (take DATAGRAM_ROOM bytes)

abbrev pub cut_turn : FeedTurn → FeedTurn
cut_turn turn = record { moment = turn.moment; input = cut_input turn.input }

-- what the feed tells
abbrev pub given_by : FeedState → Option Given
given_by feed = Some (record { turns = map cut_turn (take feed.given feed.turns); port = feed.port })

abbrev pub moment_of : Option FeedTurn → ℕ
moment_of None = 0
moment_of (Some turn) = turn.moment

-- the moment of the end: that of the last turn, or 0
abbrev pub end_moment : List FeedTurn → ℕ
end_moment turns = moment_of (slice_get turns (length turns - 1))

-- the answer in this buffer is the next turn, or behind the last turn the end
abbrev pub IsNext : FeedState → Turn → List ℕ → Type 0
IsNext feed turn buffer =
    MatchOption (slice_get feed.turns feed.given)
    ((turn.input ≡ End) × (turn.moment ≡ end_moment feed.turns))
    (λ next. turns_of turn buffer ≡ cut_turn next ∷ [])

-- the feed after it has given its next turn, or the end
abbrev pub after_turn : FeedState → FeedState
after_turn feed =
    if nat_lt feed.given (length feed.turns)
    then record feed { given = feed.given + 1; has_ended = false }
    else record feed { has_ended = true }

-- the feed after a call for a turn
abbrev pub after_next : FeedState → FeedState
after_next feed =
    if feed.fails_in == 1
    then record feed { fails_in = 0; has_ended = false; faults = counted feed.faults }
    else after_turn (record feed { fails_in = feed.fails_in - 1 })
