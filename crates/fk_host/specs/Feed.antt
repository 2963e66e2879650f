-- Feeds: the turns that they have given, where they tell.
use Rattle.std.specs.Prelude.{◌≡◌, ℕ, Bool, true, false, List, [], ◌∷◌, ◌++◌, take, Option, Some, IfSome, Result, Ok, Err}
use Rattle.fk_base.specs.declared.memory.Failed.{Failed}
use Rattle.fk_trace.specs.Decision.{FeedTurn}
use Rattle.fk_trace.specs.Decision.Input.{Quiet as QuietTurn, Datagram as DatagramTurn}
use Rattle.fk_host.specs.declared.feed.Turn.{Turn}
use Rattle.fk_host.specs.declared.feed.Input.{Input}
use Rattle.fk_host.specs.declared.feed.Input.TheVariants.{Datagram, Quiet, End}

-- what a feed says of itself, where it tells
pub record Given : Type 0 where
  -- the turns that it has given, the first of them first
  pub turns : List FeedTurn
  -- the port of the last opening that ended well
  pub port : Option ℕ

-- how many bytes of the buffer an answer speaks of
abbrev pub datagram_len : Input → ℕ
datagram_len (Datagram source len) = len
datagram_len Quiet = 0
datagram_len End = 0

-- the turn that was given at this moment in this buffer: the end is no turn
abbrev pub turns_of_input : ℕ → List ℕ → Input → List FeedTurn
turns_of_input moment buffer (Datagram source len) = record { moment = moment; input = DatagramTurn source (take len buffer) } ∷ []
turns_of_input moment buffer Quiet = record { moment = moment; input = QuietTurn } ∷ []
turns_of_input moment buffer End = []

abbrev pub turns_of : Turn → List ℕ → List FeedTurn
turns_of turn buffer = turns_of_input turn.moment buffer turn.input

-- The turns were given behind the earlier ones, and all else is as before. A feed that doesn't tell claims nothing.
abbrev pub GivesTurns : List FeedTurn → Option Given → Option Given → Type 0
GivesTurns turns old new = IfSome old (λ given. new ≡ Some (record given { turns = given.turns ++ turns }))

-- The feed is open at this port, and has given the turns that it had. A feed that doesn't tell claims nothing.
abbrev pub OpensAt : ℕ → Option Given → Option Given → Type 0
OpensAt port old new = IfSome old (λ given. new ≡ Some (record given { port = Some port }))

-- the answer is that no turn comes any more
abbrev pub is_end_input : Input → Bool
is_end_input (Datagram source len) = false
is_end_input Quiet = false
is_end_input End = true

abbrev pub is_end : Result Turn Failed → Bool
is_end (Ok turn) = is_end_input turn.input
is_end (Err error) = false
