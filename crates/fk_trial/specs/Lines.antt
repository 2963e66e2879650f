-- The lines of a trial's input: `MOMENT` alone, or `MOMENT SOURCE DATAGRAM` with single spaces.
use Rattle.std.specs.Prelude.{◌≡◌, ℕ, ◌<◌, ◌≤◌, ◌^◌, ◌&&◌, nat_le, Bool, IsTrue, List, ◌∷◌, ◌++◌, length, Option}
use Rattle.std.specs.List.{list_all, AllByRecursion}
use Rattle.std.specs.Fmt.{decimal}
use Rattle.fk_base.specs.Address.{ip_text}
use Rattle.fk_base.specs.declared.moment.TheConstants.{GREATEST_MOMENT}
use Rattle.fk_trace.specs.Decision.{Input, FeedTurn}
use Rattle.fk_trace.specs.Decision.Input.{Quiet, Datagram}
use Rattle.fk_input.specs.declared.fault.Fault.{Fault}
use Rattle.fk_input.specs.Lines.{pieces, content, line_limit, input_limit, Reads}

-- a byte that is seen: from 0x21 to 0x7e
abbrev pub is_visible : ℕ → Bool
is_visible byte = nat_le 0x21 byte && nat_le byte 0x7e

-- at least one byte, and each of them is seen
pub record IsVisibleText (text : List ℕ) : Type 0 where
  pub some : 0 < length text
  pub visible : IsTrue (list_all is_visible text)

-- the line says this at the moment
abbrev pub IsLineAt : List ℕ → ℕ → Input → Type 0
IsLineAt line moment Quiet = line ≡ decimal moment
IsLineAt line moment (Datagram source datagram) =
    (source.0 < 2 ^ 32) × IsVisibleText datagram × (line ≡ decimal moment ++ 32 ∷ (ip_text source ++ 32 ∷ datagram))

-- the line is that of the turn
abbrev pub IsTurnLine : List ℕ → FeedTurn → Type 0
IsTurnLine line turn = (turn.moment ≤ GREATEST_MOMENT) × IsLineAt line turn.moment turn.input

-- the line is that of no turn
abbrev pub IsNoTurnLine : List ℕ → Type 0
IsNoTurnLine line = (turn : FeedTurn) → IsTurnLine line turn → ⊥

-- what lines say: the turns, and the first fault
abbrev pub ReadsTurns : List (List ℕ) → List FeedTurn → Option Fault → Type 0
ReadsTurns lines turns fault = Reads IsTurnLine 0 1 lines turns fault

-- no byte of these shows that a limit is passed: no line of them is too long, the unfinished last one neither, and together they are
-- no input that is too long
pub record AreWithinLimits (bytes : List ℕ) : Type 0 where
  pub lines : AllByRecursion (λ piece. length (content piece) ≤ line_limit) (pieces bytes)
  pub whole : length bytes ≤ input_limit
