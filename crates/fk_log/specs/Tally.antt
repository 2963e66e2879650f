-- How many lines of four kinds a log has, as its summary tells them.
use Rattle.std.specs.Prelude.{ℕ, ◌+◌, min, max, Bool, true, false, List}
use Rattle.std.specs.List.{count_by}
use Rattle.fk_log.specs.declared.tally.Tally.{Tally}
use Rattle.fk_log.specs.Line.{Line}
use Rattle.fk_log.specs.Line.Line.{OpenedLine, ClosedLine, SettledLine, RefusedLine}

-- an open whose child began
abbrev pub is_begun_open : Line → Bool
is_begun_open (OpenedLine moment id words begun) = begun
is_begun_open _ = false

-- a close whose child began
abbrev pub is_begun_close : Line → Bool
is_begun_close (ClosedLine moment id words begun) = begun
is_begun_close _ = false

abbrev pub is_settled : Line → Bool
is_settled (SettledLine moment id) = true
is_settled _ = false

abbrev pub is_refused : Line → Bool
is_refused (RefusedLine moment source refusal) = true
is_refused _ = false

-- A count with this many more. It stops at the greatest number of 64 bits, in which the code keeps it, and never falls.
abbrev pub counted_on : ℕ → ℕ → ℕ
counted_on count more = max count (min (count + more) 18446744073709551615)

-- the tally with these lines more
abbrev pub tallied : Tally → List Line → Tally
tallied tally lines = record {
  opens = counted_on tally.opens (count_by is_begun_open lines);
  closes = counted_on tally.closes (count_by is_begun_close lines);
  settled = counted_on tally.settled (count_by is_settled lines);
  refused = counted_on tally.refused (count_by is_refused lines);
}

-- the tally of no lines
abbrev pub blank_tally : Tally
blank_tally = record { opens = 0; closes = 0; settled = 0; refused = 0 }

-- the tally of these lines
abbrev pub tally_of : List Line → Tally
tally_of lines = tallied blank_tally lines
