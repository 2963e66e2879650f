-- Which lines are printed.
use Rattle.std.specs.Prelude.{ℕ, Bool, true, false, not, List}
use Rattle.std.specs.List.{filter}
use Rattle.fk_log.specs.declared.verbosity.Verbosity.{Verbosity}
use Rattle.fk_log.specs.declared.verbosity.Verbosity.TheVariants as verbosity
use Rattle.fk_log.specs.Line.{Line, text_of_lines}
use Rattle.fk_log.specs.Line.Line.{ReadyLine, TurnLine, EndedLine, PollFailedLine, SettledLine, RefusedLine, GrantedLine, OpenedLine, ClosedLine}

abbrev pub begins_turn : Line → Bool
begins_turn (TurnLine moment number) = true
begins_turn _ = false

-- the line tells how the run goes on, and not how it ended or what was asked for
abbrev pub tells_progress : Line → Bool
tells_progress (ReadyLine live) = true
tells_progress (TurnLine moment number) = true
tells_progress (EndedLine moment purpose good) = true
tells_progress (PollFailedLine moment purpose) = true
tells_progress (SettledLine moment id) = true
tells_progress (RefusedLine moment source refusal) = true
tells_progress (GrantedLine moment source id stanza due) = true
tells_progress (OpenedLine moment id words begun) = true
tells_progress (ClosedLine moment id words begun) = true
tells_progress _ = false

-- what is printed: no progress, all but the beginnings of turns, or all
abbrev pub shows : Verbosity → Line → Bool
shows verbosity.Quiet line = not (tells_progress line)
shows verbosity.Normal line = not (begins_turn line)
shows verbosity.Verbose line = true

-- the text of those of the lines that are printed
abbrev pub shown_text : Verbosity → List Line → List ℕ
shown_text verbosity lines = text_of_lines (filter (shows verbosity) lines)
