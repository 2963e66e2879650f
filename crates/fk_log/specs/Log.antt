-- What a run writes: the lines of its turns, one after another, and the line that says how it ended.
use Rattle.std.specs.Prelude.{◌≡◌, ◌⊎◌, ℕ, false, List, [], ◌∷◌, ◌++◌, map, length, Option, Some, None}
use Rattle.std.specs.List.{cons_option, filter_map}
use Rattle.fk_base.specs.declared.address.Ip4.{Ip4}
use Rattle.fk_base.specs.declared.purpose.Purpose.{Purpose}
use Rattle.fk_base.specs.declared.purpose.Purpose.TheVariants.{Open, Close}
use Rattle.fk_trace.specs.declared.change.Change.{Change}
use Rattle.fk_trace.specs.declared.change.Change.TheVariants.{Done}
use Rattle.fk_trace.specs.Trace.{Event, Item, Child, Attempt, attempt_of, close_attempted}
use Rattle.fk_trace.specs.Trace.Event.{Turn, Began, StartFailed, Ended, Runs, PollFailed}
use Rattle.fk_trace.specs.Ledger.{opens, dones, live, after}
use Rattle.fk_trace.specs.Idle.{child_numbered}
use Rattle.fk_trace.specs.Decision.{Input, Rules, Answer, answer}
use Rattle.fk_trace.specs.Decision.Input.{Quiet, Datagram}
use Rattle.fk_trace.specs.Decision.Answer.{Nothing, Refuses, Opens}
use Rattle.fk_run.specs.Place.{Place, entry}
use Rattle.fk_run.specs.Turn.{TakenTurn, after_turn}
use Rattle.fk_run.specs.Run.{Run, Ending, changes_of}
use Rattle.fk_run.specs.Run.Ending.{AtLimit, AtEnd, AtFeedFault, AtDiskFault, AtWantOfMemory, AtBadLine, AtLongInput, AtReadFault}
use Rattle.fk_log.specs.declared.verbosity.Verbosity.{Verbosity}
use Rattle.fk_log.specs.Line.{Line}
use Rattle.fk_log.specs.Line.Line.{ReadyLine, TurnLine, EndedLine, PollFailedLine, SettledLine, RefusedLine, GrantedLine, OpenedLine, ClosedLine, SummaryLine, BadLineLine, LongInputLine, FeedFailedLine, DiskFailedLine, InputFailedLine}
use Rattle.fk_log.specs.Tally.{tally_of}
use Rattle.fk_log.specs.Shown.{shown_text}

-- whether a log has the refusal of a datagram in the turn that the run's end has cut
pub data RefusalLine : Type 0 where
  Told : RefusalLine
  Untold : RefusalLine

-- whether the feed was opened (in a trial: the files were read), so that the run says `ready`
pub data Opening : Type 0 where
  Opened : Opening
  Unopened : Opening

-- the line of a poll of this child
abbrev pub child_line : (Purpose → Line) → Option Child → Option Line
child_line line None = None
child_line line (Some child) = Some (line child.purpose)

-- the line of a poll: how the child ended, or that the poll failed
abbrev pub poll_line : ℕ → List Item → Event → Option Line
poll_line moment past (Turn number) = None
poll_line moment past (Began number purpose words) = None
poll_line moment past (StartFailed purpose words) = None
poll_line moment past (Ended number good) = child_line (λ purpose. EndedLine moment purpose good) (child_numbered number past)
poll_line moment past (Runs number) = None
poll_line moment past (PollFailed number) = child_line (λ purpose. PollFailedLine moment purpose) (child_numbered number past)

-- the lines of the polls in these items, in their order
abbrev pub poll_lines : ℕ → List Item → List Item → List Line
poll_lines moment past [] = []
poll_lines moment past (item ∷ items) = cons_option (poll_line moment past item.event) (poll_lines moment (item ∷ past) items)

-- the line of an attempt
abbrev pub purpose_line : ℕ → Attempt → Purpose → Line
purpose_line moment attempt (Open id) = OpenedLine moment id attempt.words attempt.begun
purpose_line moment attempt (Close id) = ClosedLine moment id attempt.words attempt.begun

abbrev pub attempt_line : ℕ → Option Attempt → Option Line
attempt_line moment None = None
attempt_line moment (Some attempt) = Some (purpose_line moment attempt attempt.purpose)

-- the lines of the attempts in these items, in their order
abbrev pub attempt_lines : ℕ → List Item → List Line
attempt_lines moment items = filter_map (λ item. attempt_line moment (attempt_of item.event)) items

-- the lines of the settlements among these changes
abbrev pub settled_lines : ℕ → List Change → List Line
settled_lines moment changes = map (SettledLine moment) (dones changes)

-- the line of what a datagram was answered: the grant where its record is among the changes, or the refusal where it is told
abbrev pub answer_lines : ℕ → Ip4 → RefusalLine → List Change → Answer → List Line
answer_lines moment source refusal changes Nothing = []
answer_lines moment source Told changes (Refuses why) = RefusedLine moment source why ∷ []
answer_lines moment source Untold changes (Refuses why) = []
answer_lines moment source refusal changes (Opens item permit made) = map (λ opened. GrantedLine moment source opened.id permit.stanza opened.due) (opens changes)

abbrev pub input_lines : ℕ → Input → RefusalLine → List Change → Answer → List Line
input_lines moment Quiet refusal changes given = []
input_lines moment (Datagram source datagram) refusal changes given = answer_lines moment source refusal changes given

-- what the datagram of a turn at a place was answered, over the ledger with the settlements of the turn
abbrev pub answer_in : Rules → Place → TakenTurn → Answer
answer_in rules place taken = answer rules (after place.ledger (map Done (dones taken.changes))) taken.turn

-- the lines of a turn at a place: its beginning, the polls, the settlements, the answer and the attempts
abbrev pub turn_lines : Rules → Place → RefusalLine → TakenTurn → List Line
turn_lines rules place refusal taken =
    TurnLine taken.turn.moment place.number
    ∷ poll_lines taken.turn.moment place.past taken.items
    ++ settled_lines taken.turn.moment taken.changes
    ++ input_lines taken.turn.moment taken.turn.input refusal taken.changes (answer_in rules place taken)
    ++ attempt_lines taken.turn.moment taken.items

-- a turn with others behind it tells its refusal
abbrev pub told_before : List TakenTurn → RefusalLine → RefusalLine
told_before [] refusal = refusal
told_before (next ∷ later) refusal = Told

-- the lines of turns, one after another; whether the last one tells a refusal is an argument
abbrev pub lines_of_turns : Rules → Place → RefusalLine → List TakenTurn → List Line
lines_of_turns rules place refusal [] = []
lines_of_turns rules place refusal (taken ∷ later) =
    turn_lines rules place (told_before later refusal) taken ++ lines_of_turns rules (after_turn place taken) refusal later

-- the items of the last of these turns, or these items where there is none
abbrev pub last_items : List Item → List TakenTurn → List Item
last_items items [] = items
last_items items (taken ∷ later) = last_items taken.items later

-- The refusal of a last turn with these items is told, save in a turn that a fault of the disk has cut, which came before it; in
-- one that is cut for want of memory before its first close attempt it may be missing.
abbrev pub MayTellAt : Ending → List Item → RefusalLine → Type 0
MayTellAt AtDiskFault items refusal = refusal ≡ Untold
MayTellAt AtWantOfMemory items refusal = (refusal ≡ Told) ⊎ ((id : ℕ) → close_attempted items id ≡ false)
MayTellAt _ items refusal = refusal ≡ Told

abbrev pub MayTell : Run → RefusalLine → Type 0
MayTell run refusal = MayTellAt run.ending (last_items [] run.turns) refusal

-- the summary of these lines, for this many turns and live records
abbrev pub summary_of : List Line → ℕ → ℕ → Line
summary_of lines turns live_count = SummaryLine turns (tally_of lines) live_count

-- the last line, which is this summary where nothing failed; none where memory ran out
abbrev pub ending_lines : Ending → Line → List Line
ending_lines AtLimit summary = summary ∷ []
ending_lines AtEnd summary = summary ∷ []
ending_lines AtFeedFault summary = FeedFailedLine ∷ []
ending_lines AtDiskFault summary = DiskFailedLine ∷ []
ending_lines AtWantOfMemory summary = []
ending_lines (AtBadLine line) summary = BadLineLine line ∷ []
ending_lines (AtLongInput line) summary = LongInputLine line ∷ []
ending_lines AtReadFault summary = InputFailedLine ∷ []

-- the first line, over the ledger that the run found
abbrev pub opening_lines : Opening → List Change → List Line
opening_lines Opened ledger = ReadyLine (length (live ledger)) ∷ []
opening_lines Unopened ledger = []

-- the lines of a run before its last
abbrev pub lines_before_end : Opening → RefusalLine → Run → List Line
lines_before_end opening refusal run = opening_lines opening run.ledger ++ lines_of_turns run.rules (entry run.ledger) refusal run.turns

-- all lines of a run
abbrev pub log_lines : Opening → RefusalLine → Run → List Line
log_lines opening refusal run =
    let before : List Line = lines_before_end opening refusal run in
    before ++ ending_lines run.ending (summary_of before (length run.turns) (length (live (after run.ledger (changes_of run)))))

-- what a run writes: the text of the lines that are shown
abbrev pub log_text : Verbosity → Opening → RefusalLine → Run → List ℕ
log_text verbosity opening refusal run = shown_text verbosity (log_lines opening refusal run)
