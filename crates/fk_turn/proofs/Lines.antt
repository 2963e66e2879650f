-- The lines of a turn, part by part.
use Rattle.std.proofs.Common.{◌≡◌, ℕ, Bool, true, false, List, [], ◌∷◌, ◌++◌, map, Option, Some, None, refl, ap, ◌∙◌, append_assoc, append-nil}
use Rattle.std.specs.List.{AllByRecursion, cons_option}
use Rattle.std.proofs.lemmas.List.Elements.{filter_map-append}
use Rattle.fk_base.specs.declared.address.Ip4.{Ip4}
use Rattle.fk_trace.specs.declared.change.OpenRecord.{OpenRecord}
use Rattle.fk_trace.specs.declared.change.Change.{Change}
use Rattle.fk_trace.specs.declared.change.Change.TheVariants.{Done}
use Rattle.fk_trace.specs.Trace.{Event, Item, Child, attempt_of, past_after}
use Rattle.fk_trace.specs.Trace.Event.{Turn, Began, StartFailed, Ended, Runs, PollFailed}
use Rattle.fk_trace.specs.Ledger.{opens, dones, after}
use Rattle.fk_trace.specs.Idle.{child_numbered}
use Rattle.fk_trace.specs.Decision.{FeedTurn, Input, Rules, Answer, answer}
use Rattle.fk_trace.specs.Decision.Input.{Quiet, Datagram}
use Rattle.fk_trace.specs.Decision.Answer.{Nothing, Refuses, Opens}
use Rattle.fk_trace.proofs.Ledgers.{opens-append, dones-append}
use Rattle.fk_run.specs.Place.{Place}
use Rattle.fk_run.specs.Turn.{TakenTurn}
use Rattle.fk_log.specs.Line.{Line}
use Rattle.fk_log.specs.Line.Line.{TurnLine, SettledLine, EndedLine, PollFailedLine, GrantedLine}
use Rattle.fk_log.specs.Log.{RefusalLine, child_line, poll_line, poll_lines, attempt_line, attempt_lines, settled_lines, answer_lines, input_lines, answer_in, turn_lines}
use Rattle.fk_log.specs.Log.RefusalLine.{Told, Untold}
use Rattle.fk_child.specs.declared.items.EndItem.{EndItem}
use Rattle.fk_child.specs.Calls.{end_item, ends_in, polled_number}
use Rattle.fk_turn.specs.Parts.{end_line}
use Rattle.fk_turn.proofs.Items.{Tries, Polls, tries-lines, polls-lines, poll_lines-append, all-joined}

pub dones-settled : (ids : List ℕ) → dones (map Done ids) ≡ ids
dones-settled [] = refl
dones-settled (id ∷ ids) = ap (λ (xs : List ℕ). id ∷ xs) (dones-settled ids)

pub opens-settled : (ids : List ℕ) → opens (map Done ids) ≡ []
opens-settled [] = refl
opens-settled (id ∷ ids) = opens-settled ids

pub dones-part : (ids : List ℕ) (more : List Change) → dones more ≡ [] → dones (map Done ids ++ more) ≡ ids
dones-part ids more none =
    dones-append (map Done ids) more ∙ ap (λ (xs : List ℕ). xs ++ dones more) (dones-settled ids) ∙ ap (λ (xs : List ℕ). ids ++ xs) none ∙ append-nil ids

opens-part : (ids : List ℕ) (more : List Change) → opens (map Done ids ++ more) ≡ opens more
opens-part ids more = opens-append (map Done ids) more ∙ ap (λ (xs : List OpenRecord). xs ++ opens more) (opens-settled ids)

answered : (moment : ℕ) (source : Ip4) (refusal : RefusalLine) (a b : List Change) (given : Answer) → opens a ≡ opens b → answer_lines moment source refusal a given ≡ answer_lines moment source refusal b given
answered moment source refusal a b Nothing e = refl
answered moment source Told a b (Refuses why) e = refl
answered moment source Untold a b (Refuses why) e = refl
answered moment source refusal a b (Opens item permit changes) e = ap (map (λ (made : OpenRecord). GrantedLine moment source made.id permit.stanza made.due)) e

input-same : (moment : ℕ) (input : Input) (refusal : RefusalLine) (a b : List Change) (given : Answer) → opens a ≡ opens b → input_lines moment input refusal a given ≡ input_lines moment input refusal b given
input-same moment Quiet refusal a b given e = refl
input-same moment (Datagram source datagram) refusal a b given e = answered moment source refusal a b given e

-- where no refusal is told and no record is made, nothing is
pub no_refusal-told : (moment : ℕ) (input : Input) (given : Answer) → input_lines moment input Untold [] given ≡ []
no_refusal-told moment Quiet given = refl
no_refusal-told moment (Datagram source datagram) Nothing = refl
no_refusal-told moment (Datagram source datagram) (Refuses why) = refl
no_refusal-told moment (Datagram source datagram) (Opens item permit changes) = refl

module _ (rules : Rules) (place : Place) (refusal : RefusalLine) (turn : FeedTurn) (start : Item) (polled opened closed : List Item) (ids : List ℕ) (more : List Change) where
  abbrev pub taken_turn : TakenTurn
  taken_turn = record { turn = turn; items = start ∷ (polled ++ opened) ++ closed; changes = map Done ids ++ more }

  abbrev pub told_lines : List Line
  told_lines =
      (((TurnLine turn.moment place.number ∷ poll_lines turn.moment (start ∷ place.past) polled) ++ map (SettledLine turn.moment) ids)
      ++ input_lines turn.moment turn.input refusal more (answer rules (after place.ledger (map Done ids)) turn)) ++ (attempt_lines turn.moment opened ++ attempt_lines turn.moment closed)

  polled-part : start.event ≡ Turn place.number → AllByRecursion Tries opened → AllByRecursion Tries closed
      → poll_lines turn.moment place.past taken_turn.items ≡ poll_lines turn.moment (start ∷ place.past) polled
  polled-part begins o k =
      ap (λ (event : Event). cons_option (poll_line turn.moment place.past event) (poll_lines turn.moment (start ∷ place.past) ((polled ++ opened) ++ closed))) begins
      ∙ ap (poll_lines turn.moment (start ∷ place.past)) (append_assoc polled opened closed)
      ∙ poll_lines-append turn.moment (start ∷ place.past) polled (opened ++ closed)
      ∙ ap (λ (xs : List Line). poll_lines turn.moment (start ∷ place.past) polled ++ xs)
      (tries-lines turn.moment (past_after (start ∷ place.past) polled) (opened ++ closed) (all-joined Tries opened closed o k))
      ∙ append-nil (poll_lines turn.moment (start ∷ place.past) polled)

  attempts-part : start.event ≡ Turn place.number → AllByRecursion Polls polled
      → attempt_lines turn.moment taken_turn.items ≡ attempt_lines turn.moment opened ++ attempt_lines turn.moment closed
  attempts-part begins p =
      let line : Item → Option Line = λ item. attempt_line turn.moment (attempt_of item.event) in
      ap (λ (event : Event). cons_option (attempt_line turn.moment (attempt_of event)) (attempt_lines turn.moment ((polled ++ opened) ++ closed))) begins
      ∙ filter_map-append line (polled ++ opened) closed
      ∙ ap (λ (xs : List Line). xs ++ attempt_lines turn.moment closed)
      (filter_map-append line polled opened ∙ ap (λ (xs : List Line). xs ++ attempt_lines turn.moment opened) (polls-lines turn.moment polled p))

  pub lines-of : start.event ≡ Turn place.number → AllByRecursion Polls polled → AllByRecursion Tries opened → AllByRecursion Tries closed → dones more ≡ []
      → turn_lines rules place refusal taken_turn ≡ told_lines
  lines-of begins p o k none =
      let settled : dones taken_turn.changes ≡ ids = dones-part ids more none in
      let given : Answer = answer rules (after place.ledger (map Done ids)) turn in
      ap (λ (xs : List Line). (((TurnLine turn.moment place.number ∷ xs) ++ settled_lines turn.moment taken_turn.changes)
      ++ input_lines turn.moment turn.input refusal taken_turn.changes (answer_in rules place taken_turn)) ++ attempt_lines turn.moment taken_turn.items) (polled-part begins o k)
      ∙ ap (λ (xs : List Line). (((TurnLine turn.moment place.number ∷ poll_lines turn.moment (start ∷ place.past) polled) ++ settled_lines turn.moment taken_turn.changes)
      ++ input_lines turn.moment turn.input refusal taken_turn.changes (answer_in rules place taken_turn)) ++ xs) (attempts-part begins p)
      ∙ ap (λ (ds : List ℕ). (((TurnLine turn.moment place.number ∷ poll_lines turn.moment (start ∷ place.past) polled) ++ map (SettledLine turn.moment) ds)
      ++ input_lines turn.moment turn.input refusal taken_turn.changes (answer rules (after place.ledger (map Done ds)) turn)) ++ (attempt_lines turn.moment opened ++ attempt_lines turn.moment closed)) settled
      ∙ ap (λ (xs : List Line). (((TurnLine turn.moment place.number ∷ poll_lines turn.moment (start ∷ place.past) polled) ++ map (SettledLine turn.moment) ids)
      ++ xs) ++ (attempt_lines turn.moment opened ++ attempt_lines turn.moment closed)) (input-same turn.moment turn.input refusal taken_turn.changes more given (opens-part ids more))

-- the lines of the ends that polls found are those of the polls
ended-line : (moment number : ℕ) (good : Bool) (child : Option Child) (rest : List EndItem) (lines : List Line) → map (end_line moment) rest ≡ lines
    → map (end_line moment) (cons_option (end_item (Ended number good) child) rest) ≡ cons_option (child_line (λ purpose. EndedLine moment purpose good) child) lines
ended-line moment number good None rest lines e = e
ended-line moment number true (Some child) rest lines e = ap (λ (xs : List Line). EndedLine moment child.purpose true ∷ xs) e
ended-line moment number false (Some child) rest lines e = ap (λ (xs : List Line). EndedLine moment child.purpose false ∷ xs) e

failed-line : (moment number : ℕ) (child : Option Child) (rest : List EndItem) (lines : List Line) → map (end_line moment) rest ≡ lines
    → map (end_line moment) (cons_option (end_item (PollFailed number) child) rest) ≡ cons_option (child_line (λ purpose. PollFailedLine moment purpose) child) lines
failed-line moment number None rest lines e = e
failed-line moment number (Some child) rest lines e = ap (λ (xs : List Line). PollFailedLine moment child.purpose ∷ xs) e

end-line : (moment : ℕ) (past : List Item) (event : Event) (rest : List EndItem) (lines : List Line) → map (end_line moment) rest ≡ lines
    → map (end_line moment) (cons_option (end_item event (child_numbered (polled_number event) past)) rest) ≡ cons_option (poll_line moment past event) lines
end-line moment past (Turn number) rest lines e = e
end-line moment past (Began number purpose words) rest lines e = e
end-line moment past (StartFailed purpose words) rest lines e = e
end-line moment past (Ended number good) rest lines e = ended-line moment number good (child_numbered number past) rest lines e
end-line moment past (Runs number) rest lines e = e
end-line moment past (PollFailed number) rest lines e = failed-line moment number (child_numbered number past) rest lines e

pub ends-lines : (moment : ℕ) (past items : List Item) → map (end_line moment) (ends_in past items) ≡ poll_lines moment past items
ends-lines moment past [] = refl
ends-lines moment past (item ∷ items) = end-line moment past item.event (ends_in (item ∷ past) items) (poll_lines moment (item ∷ past) items) (ends-lines moment (item ∷ past) items)
