-- Worked rows, written by hand from the rules: a run for each, turn by turn, and what the definitions say of it.
use Rattle.std.proofs.Common.{◌≡◌, ℕ, ◌<◌, Bool, true, false, List, [], ◌∷◌, ◌++◌, map, Some, None, refl, sym, ap, ◌∙◌, subst, arith, inl, inr}
use Rattle.std.specs.Prelude.{codes}
use Rattle.std.proofs.lemmas.Bool.{eq-eqb}
use Rattle.std.specs.List.{Contains}
use Rattle.fk_base.specs.declared.address.Ip4.{Ip4}
use Rattle.fk_base.specs.declared.pair.Pair.{Pair}
use Rattle.fk_base.specs.declared.pair.Proto.TheVariants.{Tcp}
use Rattle.fk_base.specs.declared.purpose.Purpose.TheVariants.{Open, Close}
use Rattle.fk_trace.specs.declared.change.OpenRecord.{OpenRecord}
use Rattle.fk_trace.specs.declared.change.Change.{Change}
use Rattle.fk_trace.specs.declared.change.Change.TheVariants.{Open as OpenChange, Done}
use Rattle.fk_trace.specs.Trace.{Event, Item, Child, is_close_of, is_close_attempt_of, running}
use Rattle.fk_trace.specs.Trace.Event.{Turn, Began, StartFailed, Ended, Runs, PollFailed}
use Rattle.fk_trace.specs.Idle.{is_idle}
use Rattle.fk_trace.specs.Decision.{FeedTurn, Rules}
use Rattle.fk_trace.specs.Decision.Input.{Quiet, Datagram}
use Rattle.fk_trace.specs.Decision.Verdict.{Granted}
use Rattle.fk_trace.specs.Settled.{settlements}
use Rattle.fk_trace.specs.Attempts.{PollsEachOnce, IsAttempt}
use Rattle.fk_run.specs.Place.{Place, entry, behind, changed}
use Rattle.fk_run.specs.Turn.{TakenTurn, AttemptsEachDue, WholeTurn, CutTurn, after_turns}
use Rattle.fk_run.specs.Run.{Run, Ending, changes_of}
use Rattle.fk_run.specs.Run.Ending.{AtLimit, AtEnd, AtDiskFault}
use Rattle.fk_run.specs.Ending.{ReachesLimit, FitsLimits, WantsAtDatagram, WantsAtClose}
use Rattle.fk_run.specs.declared.limits.Limits.{Limits}
use Rattle.fk_run.specs.Planned.{planned}
use Rattle.fk_run.specs.Legal.{LegalTurns}
use Rattle.fk_trace.proofs.Lists.{Contains-head, list_any-from}
use Rattle.fk_run.proofs.Starts.{starts-close, starts-left}
use Rattle.fk_run.proofs.RowParts.{only, polls-none, polls-one, polls-two, closes-one, none-live, not-due, not-idle}

abbrev pub source : Ip4
source = record { 0 = 167772167 }

pub has_22 : 0 < 22
has_22 = omega arith

abbrev pub pair : Pair
pair = record { proto = Tcp; port = 22; has_port = has_22 }

abbrev pub open_words : List (List ℕ)
open_words = codes "/bin/o" ∷ []

abbrev pub close_words : List (List ℕ)
close_words = codes "/bin/c" ∷ []

-- any rules that grant each datagram for thirty seconds will do, so its digest is the datagram itself here, and its stamp the moment
abbrev pub rules : Rules
rules = record {
  misshapen = λ datagram. None;
  digest = λ datagram. datagram;
  admit = λ moment from datagram. Granted (record { stanza = 1; stamp = moment; seconds = 30; ip = source; pair = pair; opening = open_words; closing = close_words });
  room = record { limit = 4; keep = 86400; fits = λ ledger. true };
}

-- the record of this number, made at this moment
abbrev pub record_at : ℕ → List ℕ → ℕ → ℕ → OpenRecord
record_at id datagram moment due = record { id = id; digest = record { 0 = datagram }; stamp = moment; moment = moment; due = due; ip = source; pair = pair; close = close_words }

abbrev pub first : OpenRecord
first = record_at 1 (codes "first") 1700000000 1700000030

-- a ledger with that record, as a run finds it
abbrev pub found : List Change
found = OpenChange first ∷ []

-- an item at a moment of the host, and one of which no row asks where it stands
abbrev pub item_at : ℕ → Event → Item
item_at moments event = record { event = event; moments = moments; faults = 0 }

abbrev item_of : Event → Item
item_of event = item_at 0 event

abbrev taken : FeedTurn → List Event → List Change → TakenTurn
taken turn events changes = record { turn = turn; items = map item_of events; changes = changes }

abbrev quiet : ℕ → List Event → List Change → TakenTurn
quiet moment events changes = taken (record { moment = moment; input = Quiet }) events changes

abbrev pub asks : ℕ → List ℕ → FeedTurn
asks moment datagram = record { moment = moment; input = Datagram source datagram }

-- a quiet turn of these parts
pub quiet-turn : (place : Place) (moment : ℕ) (start : Item) (polled closed : List Item) → start.event ≡ Turn place.number → PollsEachOnce (start ∷ place.past) polled
    → AttemptsEachDue (changed (behind moment place (start ∷ polled ++ [])) (settlements (start ∷ place.past) polled ++ [])) moment closed
    → WholeTurn rules place (record { turn = record { moment = moment; input = Quiet }; items = start ∷ (polled ++ []) ++ closed; changes = settlements (start ∷ place.past) polled ++ [] })
quiet-turn place moment start polled closed starts polls closes =
    record {
      start = start;
      polled = polled;
      opened = [];
      closed = closed;
      settled = settlements (start ∷ place.past) polled;
      recorded = [];
      polls_each_running_child_once = polls;
      settles_clean_good_ends = refl;
      records_what_is_granted = refl;
      attempts_that_open_once = refl;
      attempts_each_due_idle_close_once = closes;
      nothing_else = (starts, refl, refl);
    }

-- a first turn, in which the record of a datagram is made and its open is attempted
pub asked-turn : (at tried : ℕ) (attempt : Event) → IsAttempt (Open 1) open_words attempt
    → WholeTurn rules (entry []) (record { turn = asks 1700000000 (codes "first"); items = item_at at (Turn 1) ∷ item_at tried attempt ∷ []; changes = OpenChange first ∷ [] })
asked-turn at tried attempt is =
    record {
      start = item_at at (Turn 1);
      polled = [];
      opened = item_at tried attempt ∷ [];
      closed = [];
      settled = [];
      recorded = OpenChange first ∷ [];
      polls_each_running_child_once = polls-none _ refl;
      settles_clean_good_ends = refl;
      records_what_is_granted = refl;
      attempts_that_open_once = is;
      attempts_each_due_idle_close_once = not-due _ 1700000000 first refl (omega arith);
      nothing_else = (refl, refl, refl);
    }

-- the place behind these turns of a run over this ledger
abbrev pub reached : List Change → List TakenTurn → Place
reached ledger turns = after_turns (entry ledger) turns

abbrev idle_at : Place → ℕ → Bool
idle_at place moment = is_idle place.past place.ends moment 1

abbrev pub closes : ℕ → Event
closes number = Began number (Close 1) close_words

abbrev pub open_child : Child
open_child = record { number = 1; purpose = Open 1 }

abbrev pub close_child : ℕ → Child
close_child number = record { number = number; purpose = Close 1 }

-- A first close that ends badly is repeated ten seconds after that end, and not before.
abbrev bad_1 : TakenTurn
bad_1 = quiet 1700000030 (Turn 1 ∷ closes 1 ∷ []) []

abbrev bad_2 : TakenTurn
bad_2 = quiet 1700000031 (Turn 2 ∷ Ended 1 false ∷ []) []

abbrev bad_3 : TakenTurn
bad_3 = quiet 1700000040 (Turn 3 ∷ []) []

abbrev bad_4 : TakenTurn
bad_4 = quiet 1700000041 (Turn 4 ∷ closes 2 ∷ []) []

rests_before : idle_at (reached found (bad_1 ∷ bad_2 ∷ bad_3 ∷ [])) 1700000040 ≡ false
rests_before = refl

rested_at : idle_at (reached found (bad_1 ∷ bad_2 ∷ bad_3 ∷ [])) 1700000041 ≡ true
rested_at = refl

starts_first : WholeTurn rules (entry found) bad_1
starts_first = quiet-turn (entry found) 1700000030 (item_of (Turn 1)) [] (item_of (closes 1) ∷ []) refl (polls-none _ refl) (closes-one _ 1700000030 first _ refl (omega arith) refl (refl, refl))

bad_close_is_repeated : LegalTurns rules (entry found) AtEnd (bad_1 ∷ bad_2 ∷ bad_3 ∷ bad_4 ∷ [])
bad_close_is_repeated =
    let second = quiet-turn (reached found (bad_1 ∷ [])) 1700000031 (item_of (Turn 2)) (item_of (Ended 1 false) ∷ []) [] refl (polls-one _ (close_child 1) _ refl refl) (not-idle _ 1700000031 first refl refl) in
    let third = quiet-turn (reached found (bad_1 ∷ bad_2 ∷ [])) 1700000040 (item_of (Turn 3)) [] [] refl (polls-none _ refl) (not-idle _ 1700000040 first refl refl) in
    let fourth = quiet-turn (reached found (bad_1 ∷ bad_2 ∷ bad_3 ∷ [])) 1700000041 (item_of (Turn 4)) [] (item_of (closes 2) ∷ []) refl (polls-none _ refl) (closes-one _ 1700000041 first _ refl (omega arith) refl (refl, refl)) in
    inl (starts_first, inl (second, inl (third, inl (fourth, tt))))

-- A close that ends well before its open waits, is started again when the open has ended, and then settles the record.
abbrev wait_1 : TakenTurn
wait_1 = taken (asks 1700000000 (codes "first")) (Turn 1 ∷ Began 1 (Open 1) open_words ∷ []) (OpenChange first ∷ [])

abbrev wait_2 : TakenTurn
wait_2 = quiet 1700000030 (Turn 2 ∷ Runs 1 ∷ closes 2 ∷ []) []

abbrev wait_3 : TakenTurn
wait_3 = quiet 1700000031 (Turn 3 ∷ Runs 1 ∷ Ended 2 true ∷ []) []

abbrev wait_4 : TakenTurn
wait_4 = quiet 1700000032 (Turn 4 ∷ Ended 1 true ∷ closes 3 ∷ []) []

abbrev wait_5 : TakenTurn
wait_5 = quiet 1700000033 (Turn 5 ∷ Ended 3 true ∷ []) (Done 1 ∷ [])

waits : idle_at (reached [] (wait_1 ∷ wait_2 ∷ wait_3 ∷ [])) 1700000031 ≡ false
waits = refl

waits_no_more : idle_at (behind 1700000032 (reached [] (wait_1 ∷ wait_2 ∷ wait_3 ∷ [])) (item_of (Turn 4) ∷ item_of (Ended 1 true) ∷ [])) 1700000032 ≡ true
waits_no_more = refl

opens_first : WholeTurn rules (entry []) wait_1
opens_first = asked-turn 0 0 (Began 1 (Open 1) open_words) (refl, refl)

close_waits_for_its_open : LegalTurns rules (entry []) AtEnd (wait_1 ∷ wait_2 ∷ wait_3 ∷ wait_4 ∷ wait_5 ∷ [])
close_waits_for_its_open =
    let second = quiet-turn (reached [] (wait_1 ∷ [])) 1700000030 (item_of (Turn 2)) (item_of (Runs 1) ∷ []) (item_of (closes 2) ∷ []) refl (polls-one _ open_child _ refl refl) (closes-one _ 1700000030 first _ refl (omega arith) refl (refl, refl)) in
    let third = quiet-turn (reached [] (wait_1 ∷ wait_2 ∷ [])) 1700000031 (item_of (Turn 3)) (item_of (Runs 1) ∷ item_of (Ended 2 true) ∷ []) [] refl (polls-two _ open_child (close_child 2) _ _ refl (omega arith) refl refl) (not-idle _ 1700000031 first refl refl) in
    let fourth = quiet-turn (reached [] (wait_1 ∷ wait_2 ∷ wait_3 ∷ [])) 1700000032 (item_of (Turn 4)) (item_of (Ended 1 true) ∷ []) (item_of (closes 3) ∷ []) refl (polls-one _ open_child _ refl refl) (closes-one _ 1700000032 first _ refl (omega arith) refl (refl, refl)) in
    let fifth = quiet-turn (reached [] (wait_1 ∷ wait_2 ∷ wait_3 ∷ wait_4 ∷ [])) 1700000033 (item_of (Turn 5)) (item_of (Ended 3 true) ∷ []) [] refl (polls-one _ (close_child 3) _ refl refl) (none-live _ 1700000033 refl) in
    inl (opens_first, inl (second, inl (third, inl (fourth, inl (fifth, tt)))))

-- An open that fails to start has its record all the same, and so the close of that record is owed.
abbrev failed_1 : TakenTurn
failed_1 = taken (asks 1700000000 (codes "first")) (Turn 1 ∷ StartFailed (Open 1) open_words ∷ []) (OpenChange first ∷ [])

abbrev failed_2 : TakenTurn
failed_2 = quiet 1700000030 (Turn 2 ∷ closes 1 ∷ []) []

abbrev failed_3 : TakenTurn
failed_3 = quiet 1700000031 (Turn 3 ∷ Ended 1 true ∷ []) (Done 1 ∷ [])

failed_open_is_closed : LegalTurns rules (entry []) AtEnd (failed_1 ∷ failed_2 ∷ failed_3 ∷ [])
failed_open_is_closed =
    let opens : WholeTurn rules (entry []) failed_1 = asked-turn 0 0 (StartFailed (Open 1) open_words) (refl, refl) in
    let second = quiet-turn (reached [] (failed_1 ∷ [])) 1700000030 (item_of (Turn 2)) [] (item_of (closes 1) ∷ []) refl (polls-none _ refl) (closes-one _ 1700000030 first _ refl (omega arith) refl (refl, refl)) in
    let third = quiet-turn (reached [] (failed_1 ∷ failed_2 ∷ [])) 1700000031 (item_of (Turn 3)) (item_of (Ended 1 true) ∷ []) [] refl (polls-one _ (close_child 1) _ refl refl) (none-live _ 1700000031 refl) in
    inl (opens, inl (second, inl (third, tt)))

-- After a poll that fails the child runs on, and is polled again in the next turn.
abbrev unpolled_2 : TakenTurn
unpolled_2 = quiet 1700000031 (Turn 2 ∷ PollFailed 1 ∷ []) []

abbrev unpolled_3 : TakenTurn
unpolled_3 = quiet 1700000032 (Turn 3 ∷ Ended 1 true ∷ []) (Done 1 ∷ [])

runs_on : running (reached found (bad_1 ∷ unpolled_2 ∷ [])).past ≡ close_child 1 ∷ []
runs_on = refl

failed_poll_is_no_end : LegalTurns rules (entry found) AtEnd (bad_1 ∷ unpolled_2 ∷ unpolled_3 ∷ [])
failed_poll_is_no_end =
    let second = quiet-turn (reached found (bad_1 ∷ [])) 1700000031 (item_of (Turn 2)) (item_of (PollFailed 1) ∷ []) [] refl (polls-one _ (close_child 1) _ refl refl) (not-idle _ 1700000031 first refl refl) in
    let third = quiet-turn (reached found (bad_1 ∷ unpolled_2 ∷ [])) 1700000032 (item_of (Turn 3)) (item_of (Ended 1 true) ∷ []) [] refl (polls-one _ (close_child 1) _ refl refl) (none-live _ 1700000032 refl) in
    inl (starts_first, inl (second, inl (third, tt)))

-- The disk fails behind a settled line: the Done of the turn is made, and the record of its datagram is not.
abbrev second : OpenRecord
second = record_at 2 (codes "second") 1700000031 1700000061

abbrev cut_2 : TakenTurn
cut_2 = taken (asks 1700000031 (codes "second")) (Turn 2 ∷ Ended 1 true ∷ []) (Done 1 ∷ [])

abbrev cut_run : Run
cut_run = record { rules = rules; ledger = found; faults = 0; turns = bad_1 ∷ cut_2 ∷ []; ending = AtDiskFault }

cut_changes : changes_of cut_run ≡ Done 1 ∷ []
cut_changes = refl

cut_planned : planned cut_run ≡ Done 1 ∷ OpenChange second ∷ []
cut_planned = refl

cut_behind_a_done : CutTurn rules (reached found (bad_1 ∷ [])) cut_2
cut_behind_a_done =
    record {
      missing = item_of (Began 2 (Open 2) open_words) ∷ [];
      unmade = OpenChange second ∷ [];
      whole = record {
        start = item_of (Turn 2);
        polled = item_of (Ended 1 true) ∷ [];
        opened = item_of (Began 2 (Open 2) open_words) ∷ [];
        closed = [];
        settled = Done 1 ∷ [];
        recorded = OpenChange second ∷ [];
        polls_each_running_child_once = polls-one _ (close_child 1) _ refl refl;
        settles_clean_good_ends = refl;
        records_what_is_granted = refl;
        attempts_that_open_once = (refl, refl);
        attempts_each_due_idle_close_once = not-due _ 1700000031 second refl (omega arith);
        nothing_else = (refl, refl, refl);
      };
      begun = λ none. cc;
      changes_before_attempts = inr (tt, (tt, tt));
      polls_before_changes = inr (tt, tt);
    }

cut_run_is_legal : LegalTurns rules (entry found) AtDiskFault (bad_1 ∷ cut_2 ∷ [])
cut_run_is_legal = inl (starts_first, inr (refl, refl, cut_behind_a_done))

-- A turn that leaves out the close of a record that is due and idle is none that others may follow, however the run ends.
abbrev left_out : TakenTurn
left_out = quiet 1700000030 (Turn 1 ∷ []) []

due_close_is_never_left_out : (ending : Ending) (next : TakenTurn) (later : List TakenTurn) → LegalTurns rules (entry found) ending (left_out ∷ next ∷ later) → ⊥
due_close_is_never_left_out ending next later legal =
    elim legal [
      | inl w ↦
          let attempt = starts-close w.0 first (Contains-head first []) (omega arith) refl in
          let is : item_of (Turn 1) ≡ attempt.0 = only (item_of (Turn 1)) attempt.0 attempt.1 in
          subst (λ (item : Item). IsAttempt (Close 1) close_words item.event) (sym is) attempt.2
      | inr cut ↦ absurd (let some = cut.1 in cc)
    ]

-- Of a turn that is the last, want of memory may come at that close, with all before it done.
wants_at_the_close : WantsAtClose rules (entry found) left_out
wants_at_the_close =
    record {
      polled = λ child m. absurd (omega (arith, m.1));
      made = refl;
      item = first;
      owed = record { lives = Contains-head first []; due = omega arith; idle = refl };
      untried = refl;
    }

-- It never comes at a close of a turn that is whole.
closes_it : (id : ℕ) (words : List (List ℕ)) (event : Event) → IsAttempt (Close id) words event → is_close_attempt_of id event ≡ true
closes_it id words (Turn number) h = absurd h
closes_it id words (Began number other others) h = ap (is_close_of id) h.0 ∙ eq-eqb id id refl
closes_it id words (StartFailed other others) h = ap (is_close_of id) h.0 ∙ eq-eqb id id refl
closes_it id words (Ended number good) h = absurd h
closes_it id words (Runs number) h = absurd h
closes_it id words (PollFailed number) h = absurd h

wants_at_no_whole_turn : (by : Rules) (place : Place) (turn : TakenTurn) → WantsAtClose by place turn → WholeTurn by place turn → ⊥
wants_at_no_whole_turn by place turn wants whole =
    let attempt = starts-left whole wants.item wants.owed in
    let tried = list_any-from (λ (item : Item). is_close_attempt_of wants.item.id item.event) turn.items attempt.0 attempt.1 (closes_it wants.item.id wants.item.close attempt.0.event attempt.2) in
    let untried = wants.untried in
    absurd cc

-- It may come at a new datagram, and at none that is a replay.
wants_at_a_new_one : WantsAtDatagram rules (entry found) (taken (asks 1700000031 (codes "second")) (Turn 1 ∷ []) [])
wants_at_a_new_one =
    record { source = source; datagram = codes "second"; brought = refl; formed = refl; fresh = λ m. let same = only (codes "first") (codes "second") m in absurd cc }

wants_at_no_replay : WantsAtDatagram rules (entry found) (taken (asks 1700000031 (codes "first")) (Turn 1 ∷ []) []) → ⊥
wants_at_no_replay wants =
    let same : codes "first" ≡ wants.datagram = let brought = wants.brought in cc in
    wants.fresh (subst (λ (digest : List ℕ). Contains (codes "first" ∷ []) digest) same (Contains-head (codes "first") []))

-- A limit of one datagram is reached by the turn that brings it, and not before; a run of that turn ends at the limit.
abbrev one_packet : Limits
one_packet = record { packets = Some 1; turns = None }

not_reached : ReachesLimit one_packet [] → ⊥
not_reached reaches = elim reaches [ inl packets ↦ absurd (omega arith) | inr turns ↦ absurd (omega arith) ]

ends_at_the_limit : FitsLimits one_packet (wait_1 ∷ []) AtLimit
ends_at_the_limit = inl (omega arith)

ends_not_at_the_end : FitsLimits one_packet (wait_1 ∷ []) AtEnd → ⊥
ends_not_at_the_end fits = fits ends_at_the_limit
