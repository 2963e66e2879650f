-- A session between two lines.
use Rattle.std.proofs.Common.{◌≡◌, ℕ, ◌+◌, List, [], ◌∷◌, ◌++◌, map, refl, sym, ap, ◌∙◌, subst, length-append, arith}
use Rattle.std.specs.List.{AllByRecursion}
use Rattle.std.proofs.lemmas.List.{map-append}
use Rattle.fk_trace.specs.Trace.{Item}
use Rattle.fk_trace.specs.Decision.{FeedTurn}
use Rattle.fk_run.specs.Place.{Place, entry}
use Rattle.fk_run.specs.Turn.{TakenTurn, after_turns}
use Rattle.fk_input.specs.Reading.{Reading, rest, TakesLine}
use Rattle.fk_input.specs.Progress.{HasRead}
use Rattle.fk_input.proofs.Progress.{HasRead-new, HasRead-line}
use Rattle.fk_log.specs.Line.{Line}
use Rattle.fk_log.specs.Log.{lines_of_turns, turn_lines}
use Rattle.fk_log.specs.Log.RefusalLine.{Told}
use Rattle.fk_log.specs.Printing.{SinkView}
use Rattle.fk_log.specs.Writing.{LogState, Output, Logs}
use Rattle.fk_log.proofs.Logged.{Logs-append}
use Rattle.fk_log.proofs.Turns.{lines_of_turns-append}
use Rattle.fk_turn.specs.declared.policy.Policy.{Policy}
use Rattle.fk_turn.specs.Rules.{rules_by}
use Rattle.fk_trial.specs.declared.session.Session.{Session}
use Rattle.fk_trial.specs.Lines.{IsTurnLine}
use Rattle.fk_trial.specs.Streams.{SourceView, Streams}
use Rattle.fk_trial.specs.Trace.{IsTrialTrace}
use Rattle.fk_trial.specs.Sessions.{Standing, Begins, Served, Going, MayServe, RestsAt, ServesTurn, items_in, printing, printing_of}
use Rattle.fk_trial.proofs.GoingWell.{all-append}
use Rattle.fk_trial.proofs.Behind.{items-push, place-push, number-behind, legal-push}
use Rattle.fk_trial.proofs.Reading.{line-advances}

-- a session that was just begun
pub going-first : (policy : Policy) (log : LogState) (session : Session) (streams : Streams) → Begins policy.conf.now log session
    → ((at : Output) → Logs [] at at)
    → Going policy [] (record { session = session; streams = streams }) (record { session = session; streams = streams })
going-first policy log session streams begins quiet = record {
  served = record {
    whole = tt;
    rests = begins.opens.rests;
    told = begins.opens.told;
    replay = begins.opens.replay;
    trace = begins.opens.trace;
    faults = begins.opens.faults;
    calm = tt;
    well = subst IsTrialTrace (sym begins.opens.trace) (record { well = tt; numbers = refl });
    count = begins.turns;
    pages = λ whole. ap (λ (l : LogState). l.is_broken) begins.log_is ∙ sym begins.broken ∙ whole;
  };
  logs = quiet (printing session streams.output);
  read = HasRead-new IsTurnLine streams.input.left session.reader begins.reader;
  few = omega (arith, begins.turns);
  input = refl;
}

-- such a session may serve a turn
pub may-serve : (policy : Policy) (turns : List TakenTurn) (start now : Standing) (reader : Reading) (sink : SinkView) → Going policy turns start now
    → MayServe policy.conf.now (record now.session { reader = reader }) sink
may-serve policy turns start now reader sink going =
    let number = (going.served.rests (printing_of now)).stands.number in
    let place = number-behind (entry []) turns in
    let count = going.served.count in
    let few = going.few in
    let within = going.read.within in
    record { place = after_turns (entry []) turns; rests = going.served.rests; few = omega arith; turns = omega arith }

-- a turn was served behind others
pub served-push : (policy : Policy) (turns : List TakenTurn) (turn : FeedTurn) (old new : Session) (before after : SinkView) → Served policy turns old
    → (serves : ServesTurn policy turn (after_turns (entry []) turns) old new before after) → Served policy (turns ++ serves.taken ∷ []) new
served-push policy turns turn old new before after served serves = record {
  whole = legal-push (rules_by policy) (entry []) turns serves.taken served.whole serves.whole;
  rests = subst (λ (place : Place). RestsAt policy.conf.now new.daemon new.host place) (sym (place-push (entry []) turns serves.taken)) serves.rests;
  told = serves.told;
  replay = serves.replay;
  trace = serves.trace ∙ ap (λ (items : List Item). items ++ serves.taken.items) served.trace ∙ sym (items-push turns serves.taken);
  faults = serves.faults ∙ served.faults;
  calm = subst (λ (items : List Item). AllByRecursion (λ item. item.faults ≡ 0) items) (sym (items-push turns serves.taken))
      (all-append (λ (item : Item). item.faults ≡ 0) (items_in turns) serves.taken.items served.calm
      (subst (λ (faults : ℕ). AllByRecursion (λ item. item.faults ≡ faults) serves.taken.items) served.faults serves.calm));
  well = serves.well served.well;
  count = serves.count ∙ ap (λ (n : ℕ). n + 1) served.count ∙ sym (length-append turns (serves.taken ∷ []));
  pages = (serves.logs served.pages).0;
}

-- a line was read and its turn served
pub going-push : (policy : Policy) (turns : List TakenTurn) (start : Standing) (old new : Session) (reader : Reading) (input input2 : SourceView) (before after : SinkView) (turn : FeedTurn)
    → Going policy turns start (record { session = old; streams = record { input = input; output = before } })
    → TakesLine old.reader reader (rest old.reader input.left) (rest reader input2.left) → input2.faults ≡ input.faults
    → IsTurnLine reader.line turn
    → (serves : ServesTurn policy turn (after_turns (entry []) turns) (record old { reader = reader }) new before after)
    → Going policy (turns ++ serves.taken ∷ []) start (record { session = new; streams = record { input = input2; output = after } })
going-push policy turns start old new reader input input2 before after turn going takes same is serves =
    let all : List TakenTurn = turns ++ serves.taken ∷ [] in
    let fed : map (λ (t : TakenTurn). t.turn) turns ++ turn ∷ [] ≡ map (λ (t : TakenTurn). t.turn) all =
    ap (λ (t : FeedTurn). map (λ (t : TakenTurn). t.turn) turns ++ t ∷ []) (sym serves.of_turn) ∙ sym (map-append (λ (t : TakenTurn). t.turn) turns (serves.taken ∷ [])) in
    let logs : Logs (turn_lines (rules_by policy) (after_turns (entry []) turns) Told serves.taken) (printing old before) (printing new after) = (serves.logs going.served.pages).1 in
    let read : HasRead IsTurnLine start.streams.input.left (rest reader input2.left) reader (map (λ (t : TakenTurn). t.turn) turns ++ turn ∷ []) =
    HasRead-line IsTurnLine start.streams.input.left (rest old.reader input.left) (rest reader input2.left) old.reader reader (map (λ (t : TakenTurn). t.turn) turns) turn going.read takes is in
    record {
      served = served-push policy turns turn (record old { reader = reader }) new before after
          (record {
            whole = going.served.whole;
            rests = going.served.rests;
            told = going.served.told;
            replay = going.served.replay;
            trace = going.served.trace;
            faults = going.served.faults;
            calm = going.served.calm;
            well = going.served.well;
            count = going.served.count;
            pages = going.served.pages;
          }) serves;
      logs = subst (λ (lines : List Line). Logs lines (printing_of start) (printing new after)) (sym (lines_of_turns-append (rules_by policy) (entry []) Told turns serves.taken))
          (Logs-append (lines_of_turns (rules_by policy) (entry []) Told turns) (turn_lines (rules_by policy) (after_turns (entry []) turns) Told serves.taken)
          (printing_of start) (printing old before) (printing new after) going.logs logs);
      read = subst (λ (r : Reading). HasRead IsTurnLine start.streams.input.left (rest r input2.left) r (map (λ (t : TakenTurn). t.turn) all)) (sym serves.reader)
          (subst (λ (ts : List FeedTurn). HasRead IsTurnLine start.streams.input.left (rest reader input2.left) reader ts) fed read);
      few = omega (arith, serves.count, going.few, line-advances old.reader reader (rest old.reader input.left) (rest reader input2.left) takes, ap (λ (r : Reading). r.offset) serves.reader);
      input = same ∙ going.input;
    }
