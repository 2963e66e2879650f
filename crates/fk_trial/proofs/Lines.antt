-- What comes of a line that was read.
use Rattle.std.proofs.Common.{◌≡◌, ℕ, ◌<◌, Bool, true, false, not, ◌&&◌, List, [], Option, Some, None, IfNone, Result, refl, sym, ap, ◌∙◌, subst}
use Rattle.fk_trace.specs.Decision.{FeedTurn}
use Rattle.fk_run.specs.Place.{Place, entry}
use Rattle.fk_run.specs.Turn.{TakenTurn, after_turns}
use Rattle.fk_memory.specs.Sink.{SinkState}
use Rattle.fk_input.specs.Reading.{Reading, IsBounded, rest, TakesLine}
use Rattle.fk_log.specs.Printing.{SinkView}
use Rattle.fk_log.specs.Writing.{output}
use Rattle.fk_turn.specs.declared.policy.Policy.{Policy}
use Rattle.fk_turn.specs.declared.turn_err.TurnErr.{TurnErr}
use Rattle.fk_turn.specs.Daemon.{scene}
use Rattle.fk_turn.specs.Serving.{ServesWhole, OwesItsLive}
use Rattle.fk_turn.specs.Serving.{ServesTurn as ServesOver}
use Rattle.fk_trial.specs.declared.session.Session.{Session}
use Rattle.fk_trial.specs.declared.session.Stop.{Stop}
use Rattle.fk_trial.specs.declared.session.Stop.TheVariants as stop
use Rattle.fk_trial.specs.Lines.{IsTurnLine}
use Rattle.fk_trial.specs.Replay.{IsReplay}
use Rattle.fk_trial.specs.Streams.{SourceView}
use Rattle.fk_trial.specs.Sessions.{Standing, Going, GoesOn, Stopped, StopsServing, ServesLine, PrintsPage, view}
use Rattle.fk_trial.proofs.GoingWell.{Law}
use Rattle.fk_trial.proofs.Serving.{served, rests-parks}
use Rattle.fk_trial.proofs.Going.{going-push}
use Rattle.fk_trial.proofs.Stopping.{left_by, stopped-bad_line, stopped-memory}
use Rattle.fk_trial.proofs.Reading.{line-advances}

-- no lines are lacking: where none was lost to the output, none was to the page
pub lacks-none : (a b : Bool) → false ≡ (not a && b) → a ≡ false → b ≡ false
lacks-none true b lacks whole = absurd cc
lacks-none false true lacks whole = absurd cc
lacks-none false false lacks whole = refl

-- a session whose daemon was served, and nothing else
abbrev pub IsServed : Session → Session → Type 0
IsServed old mid = mid ≡ record old { daemon = mid.daemon; host = mid.host; log = mid.log }

-- a turn that was served whole and whose page was to be printed
pub printed-line : (law : Law) (policy : Policy) (turn : FeedTurn) (place : Place) (result : Option Stop) (old mid new : Session) (blank page : SinkState) (before after : SinkView)
    → IsTurnLine old.reader.line turn
    → ServesWhole policy place turn (scene old.daemon (view old.host) (output old.log (Some blank.written) blank.faults)) (scene mid.daemon (view mid.host) (output mid.log (Some page.written) page.faults))
    → blank.written ≡ [] → mid.host.is_short ≡ false → IsReplay mid.host → IsServed old mid
    → PrintsPage page.written result mid new before after → ServesLine policy result place old new before after
printed-line law policy turn place None old mid new blank page before after is serves blank_is told replay mid_is prints =
    (turn, is, served law policy turn place old mid new blank page before after serves blank_is told replay mid_is prints)
printed-line law policy turn place (Some stop.NoMemory) old mid new blank page before after is serves blank_is told replay mid_is prints = record {
  turn = turn;
  is_line = is;
  parks = subst (λ (session : Session). OwesItsLive session.daemon) (sym prints.0) (rests-parks policy.conf.now _ _ serves.rests);
  broken = ap (λ (session : Session). session.is_broken) prints.0 ∙ ap (λ (session : Session). session.is_broken) mid_is;
  verbosity = ap (λ (session : Session). session.log.verbosity) prints.0 ∙ serves.logs.kept;
  turns = ap (λ (session : Session). session.turns) prints.0 ∙ ap (λ (session : Session). session.turns) mid_is;
  reader = ap (λ (session : Session). session.reader) prints.0 ∙ ap (λ (session : Session). session.reader) mid_is;
  sink = prints.1;
}
printed-line law policy turn place (Some stop.End) old mid new blank page before after is serves blank_is told replay mid_is prints = absurd prints
printed-line law policy turn place (Some stop.BadLine) old mid new blank page before after is serves blank_is told replay mid_is prints = absurd prints
printed-line law policy turn place (Some stop.LongInput) old mid new blank page before after is serves blank_is told replay mid_is prints = absurd prints
printed-line law policy turn place (Some stop.ReadFault) old mid new blank page before after is serves blank_is told replay mid_is prints = absurd prints

-- a turn that was cut, or whose host became short
pub unprinted-line : {T : Type 0} (policy : Policy) (turn : FeedTurn) (place : Place) (result : Result T TurnErr) (old mid : Session) (blank page : SinkState) (sink : SinkView)
    → IsTurnLine old.reader.line turn
    → ServesOver policy place turn (scene old.daemon (view old.host) (output old.log (Some blank.written) blank.faults)) (scene mid.daemon (view mid.host) (output mid.log (Some page.written) page.faults)) result
    → IsServed old mid → StopsServing old mid sink sink
unprinted-line policy turn place result old mid blank page sink is serves mid_is =
    let left = left_by policy place turn (scene old.daemon (view old.host) (output old.log (Some blank.written) blank.faults))
    (scene mid.daemon (view mid.host) (output mid.log (Some page.written) page.faults)) result serves in
    record {
      turn = turn;
      is_line = is;
      parks = left.0;
      broken = ap (λ (session : Session). session.is_broken) mid_is;
      verbosity = left.1;
      turns = ap (λ (session : Session). session.turns) mid_is;
      reader = ap (λ (session : Session). session.reader) mid_is;
      sink = refl;
    }

module _ (policy : Policy) (turns : List TakenTurn) (start : Standing) (old new : Session) (input input2 : SourceView) (before after : SinkView) (reader : Reading)
    (going : Going policy turns start (record { session = old; streams = record { input = input; output = before } })) (bounded : IsBounded reader)
    (takes : TakesLine old.reader reader (rest old.reader input.left) (rest reader input2.left)) (same : input2.faults ≡ input.faults) where
  -- a line was read, and this came of it
  pub line-goes : (result : Option Stop) → ServesLine policy result (after_turns (entry []) turns) (record old { reader = reader }) new before after
      → GoesOn policy result turns start (record { session = new; streams = record { input = input2; output = after } })
  line-goes None serves =
      (serves.2.taken, going-push policy turns start old new reader input input2 before after serves.0 going takes same serves.1 serves.2)
  line-goes (Some stop.BadLine) serves =
      subst (λ (session : Session). Stopped policy stop.BadLine start (record { session = session; streams = record { input = input2; output = after } })) (sym serves.1)
      (subst (λ (sink : SinkView). Stopped policy stop.BadLine start (record { session = record old { reader = reader }; streams = record { input = input2; output = sink } })) (sym serves.2)
      (stopped-bad_line policy turns start old input input2 before reader going bounded takes serves.0 same))
  line-goes (Some stop.NoMemory) serves = stopped-memory policy turns start old input input2 before reader going bounded new after takes same serves
  line-goes (Some stop.End) serves = absurd serves
  line-goes (Some stop.LongInput) serves = absurd serves
  line-goes (Some stop.ReadFault) serves = absurd serves

-- a line that was served uses up some bytes
pub line-progress : (policy : Policy) (place : Place) (result : Option Stop) (old new : Session) (reader : Reading) (before after : SinkView) (left rest : Option (List ℕ))
    → TakesLine old.reader reader left rest → ServesLine policy result place (record old { reader = reader }) new before after → IfNone result (old.reader.offset < new.reader.offset)
line-progress policy place None old new reader before after left rest takes serves =
    subst (λ (r : Reading). old.reader.offset < r.offset) (sym serves.2.reader) (line-advances old.reader reader left rest takes)
line-progress policy place (Some how) old new reader before after left rest takes serves = tt
