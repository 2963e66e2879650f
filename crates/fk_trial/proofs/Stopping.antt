-- A session that serves no further line.
use Rattle.std.proofs.Common.{◌≡◌, ℕ, ◌+◌, ◌<◌, Bool, List, [], length, map, Result, Ok, Err, refl, sym, ap, ◌∙◌, subst, arith}
use Rattle.std.specs.List.{AllPairs}
use Rattle.std.proofs.lemmas.List.{length-map}
use Rattle.fk_trace.specs.declared.change.Change.{Change}
use Rattle.fk_trace.specs.Trace.{Item, Child, children}
use Rattle.fk_trace.specs.Ledger.{live}
use Rattle.fk_trace.specs.Decision.{FeedTurn}
use Rattle.fk_run.specs.Place.{entry}
use Rattle.fk_run.specs.Turn.{TakenTurn, after_turns}
use Rattle.fk_run.specs.Run.{Ending}
use Rattle.fk_run.proofs.Fronts.{past-after_turns}
use Rattle.fk_host.specs.Count.{counted}
use Rattle.fk_host.specs.Stream.{Takes}
use Rattle.fk_input.specs.Lines.{input_limit}
use Rattle.fk_input.specs.Reading.{Reading, IsBounded, rest, TakesLine, FindsEnd, TakesLongLine, PassesLimit, BreaksOff}
use Rattle.fk_input.proofs.Progress.{HasRead-line, Reads-bad_line, Reads-long_line, Reads-limit, Reads-broken}
use Rattle.fk_log.specs.Log.{lines_of_turns}
use Rattle.fk_log.specs.Log.RefusalLine.{Told}
use Rattle.fk_log.specs.Printing.{SinkView}
use Rattle.fk_log.specs.Writing.{Output, Writes}
use Rattle.fk_turn.specs.declared.policy.Policy.{Policy}
use Rattle.fk_turn.specs.declared.turn_err.TurnErr.{TurnErr}
use Rattle.fk_turn.specs.declared.turn_err.TurnErr.TheVariants.{Disk, NoMemory}
use Rattle.fk_turn.specs.Daemon.{Scene}
use Rattle.fk_turn.specs.Rules.{rules_by}
use Rattle.fk_turn.specs.Serving.{ServesTurn as ServesOver, OwesItsLive}
use Rattle.fk_run.specs.Place.{Place}
use Rattle.fk_trial.specs.declared.session.Session.{Session}
use Rattle.fk_trial.specs.declared.session.Stop.{Stop}
use Rattle.fk_trial.specs.declared.session.Stop.TheVariants as stop
use Rattle.fk_trial.specs.Lines.{IsTurnLine}
use Rattle.fk_trial.specs.Streams.{SourceView, TakesAtMost}
use Rattle.fk_trial.specs.Trace.{IsTrialTrace}
use Rattle.fk_trial.specs.Trial.{IsTrial, HasTurns}
use Rattle.fk_trial.specs.Sessions.{Standing, Served, Going, HasInputCause, MaySumUp, SumsUp, Stopped, StopsAt, StopsServing, ending_of, run_of, printing, printing_of}
use Rattle.fk_trial.proofs.Behind.{ledger-behind, legal-whole}
use Rattle.fk_trial.proofs.Reading.{turns-end, wants-for-line, takes-bounded}
use Rattle.fk_trial.proofs.Serving.{rests-parks, other-outputs}

-- no two children of these items have one number, and later ones have greater ones
abbrev AreNumbered : List Item → Type 0
AreNumbered past = AllPairs (λ (a b : Child). a.number < b.number) (children past)

-- the turns that were served are a run of a trial, whatever it ends with
is-trial : (policy : Policy) (turns : List TakenTurn) (session : Session) (ending : Ending) (out : Output) → Served policy turns session
    → IsTrial policy (run_of policy ending turns)
is-trial policy turns session ending out served = record {
  rules = refl;
  ledger = refl;
  faults = refl;
  legal = record {
    turns = legal-whole (rules_by policy) (entry []) ending turns served.whole;
    no_fault_before = served.calm;
    numbered = subst AreNumbered (past-after_turns (entry []) turns) (served.rests out).stands.stands.tied.stands.orderly.numbered;
  };
  uncut = served.whole;
  trace = subst IsTrialTrace served.trace served.well;
}

-- the run's end can be said
sums-up : (policy : Policy) (turns : List TakenTurn) (start : Standing) (now : Standing) (ending : Ending) → Going policy turns start now
    → SumsUp now.session start.session.log (lines_of_turns (rules_by policy) (entry []) Told turns) (run_of policy ending turns)
sums-up policy turns start now ending going = record {
  turns = going.served.count;
  owed = ap (λ (changes : List Change). length (live changes)) ((going.served.rests (printing_of now)).stands.changes ∙ ledger-behind (entry []) turns);
  tally = going.logs.counted;
  pages = going.served.pages;
}

-- an output that has the same bytes and faults, whatever its log keeps
same-writes : (b c d : Bool) (text : List ℕ) (first here there : Output) → d ≡ c → there.written ≡ here.written → there.faults ≡ here.faults → Writes b c text first here → Writes b d text first there
same-writes b c d text first here there same written faults writes =
    subst (λ (x : Bool). Writes b x text first there) (sym same) (other-outputs b c text first here first there refl refl written faults writes)

-- what is left of a turn that ended so: the daemon can be parked, and the log prints as before
pub left_by : {T : Type 0} (policy : Policy) (place : Place) (turn : FeedTurn) (old new : Scene) (result : Result T TurnErr) → ServesOver policy place turn old new result
    → OwesItsLive new.daemon × (new.output.log.verbosity ≡ old.output.log.verbosity)
left_by policy place turn old new (Ok _) serves = (rests-parks policy.conf.now new _ serves.rests, serves.logs.kept)
left_by policy place turn old new (Err Disk) serves = (serves.parks, serves.logs.kept)
left_by policy place turn old new (Err NoMemory) serves = (serves.parks, serves.logs.kept)

module _ (policy : Policy) (turns : List TakenTurn) (start : Standing) (old : Session) (input input2 : SourceView) (sink : SinkView) (reader : Reading)
    (going : Going policy turns start (record { session = old; streams = record { input = input; output = sink } })) (bounded : IsBounded reader) where
  abbrev now : Standing
  now = record { session = record old { reader = reader }; streams = record { input = input2; output = sink } }

  abbrev given : List FeedTurn
  given = map (λ taken. taken.turn) turns

  -- at most so much was taken with this piece
  most-taken : (piece : List ℕ) → Takes piece (rest old.reader input.left) (rest reader input2.left) → reader.offset ≡ old.reader.offset + length piece
      → TakesAtMost (input_limit + 1) start.streams.input.left input2.left
  most-taken piece taken offset = takes-bounded piece start.streams.input.left (rest old.reader input.left) input2.left old.reader reader given going.read taken offset bounded

  may-sum : (how : Stop) → MaySumUp how (SumsUp (record old { reader = reader }) start.session.log (lines_of_turns (rules_by policy) (entry []) Told turns) (run_of policy (ending_of how (length turns + 1)) turns))
  may-sum how =
      let sums = sums-up policy turns start (record { session = old; streams = record { input = input; output = sink } }) (ending_of how (length turns + 1)) going in
      some how (record { turns = sums.turns; owed = sums.owed; tally = sums.tally; pages = sums.pages })
    where
      some : (how : Stop) {S : Type 0} → S → MaySumUp how S
      some stop.End sums = sums
      some stop.BadLine sums = sums
      some stop.LongInput sums = sums
      some stop.ReadFault sums = sums
      some stop.NoMemory sums = tt

  stopped-by : (how : Stop) → StopsAt how (length turns + 1) start.streams.input.left input2.left given
      → HasInputCause how start.streams.input.faults input2.faults → TakesAtMost (input_limit + 1) start.streams.input.left input2.left
      → Stopped policy how start now
  stopped-by how reading cause most = record {
    turns = turns;
    count = going.served.count;
    trial = is-trial policy turns old (ending_of how (length turns + 1)) (printing old sink) going.served;
    reading = reading;
    cause = cause;
    bounded = most;
    verbosity = going.logs.kept;
    written = going.logs.written;
    parks = rests-parks policy.conf.now _ (after_turns (entry []) turns) (going.served.rests (printing old sink));
    few = let few = going.few in let within = going.read.within in omega arith;
    sums = may-sum how;
  }

  pub stopped-end : FindsEnd old.reader reader (rest old.reader input.left) (rest reader input2.left) → input2.faults ≡ input.faults → Stopped policy stop.End start now
  stopped-end finds same =
      stopped-by stop.End (turns-end start.streams.input.left (rest old.reader input.left) input2.left old.reader reader given going.read finds) (same ∙ going.input)
      (most-taken [] finds.nothing.2 (omega (arith, finds.offset)))

  pub stopped-bad_line : TakesLine old.reader reader (rest old.reader input.left) (rest reader input2.left) → ((turn : FeedTurn) → IsTurnLine reader.line turn → ⊥)
      → input2.faults ≡ input.faults → Stopped policy stop.BadLine start now
  stopped-bad_line takes none same =
      stopped-by stop.BadLine
      (subst (λ (n : ℕ). HasTurns (ending_of stop.BadLine (n + 1)) start.streams.input.left input2.left given) (length-map turns (λ (taken : TakenTurn). taken.turn))
      (Reads-bad_line IsTurnLine start.streams.input.left (rest old.reader input.left) (rest reader input2.left) old.reader reader given going.read takes none)) (same ∙ going.input)
      (most-taken takes.piece takes.taken takes.offset)

  pub stopped-long_line : TakesLongLine old.reader reader (rest old.reader input.left) (rest reader input2.left) → input2.faults ≡ input.faults → Stopped policy stop.BadLine start now
  stopped-long_line takes same =
      stopped-by stop.BadLine
      (subst (λ (n : ℕ). HasTurns (ending_of stop.BadLine (n + 1)) start.streams.input.left input2.left given) (length-map turns (λ (taken : TakenTurn). taken.turn))
      (Reads-long_line IsTurnLine start.streams.input.left (rest old.reader input.left) (rest reader input2.left) old.reader reader given going.read takes)) (same ∙ going.input)
      (most-taken takes.front takes.taken takes.offset)

  pub stopped-limit : PassesLimit old.reader reader (rest old.reader input.left) (rest reader input2.left) → input2.faults ≡ input.faults → Stopped policy stop.LongInput start now
  stopped-limit passes same =
      stopped-by stop.LongInput
      (subst (λ (n : ℕ). HasTurns (ending_of stop.LongInput (n + 1)) start.streams.input.left input2.left given) (length-map turns (λ (taken : TakenTurn). taken.turn))
      (Reads-limit IsTurnLine start.streams.input.left (rest old.reader input.left) (rest reader input2.left) old.reader reader given going.read passes)) (same ∙ going.input)
      (most-taken passes.front passes.taken passes.offset)

  pub stopped-failed : BreaksOff old.reader reader (rest old.reader input.left) (rest reader input2.left) → input2.faults ≡ counted input.faults → Stopped policy stop.ReadFault start now
  stopped-failed breaks cause =
      let taken = Reads-broken IsTurnLine start.streams.input.left (rest old.reader input.left) input2.left old.reader reader given going.read breaks in
      stopped-by stop.ReadFault (taken.0, taken.1, taken.2, record { lines = taken.3; whole = taken.4 }) (cause ∙ ap counted going.input) (most-taken breaks.front breaks.taken breaks.offset)

  pub stopped-memory : (new : Session) (sink2 : SinkView) → TakesLine old.reader reader (rest old.reader input.left) (rest reader input2.left) → input2.faults ≡ input.faults
      → StopsServing (record old { reader = reader }) new sink sink2 → Stopped policy stop.NoMemory start (record { session = new; streams = record { input = input2; output = sink2 } })
  stopped-memory new sink2 takes same stops = record {
    turns = turns;
    count = stops.turns ∙ going.served.count;
    trial = is-trial policy turns old (ending_of stop.NoMemory (length turns + 1)) (printing old sink) going.served;
    reading = wants-for-line start.streams.input.left (rest reader input2.left) reader given stops.turn
        (HasRead-line IsTurnLine start.streams.input.left (rest old.reader input.left) (rest reader input2.left) old.reader reader given stops.turn going.read takes stops.is_line);
    cause = same ∙ going.input;
    bounded = most-taken takes.piece takes.taken takes.offset;
    verbosity = stops.verbosity ∙ going.logs.kept;
    written = same-writes start.session.is_broken old.is_broken new.is_broken _ (printing_of start) (printing old sink) (printing new sink2) stops.broken
        (ap (λ (s : SinkView). s.written) stops.sink) (ap (λ (s : SinkView). s.faults) stops.sink) going.logs.written;
    parks = stops.parks;
    few = let few = going.few in let within = going.read.within in let count = stops.turns in omega arith;
    sums = tt;
  }
