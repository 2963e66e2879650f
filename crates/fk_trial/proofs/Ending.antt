-- A trial, whole with its first and its last line.
use Rattle.std.proofs.Common.{◌≡◌, ◌⊎◌, ℕ, ◌+◌, ◌&&◌, not, Bool, true, false, List, [], ◌∷◌, ◌++◌, length, refl, sym, ap, ◌∙◌, subst, inl, inr, arith}
use Rattle.fk_base.specs.declared.status.Status.{Status}
use Rattle.fk_base.specs.declared.status.Status.TheVariants as status
use Rattle.fk_trace.specs.Ledger.{after, live}
use Rattle.fk_run.specs.Place.{entry}
use Rattle.fk_run.specs.Turn.{TakenTurn}
use Rattle.fk_run.specs.Run.{Run, Ending}
use Rattle.fk_run.specs.Run.Ending.{AtWantOfMemory}
use Rattle.fk_host.specs.Count.{counted}
use Rattle.fk_host.proofs.Streams.{Gives-nil}
use Rattle.fk_log.specs.declared.tally.Tally.{Tally}
use Rattle.fk_log.specs.declared.verbosity.Verbosity.{Verbosity}
use Rattle.fk_log.specs.Line.{Line}
use Rattle.fk_log.specs.Line.Line.{ReadyLine, SummaryLine}
use Rattle.fk_log.specs.Causes.{FailsOnlyAs, FailsSink}
use Rattle.fk_log.specs.Log.{lines_of_turns, ending_lines, summary_of, log_text}
use Rattle.fk_log.specs.Log.Opening.{Opened}
use Rattle.fk_log.specs.Log.RefusalLine.{Told}
use Rattle.fk_log.specs.Printing.{SinkView, Prints}
use Rattle.fk_log.specs.Shown.{shown_text}
use Rattle.fk_log.specs.Tally.{tallied, blank_tally, tally_of}
use Rattle.fk_log.specs.Writing.{LogState, Output, Writes, Logs, output}
use Rattle.fk_log.proofs.Logged.{Logs-append, tallied-append}
use Rattle.fk_turn.specs.declared.policy.Policy.{Policy}
use Rattle.fk_turn.specs.Rules.{rules_by}
use Rattle.fk_trial.specs.declared.session.Session.{Session}
use Rattle.fk_trial.specs.declared.session.Stop.{Stop}
use Rattle.fk_trial.specs.declared.session.Stop.TheVariants as stop
use Rattle.fk_trial.specs.declared.task.TrialTask.{TrialTask}
use Rattle.fk_trial.specs.Streams.{SourceView, Streams}
use Rattle.fk_trial.specs.Trial.{HasStatus, Tries}
use Rattle.fk_trial.specs.Sessions.{Standing, Begins, HoldsPages, MayEnd, MaySumUp, SaysLast, SumsUp, Stopped, HasInputCause, EndsSo, ending_of, run_of, last_lines, summary_by, printing}
use Rattle.fk_trial.proofs.Behind.{changes_in}
use Rattle.fk_trial.proofs.Reading.{has-turns}
use Rattle.fk_trial.proofs.Serving.{other-outputs}

-- what a session that may write has said
pub said-last : (how : Stop) (old mid new : Session) (before after : SinkView) → true ≡ (not old.is_broken && not old.log.is_broken)
    → Logs (last_lines how old.turns (summary_by old)) (output old.log before.written before.faults) (output mid.log after.written after.faults)
    → new.is_broken ≡ mid.log.is_broken → SaysLast how old new before after
said-last how old mid new before after may logs is =
    let whole = both old.is_broken old.log.is_broken may in
    let text : List ℕ = shown_text old.log.verbosity (last_lines how old.turns (summary_by old)) in
    other-outputs old.is_broken new.is_broken text (output old.log before.written before.faults) (output mid.log after.written after.faults) (printing old before) (printing new after) refl refl refl refl
    (subst (λ (b : Bool). Writes old.is_broken b text (output old.log before.written before.faults) (output mid.log after.written after.faults)) (sym is)
    (subst (λ (b : Bool). Writes b mid.log.is_broken text (output old.log before.written before.faults) (output mid.log after.written after.faults)) (whole.1 ∙ sym whole.0) logs.written))
  where
    both : (a b : Bool) → true ≡ (not a && not b) → (a ≡ false) × (b ≡ false)
    both true b may = absurd cc
    both false true may = absurd cc
    both false false may = (refl, refl)

-- one that may not has said nothing, and had nothing to say
pub unsaid-last : (how : Stop) (session : Session) (sink : SinkView) → false ≡ (not session.is_broken && not session.log.is_broken)
    → MaySumUp how (HoldsPages session) → SaysLast how session session sink sink
unsaid-last how session sink may pages = by_stop how pages
  where
    silent : (b : Bool) (text : List ℕ) → b ≡ true → Writes b b text (printing session sink) (printing session sink)
    silent true text is = (refl, refl)
    silent false text is = absurd cc

    nothing : (b : Bool) → Writes b b [] (printing session sink) (printing session sink)
    nothing true = (refl, refl)
    nothing false = (Gives-nil sink.written, refl)

    broken : (a b : Bool) → false ≡ (not a && not b) → (a ≡ false → b ≡ false) → a ≡ true
    broken true b may holds = refl
    broken false true may holds = absurd (let never = holds refl in cc)
    broken false false may holds = absurd cc

    by_stop : (how : Stop) → MaySumUp how (HoldsPages session) → SaysLast how session session sink sink
    by_stop stop.End holds = silent session.is_broken _ (broken session.is_broken session.log.is_broken may holds)
    by_stop stop.BadLine holds = silent session.is_broken _ (broken session.is_broken session.log.is_broken may holds)
    by_stop stop.LongInput holds = silent session.is_broken _ (broken session.is_broken session.log.is_broken may holds)
    by_stop stop.ReadFault holds = silent session.is_broken _ (broken session.is_broken session.log.is_broken may holds)
    by_stop stop.NoMemory holds = nothing session.is_broken

-- a session that has said its last line, and its status
pub ended : (how : Stop) (old new : Session) (answer : Status) (before after : SinkView) → SaysLast how old new before after
    → HasStatus (ending_of how (old.turns + 1)) new.is_broken answer → EndsSo how old answer before after
ended how old new answer before after says has = record {
  is_broken = new.is_broken;
  written = other-outputs old.is_broken new.is_broken (shown_text old.log.verbosity (last_lines how old.turns (summary_by old))) (printing old before) (printing new after)
      (printing old before) (printing old after) refl refl refl refl says;
  answered = has;
}

prints : (is_broken : Bool) (text : List ℕ) (old new : Output) → Writes false is_broken text old new
    → Prints text is_broken (record { written = old.written; faults = old.faults }) (record { written = new.written; faults = new.faults })
prints false text old new writes = writes
prints true text old new writes = writes

-- what was written, as the lines of a log with this tally
logged : (v : Verbosity) (t : Tally) (b c : Bool) (lines : List Line) (old new : Output) → Writes b c (shown_text v lines) old new
    → Logs lines (output (record { verbosity = v; tally = t; is_broken = b }) old.written old.faults)
    (output (record { verbosity = v; tally = tallied t lines; is_broken = c }) new.written new.faults)
logged v t b c lines old new writes = record {
  kept = refl;
  counted = refl;
  written = other-outputs b c (shown_text v lines) old new (output (record { verbosity = v; tally = t; is_broken = b }) old.written old.faults)
      (output (record { verbosity = v; tally = tallied t lines; is_broken = c }) new.written new.faults) refl refl refl refl writes;
}

-- the last lines of a session are those of its run
same-end : (how : Stop) (session : Session) (old : LogState) (front lines : List Line) (turns : List TakenTurn) (policy : Policy)
    → MaySumUp how (SumsUp session old lines (run_of policy (ending_of how (length turns + 1)) turns)) → old.tally ≡ tallied blank_tally front
    → last_lines how session.turns (summary_by session)
    ≡ ending_lines (ending_of how (length turns + 1)) (summary_of (front ++ lines) (length turns) (length (live (after [] (changes_in turns)))))
same-end stop.End session old front lines turns policy sums first =
    let tally : session.log.tally ≡ tally_of (front ++ lines) = sums.tally ∙ ap (λ (t : Tally). tallied t lines) first ∙ tallied-append blank_tally front lines in
    ap (λ (n : ℕ). SummaryLine n session.log.tally (length (live session.daemon.book.changes)) ∷ []) sums.turns
    ∙ ap (λ (t : Tally). SummaryLine (length turns) t (length (live session.daemon.book.changes)) ∷ []) tally
    ∙ ap (λ (n : ℕ). SummaryLine (length turns) (tally_of (front ++ lines)) n ∷ []) sums.owed
same-end stop.BadLine session old front lines turns policy sums first = ap (λ (n : ℕ). last_lines stop.BadLine n (ReadyLine 0)) sums.turns
same-end stop.LongInput session old front lines turns policy sums first = ap (λ (n : ℕ). last_lines stop.LongInput n (ReadyLine 0)) sums.turns
same-end stop.ReadFault session old front lines turns policy sums first = refl
same-end stop.NoMemory session old front lines turns policy sums first = refl

-- the number of the line plays no part in the status
same-status : (how : Stop) (a b : ℕ) (is_broken : Bool) (answer : Status) → HasStatus (ending_of how a) is_broken answer → HasStatus (ending_of how b) is_broken answer
same-status stop.End a b is_broken answer has = has
same-status stop.BadLine a b is_broken answer has = has
same-status stop.LongInput a b is_broken answer has = has
same-status stop.ReadFault a b is_broken answer has = has
same-status stop.NoMemory a b is_broken answer has = has

abbrev pub blank : TrialTask → LogState
blank task = record { verbosity = task.verbosity; tally = blank_tally; is_broken = false }

abbrev ready_line : List Line
ready_line = ReadyLine 0 ∷ []

-- what the answer of a trial says of the counts
pub record Counts (answer : Status) (old new : Streams) : Type 0 where
  pub input : FailsOnlyAs status.ReadFault answer old.input.faults new.input.faults
  pub sink : FailsSink answer old.output.faults new.output.faults

printed-once : (is_broken : Bool) (text : List ℕ) (old new : SinkView) → Prints text is_broken old new → (new.faults ≡ old.faults) ⊎ (new.faults ≡ counted old.faults)
printed-once false text old new prints = inl prints.1
printed-once true text old new prints = inr prints.1

stop-counts : (how : Stop) (line : ℕ) (is_broken : Bool) (text : List ℕ) (answer : Status) (old new : Streams) → HasStatus (ending_of how line) is_broken answer
    → HasInputCause how old.input.faults new.input.faults → Prints text is_broken old.output new.output → Counts answer old new
stop-counts stop.End line false text answer old new is cause prints = record {
  input = inr (λ e. let f = is in cc, cause);
  sink = subst (λ (a : Status). FailsSink a old.output.faults new.output.faults) (sym is) prints.1;
}
stop-counts stop.End line true text answer old new is cause prints = record {
  input = inr (λ e. let f = is in cc, cause);
  sink = subst (λ (a : Status). FailsSink a old.output.faults new.output.faults) (sym is) prints.1;
}
stop-counts stop.BadLine line is_broken text answer old new is cause prints = record {
  input = inr (λ e. let f = is in cc, cause);
  sink = subst (λ (a : Status). FailsSink a old.output.faults new.output.faults) (sym is) (printed-once is_broken text old.output new.output prints);
}
stop-counts stop.LongInput line is_broken text answer old new is cause prints = record {
  input = inr (λ e. let f = is in cc, cause);
  sink = subst (λ (a : Status). FailsSink a old.output.faults new.output.faults) (sym is) (printed-once is_broken text old.output new.output prints);
}
stop-counts stop.ReadFault line is_broken text answer old new is cause prints = record {
  input = inl (is, cause);
  sink = subst (λ (a : Status). FailsSink a old.output.faults new.output.faults) (sym is) (printed-once is_broken text old.output new.output prints);
}
stop-counts stop.NoMemory line is_broken text answer old new is cause prints = record {
  input = inr (λ e. let f = is in cc, cause);
  sink = subst (λ (a : Status). FailsSink a old.output.faults new.output.faults) (sym is) (printed-once is_broken text old.output new.output prints);
}

module _ (task : TrialTask) (input input2 : SourceView) (sink sink1 sink2 sink3 : SinkView) (log : LogState) (first session : Session) (how : Stop) (answer : Status)
    (ready : Logs ready_line (output (blank task) sink.written sink.faults) (output log sink1.written sink1.faults))
    (begins : Begins task.policy.conf.now log first)
    (stopped : Stopped task.policy how (record { session = first; streams = record { input = input; output = sink1 } }) (record { session = session; streams = record { input = input2; output = sink2 } }))
    (ends : EndsSo how session answer sink2 sink3) where
  abbrev turns : List TakenTurn
  turns = stopped.turns

  abbrev lines : List Line
  lines = lines_of_turns (rules_by task.policy) (entry []) Told turns

  abbrev ending : Ending
  ending = ending_of how (length turns + 1)

  abbrev v : Verbosity
  v = task.verbosity

  abbrev last : List Line
  last = last_lines how session.turns (summary_by session)

  -- the log before its first line, behind it, before its last line and behind it
  abbrev out : Output
  out = output (blank task) sink.written sink.faults

  abbrev out1 : Output
  out1 = output (record { verbosity = v; tally = tallied blank_tally ready_line; is_broken = first.is_broken }) sink1.written sink1.faults

  abbrev out2 : Output
  out2 = output (record { verbosity = v; tally = tallied (tallied blank_tally ready_line) lines; is_broken = session.is_broken }) sink2.written sink2.faults

  abbrev out3 : Output
  out3 = output (record { verbosity = v; tally = tallied (tallied (tallied blank_tally ready_line) lines) last; is_broken = ends.is_broken }) sink3.written sink3.faults

  verbosity1 : first.log.verbosity ≡ v
  verbosity1 = ap (λ (l : LogState). l.verbosity) begins.log_is ∙ ready.kept

  verbosity2 : session.log.verbosity ≡ v
  verbosity2 = stopped.verbosity ∙ verbosity1

  start : Logs ready_line out out1
  start =
      logged v blank_tally false first.is_broken ready_line out (output log sink1.written sink1.faults)
      (subst (λ (b : Bool). Writes false b (shown_text v ready_line) out (output log sink1.written sink1.faults)) (sym begins.broken) ready.written)

  middle : Logs lines out1 out2
  middle =
      logged v (tallied blank_tally ready_line) first.is_broken session.is_broken lines (printing first sink1) (printing session sink2)
      (subst (λ (w : Verbosity). Writes first.is_broken session.is_broken (shown_text w lines) (printing first sink1) (printing session sink2)) verbosity1 stopped.written)

  close : Logs last out2 out3
  close =
      logged v (tallied (tallied blank_tally ready_line) lines) session.is_broken ends.is_broken last (printing session sink2) (printing session sink3)
      (subst (λ (w : Verbosity). Writes session.is_broken ends.is_broken (shown_text w last) (printing session sink2) (printing session sink3)) verbosity2 ends.written)

  all : Logs ((ready_line ++ lines) ++ last) out out3
  all = Logs-append (ready_line ++ lines) last out out2 out3 (Logs-append ready_line lines out out1 out2 start middle) close

  last_is : last ≡ ending_lines ending (summary_of (ready_line ++ lines) (length turns) (length (live (after [] (changes_in turns)))))
  last_is =
      same-end how session first.log ready_line lines turns task.policy stopped.sums (ap (λ (l : LogState). l.tally) begins.log_is ∙ ready.counted)

  printed : Prints (log_text v Opened Told (run_of task.policy ending turns)) ends.is_broken sink sink3
  printed =
      prints ends.is_broken (log_text v Opened Told (run_of task.policy ending turns)) out out3
      (subst (λ (ls : List Line). Writes false ends.is_broken (shown_text v ((ready_line ++ lines) ++ ls)) out out3) last_is all.written)

  -- what was begun, served and ended is a trial
  pub tried : Tries task (record { input = input; output = sink }) (record { input = input2; output = sink3 }) answer
  tried = record {
    run = run_of task.policy ending turns;
    trial = stopped.trial;
    reading = has-turns how (length turns + 1) input.left input2.left _ stopped.reading;
    is_broken = ends.is_broken;
    printed = printed;
    answered = same-status how (session.turns + 1) (length turns + 1) ends.is_broken answer ends.answered;
  }

  pub tried-counts : Counts answer (record { input = input; output = sink }) (record { input = input2; output = sink3 })
  tried-counts =
      stop-counts how (session.turns + 1) ends.is_broken (log_text v Opened Told (run_of task.policy ending turns)) answer
      (record { input = input; output = sink }) (record { input = input2; output = sink3 }) ends.answered stopped.cause printed

-- memory was wanting before the first line
pub tried-none : (task : TrialTask) (input : SourceView) (sink sink1 : SinkView) (log : LogState)
    → Logs ready_line (output (blank task) sink.written sink.faults) (output log sink1.written sink1.faults)
    → Tries task (record { input = input; output = sink }) (record { input = input; output = sink1 }) status.NoMemory
tried-none task input sink sink1 log ready = record {
  run = run_of task.policy AtWantOfMemory [];
  trial = record {
    rules = refl;
    ledger = refl;
    faults = refl;
    legal = record { turns = tt; no_fault_before = tt; numbered = λ i j d below inside. absurd (omega arith) };
    uncut = tt;
    trace = record { well = tt; numbers = refl };
  };
  reading = inl (refl, refl);
  is_broken = log.is_broken;
  printed = prints log.is_broken (shown_text task.verbosity ready_line) (output (blank task) sink.written sink.faults) (output log sink1.written sink1.faults) ready.written;
  answered = refl;
}

-- a session that serves no further line may end
pub may-end : (policy : Policy) (how : Stop) (old : Standing) (session : Session) (streams : Streams) → Stopped policy how old (record { session = session; streams = streams }) → MayEnd how session
may-end policy how old session streams stopped =
    (stopped.parks, stopped.few, by_stop how old.session.log _ (run_of policy (ending_of how (length stopped.turns + 1)) stopped.turns) stopped.sums)
  where
    by_stop : (how : Stop) (log : LogState) (written : List Line) (run : Run) → MaySumUp how (SumsUp session log written run) → MaySumUp how (HoldsPages session)
    by_stop stop.End log written run sums = sums.pages
    by_stop stop.BadLine log written run sums = sums.pages
    by_stop stop.LongInput log written run sums = sums.pages
    by_stop stop.ReadFault log written run sums = sums.pages
    by_stop stop.NoMemory log written run sums = tt
