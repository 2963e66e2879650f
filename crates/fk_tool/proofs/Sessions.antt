-- A session over lines, from line to line and to its end.
use Rattle.std.proofs.Common.{◌≡◌, ℕ, ◌+◌, ◌<◌, ◌≤◌, Bool, true, false, List, [], ◌∷◌, ◌++◌, length, Option, None, Some, IfNone, ⊎_elim, refl, sym, ap, subst, ◌∙◌, append-nil, length-append, zero-le, arith}
use Rattle.std.specs.List.{concat}
use Rattle.std.proofs.lemmas.List.{append_cancel_left}
use Rattle.std.proofs.lemmas.Bool.{cases_Bool}
use Rattle.fk_base.specs.declared.status.Status.{Status}
use Rattle.fk_host.specs.Count.{counted}
use Rattle.fk_host.specs.Stream.{Takes}
use Rattle.fk_host.proofs.Streams.{Takes-append}
use Rattle.fk_input.specs.declared.line_reader.NextLine.{NextLine}
use Rattle.fk_input.specs.declared.line_reader.NextLine.TheVariants as next_line
use Rattle.fk_input.specs.Lines.{IsPiece, input_limit, pieces}
use Rattle.fk_input.specs.Progress.{HasRead}
use Rattle.fk_input.specs.Reading.{BreaksOff, FindsEnd, IsBounded, PassesLimit, Reading, Says, TakesLine, TakesLongLine, rest}
use Rattle.fk_input.proofs.Progress.{HasRead-line, HasRead-new, Reads-bad_line, Reads-broken, Reads-end, Reads-limit, Reads-long_line, Says-bounded}
use Rattle.fk_log.specs.Printing.{Prints, SinkView}
use Rattle.fk_client.specs.Outside.{EntropyView}
use Rattle.fk_client.proofs.Saying.{prints-behind, prints-longer}
use Rattle.fk_tool.specs.Answers.{IsRight}
use Rattle.fk_tool.specs.Answers.AreAnswers.{next, none}
use Rattle.fk_tool.specs.Private.{IsUnanswered}
use Rattle.fk_tool.specs.Sessions.{Adds, AnswersLine, GoesOn, Going, PrintsAnswer, Standing, Stopped, standing_by}
use Rattle.fk_tool.specs.Streams.{AnswersInput, HasDrawn, HasInputCause, HasLines, IsJobLine, SourceView, StopsBehind, Streams, TakesAtMost, last_text, stop_status}
use Rattle.fk_tool.specs.declared.job.Job.{Job}
use Rattle.fk_tool.specs.declared.session.Session.{Session}
use Rattle.fk_tool.specs.declared.stop.Stop.{Stop}
use Rattle.fk_tool.specs.declared.stop.Stop.TheVariants as stop
use Rattle.fk_tool.proofs.Answered.{takes-none}
use Rattle.fk_tool.proofs.Printed.{gives-none}

-- a piece takes at least one byte
some-byte : (piece : List ℕ) → IsPiece piece → 0 < length piece
some-byte [] is = absurd (cc)
some-byte (byte ∷ bytes) is = omega arith

line-advances : (old new : Reading) (before after : Option (List ℕ)) → TakesLine old new before after → old.offset < new.offset
line-advances old new before after t = omega (arith, t.offset, some-byte t.piece t.is_piece)

-- a text was given behind another
pub adds-behind : (p q : List ℕ) (first later : Bool) (a b c : SinkView) → Prints p first a b → Adds q first later b c → Prints (p ++ q) later a c
adds-behind p q false later a b c one two = prints-behind p q later a b c one two
adds-behind p q true later a b c one two =
    subst (λ (l : Bool). Prints (p ++ q) l a c) (sym two.0) (subst (λ (s : SinkView). Prints (p ++ q) true a s) (sym two.1) (prints-longer p q a b one))

-- the lines that were read are the first ones of the input
pieces-so_far : (job : Job) (text : List ℕ) (now : Option (List ℕ)) (reader : Reading) (lines : List (List ℕ)) → (h : HasRead (IsJobLine job) (Some text) now reader lines)
    → (others : List (List ℕ)) × (pieces text ≡ h.used ++ others)
pieces-so_far job text None reader lines h = absurd h.taken
pieces-so_far job text (Some left) reader lines h =
    ⊎_elim
    (λ e. ([], ap pieces (h.whole e).1 ∙ (h.whole e).0 ∙ sym (append-nil h.used)))
    (λ e. (pieces left, ap pieces h.taken ∙ h.apart e left))
    (cases_Bool reader.ended)

stops-behind : (job : Job) (start now : Option (List ℕ)) (reader : Reading) (lines : List (List ℕ)) (line : List ℕ)
    → HasRead (IsJobLine job) start now reader (lines ++ line ∷ []) → StopsBehind job start lines
stops-behind job None now reader lines line h = tt
stops-behind job (Some text) now reader lines line h =
    let at = pieces-so_far job text now reader (lines ++ line ∷ []) h in
    (line, h.used, at.0, at.1, h.reads)

left-none : (job : Job) (text : List ℕ) (before left : Option (List ℕ)) (old new : Reading) (lines : List (List ℕ))
    → HasRead (IsJobLine job) (Some text) before old lines → FindsEnd old new before (rest new left) → left ≡ Some []
left-none job text None left old new lines h f = absurd h.taken
left-none job text (Some bytes) None old new lines h f = absurd f.nothing.2
left-none job text (Some bytes) (Some others) old new lines h f =
    let empty : bytes ≡ [] = ⊎_elim
    (λ e. append_cancel_left (concat h.used) bytes [] (sym h.taken ∙ ((h.whole e).1 ∙ sym (append-nil (concat h.used)))))
    (λ none. none) f.left in
    let behind : bytes ≡ new.pending ++ others = f.nothing.2 in
    ap Some (sym (ap (λ v. v ++ others) f.nothing.1) ∙ (sym behind ∙ empty))

lines-end : (job : Job) (start before left : Option (List ℕ)) (old new : Reading) (lines : List (List ℕ))
    → HasRead (IsJobLine job) start before old lines → FindsEnd old new before (rest new left) → HasLines job stop.End start left lines
lines-end job None before left old new lines h f = tt
lines-end job (Some text) before left old new lines h f =
    (Reads-end (IsJobLine job) (Some text) before (rest new left) old new lines h f, left-none job text before left old new lines h f)

-- what was drawn before the end, where nothing failed that draws
abbrev IsCalm : Stop → Type 0
IsCalm how = (drawn : List ℕ) (old new : EntropyView) → Takes drawn old.left new.left → new.faults ≡ old.faults → HasDrawn how drawn old new

module _ (job : Job) (start : Streams) (old : Session) (entropy : EntropyView) (input input2 : SourceView) (sink : SinkView) (reader : Reading)
    (going : Going job start (standing_by old (record { entropy = entropy; input = input; sink = sink }))) where
  abbrev now : Standing
  now = standing_by (record old { reader = reader }) (record { entropy = entropy; input = input2; sink = sink })

  bounds : (result : NextLine) → Says result old.reader reader (rest old.reader input.left) (rest reader input2.left) → IsBounded reader
      → TakesAtMost (input_limit + 1) start.input.left input2.left
  bounds result says bounded = Says-bounded (IsJobLine job) result start.input.left (rest old.reader input.left) input2.left old.reader reader going.lines going.read says bounded

  stopped-by : (how : Stop) → IsCalm how → HasLines job how start.input.left input2.left going.lines → HasInputCause how start.input.faults input2.faults
      → TakesAtMost (input_limit + 1) start.input.left input2.left → Stopped job how start now
  stopped-by how calm reading cause most = record {
    lines = going.lines;
    count = going.count;
    few = let few = going.few in let within = going.read.within in omega arith;
    reading = reading;
    cause = cause;
    bounded = most;
    drawn = going.answered.drawn;
    text = going.answered.text;
    answers = going.answered.answers;
    draws = calm going.answered.drawn start.entropy entropy going.answered.taken going.answered.unfailed;
    printed = going.answered.printed;
  }

  pub stopped-end : FindsEnd old.reader reader (rest old.reader input.left) (rest reader input2.left) → IsBounded reader → input2.faults ≡ input.faults → Stopped job stop.End start now
  stopped-end finds bounded same =
      stopped-by stop.End (λ drawn a b taken faults. (taken, faults))
      (lines-end job start.input.left (rest old.reader input.left) input2.left old.reader reader going.lines going.read finds) (same ∙ going.input) (bounds next_line.End finds bounded)

  pub stopped-long_line : TakesLongLine old.reader reader (rest old.reader input.left) (rest reader input2.left) → IsBounded reader → input2.faults ≡ input.faults
      → Stopped job stop.BadLine start now
  stopped-long_line takes bounded same =
      stopped-by stop.BadLine (λ drawn a b taken faults. (taken, faults))
      (Reads-long_line (IsJobLine job) start.input.left (rest old.reader input.left) (rest reader input2.left) old.reader reader going.lines going.read takes) (same ∙ going.input)
      (bounds next_line.LongLine takes bounded)

  pub stopped-limit : PassesLimit old.reader reader (rest old.reader input.left) (rest reader input2.left) → IsBounded reader → input2.faults ≡ input.faults
      → Stopped job stop.LongInput start now
  stopped-limit passes bounded same =
      stopped-by stop.LongInput (λ drawn a b taken faults. (taken, faults))
      (Reads-limit (IsJobLine job) start.input.left (rest old.reader input.left) (rest reader input2.left) old.reader reader going.lines going.read passes) (same ∙ going.input)
      (bounds next_line.LongInput passes bounded)

  pub stopped-failed : BreaksOff old.reader reader (rest old.reader input.left) (rest reader input2.left) → IsBounded reader → input2.faults ≡ counted input.faults
      → Stopped job stop.ReadFault start now
  stopped-failed breaks bounded cause =
      let taken = Reads-broken (IsJobLine job) start.input.left (rest old.reader input.left) input2.left old.reader reader going.lines going.read breaks in
      stopped-by stop.ReadFault (λ drawn a b taken faults. (taken, faults)) (taken.0, taken.1, taken.2, record { lines = taken.3; whole = taken.4 }) (cause ∙ ap counted going.input)
      (bounds next_line.Failed breaks bounded)

  module _ (bounded : IsBounded reader) (takes : TakesLine old.reader reader (rest old.reader input.left) (rest reader input2.left)) (same : input2.faults ≡ input.faults) where
    -- the lines with the one that was read last, where it is right
    more : IsRight job reader.line → HasRead (IsJobLine job) start.input.left (rest reader input2.left) reader (going.lines ++ reader.line ∷ [])
    more right = HasRead-line (IsJobLine job) start.input.left (rest old.reader input.left) (rest reader input2.left) old.reader reader going.lines reader.line going.read takes (refl, right)

    behind : IsRight job reader.line → StopsBehind job start.input.left going.lines
    behind right = stops-behind job start.input.left (rest reader input2.left) reader going.lines reader.line (more right)

    going-next : (new : Session) (entropy2 : EntropyView) (sink2 : SinkView) → PrintsAnswer job (record old { reader = reader }) new entropy entropy2 sink sink2
        → Going job start (standing_by new (record { entropy = entropy2; input = input2; sink = sink2 }))
    going-next new entropy2 sink2 prints =
        let is = prints.is in
        let before = going.answered in
        record {
          lines = going.lines ++ reader.line ∷ [];
          read = subst (λ (r : Reading). HasRead (IsJobLine job) start.input.left (rest r input2.left) r (going.lines ++ reader.line ∷ [])) (sym prints.reader) (more is.right);
          count = prints.count ∙ ap (λ n. n + 1) going.count ∙ sym (length-append going.lines (reader.line ∷ []));
          few = let few = going.few in let further = line-advances old.reader reader (rest old.reader input.left) (rest reader input2.left) takes in
              let count = prints.count in subst (λ (r : Reading). new.lines ≤ r.offset) (sym prints.reader) (omega arith);
          input = same ∙ going.input;
          answered = record {
            drawn = before.drawn ++ is.drawn;
            text = before.text ++ prints.text;
            answers = next reader.line is.drawn prints.text before.answers is.answer;
            taken = Takes-append before.drawn is.drawn start.entropy.left entropy.left entropy2.left before.taken is.taken;
            unfailed = is.unfailed ∙ before.unfailed;
            printed = adds-behind before.text prints.text old.is_broken new.is_broken start.sink sink sink2 before.printed prints.adds;
          };
        }

    stopped-here : (how : Stop) (entropy2 : EntropyView) → HasLines job how start.input.left input2.left going.lines → HasInputCause how start.input.faults input2.faults
        → HasDrawn how going.answered.drawn start.entropy entropy2
        → Stopped job how start (standing_by (record old { reader = reader }) (record { entropy = entropy2; input = input2; sink = sink }))
    stopped-here how entropy2 reading cause draws = record {
      lines = going.lines;
      count = going.count;
      few = let few = going.few in let within = going.read.within in omega arith;
      reading = reading;
      cause = cause;
      bounded = bounds next_line.Line takes bounded;
      drawn = going.answered.drawn;
      text = going.answered.text;
      answers = going.answered.answers;
      draws = draws;
      printed = going.answered.printed;
    }

    stopped-unanswered : (how : Stop) (entropy2 : EntropyView) → IsUnanswered job reader.line how entropy entropy2
        → Stopped job how start (standing_by (record old { reader = reader }) (record { entropy = entropy2; input = input2; sink = sink }))
    stopped-unanswered stop.BadLine entropy2 un =
        subst (λ (e : EntropyView). Stopped job stop.BadLine start (standing_by (record old { reader = reader }) (record { entropy = e; input = input2; sink = sink }))) (sym un.1)
        (stopped-here stop.BadLine entropy
        (Reads-bad_line (IsJobLine job) start.input.left (rest old.reader input.left) (rest reader input2.left) old.reader reader going.lines going.read takes
        (λ right is. un.0 is.1)) (same ∙ going.input) (going.answered.taken, going.answered.unfailed))
    stopped-unanswered stop.EntropyFault entropy2 un =
        subst (λ (e : EntropyView). Stopped job stop.EntropyFault start (standing_by (record old { reader = reader }) (record { entropy = e; input = input2; sink = sink }))) (sym un.1)
        (stopped-here stop.EntropyFault (record entropy { faults = counted entropy.faults }) (behind un.0) (same ∙ going.input)
        (going.answered.taken, ap counted going.answered.unfailed))
    stopped-unanswered stop.NoMemory entropy2 un =
        stopped-here stop.NoMemory entropy2 (behind un.right) (same ∙ going.input)
        (un.drawn, un.short, Takes-append going.answered.drawn un.drawn start.entropy.left entropy.left entropy2.left going.answered.taken un.taken, un.unfailed ∙ going.answered.unfailed)
    stopped-unanswered stop.End entropy2 un = absurd un
    stopped-unanswered stop.LongInput entropy2 un = absurd un
    stopped-unanswered stop.ReadFault entropy2 un = absurd un

    -- a line was read, and this came of it
    pub line-goes : (result : Option Stop) (new : Session) (entropy2 : EntropyView) (sink2 : SinkView)
        → AnswersLine job result (record old { reader = reader }) new entropy entropy2 sink sink2
        → GoesOn job result start (standing_by new (record { entropy = entropy2; input = input2; sink = sink2 }))
    line-goes None new entropy2 sink2 came = going-next new entropy2 sink2 came
    line-goes (Some how) new entropy2 sink2 came =
        subst (λ (s : Session). Stopped job how start (standing_by s (record { entropy = entropy2; input = input2; sink = sink2 }))) (sym came.0)
        (subst (λ (k : SinkView). Stopped job how start (standing_by (record old { reader = reader }) (record { entropy = entropy2; input = input2; sink = k }))) (sym came.1)
        (stopped-unanswered how entropy2 came.2))

-- a line that was answered uses up some bytes
pub line-progress : (job : Job) (result : Option Stop) (old new : Session) (reader : Reading) (entropy entropy2 : EntropyView) (sink sink2 : SinkView) (before after : Option (List ℕ))
    → TakesLine old.reader reader before after → AnswersLine job result (record old { reader = reader }) new entropy entropy2 sink sink2
    → IfNone result (old.reader.offset < new.reader.offset)
line-progress job None old new reader entropy entropy2 sink sink2 before after takes came =
    subst (λ (r : Reading). old.reader.offset < r.offset) (sym came.reader) (line-advances old.reader reader before after takes)
line-progress job (Some how) old new reader entropy entropy2 sink sink2 before after takes came = tt

-- a new session has answered nothing
pub going-new : (job : Job) (streams : Streams) (session : Session) → session ≡ record { reader = record { pending = []; line = []; offset = 0; ended = false }; lines = 0; is_broken = false }
    → Going job streams (standing_by session streams)
going-new job streams session is =
    subst (λ (s : Session). Going job streams (standing_by s streams)) (sym is) (record {
      lines = [];
      read = HasRead-new (IsJobLine job) streams.input.left _ refl;
      count = refl;
      few = zero-le;
      input = refl;
      answered = record {
        drawn = [];
        text = [];
        answers = none;
        taken = takes-none streams.entropy.left;
        unfailed = refl;
        printed = (gives-none streams.sink.written, refl);
      };
    })

-- an input was answered up to a stop, and that told
pub input-answered : (job : Job) (how : Stop) (start : Streams) (now : Standing) (sink2 : SinkView) (answer : Status) → Stopped job how start now
    → ((is_broken : Bool) × Adds (last_text how (now.session.lines + 1)) now.session.is_broken is_broken now.streams.sink sink2 × (answer ≡ stop_status how is_broken))
    → AnswersInput job start (record { entropy = now.streams.entropy; input = now.streams.input; sink = sink2 }) answer
input-answered job how start now sink2 answer stopped told = record {
  how = how;
  lines = stopped.lines;
  reading = stopped.reading;
  cause = stopped.cause;
  bounded = stopped.bounded;
  drawn = stopped.drawn;
  text = stopped.text;
  answers = stopped.answers;
  draws = stopped.draws;
  is_broken = told.0;
  printed = subst (λ (n : ℕ). Prints (stopped.text ++ last_text how (n + 1)) told.0 start.sink sink2) stopped.count
      (adds-behind stopped.text (last_text how (now.session.lines + 1)) now.session.is_broken told.0 start.sink now.streams.sink sink2 stopped.printed told.1);
  answered = told.2;
}
