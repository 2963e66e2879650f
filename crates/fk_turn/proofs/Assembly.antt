-- A turn is served by its four parts, whole or cut.
use Rattle.std.proofs.Common.{◌≡◌, ◌⊎◌, ℕ, ◌≤◌, ◌||◌, ◌&&◌, ◌==◌, Bool, true, false, not, cond, nat_le, List, [], ◌∷◌, ◌++◌, map, Result, Ok, Err, inl, inr, refl, sym, ap, subst, ◌∙◌, append_assoc, append-nil, length, length-append, ◌+◌, arith}
use Rattle.std.specs.Prelude.{IsErrAnd}
use Rattle.std.specs.List.{AllByRecursion, AllZip, Contains, filter, list_any}
use Rattle.std.proofs.lemmas.Bool.{leb-true}
use Rattle.std.proofs.lemmas.List.{map-append}
use Rattle.std.proofs.lemmas.List.Elements.{Contains-append_left}
use Rattle.fk_trace.specs.declared.change.OpenRecord.{OpenRecord}
use Rattle.fk_trace.specs.declared.change.Change.{Change}
use Rattle.fk_trace.specs.declared.change.Change.TheVariants.{Open as OpenChange, Done}
use Rattle.fk_trace.specs.Trace.{Event, Item, Child, running, still_running, begun_by, is_turn, is_close_attempt_of, close_tried, past_after, close_attempted}
use Rattle.fk_trace.specs.Ledger.{Key, live, seen, after, opens, dones, ends_with_floor, IsLedger}
use Rattle.fk_ledger.specs.Book.{calls_of}
use Rattle.fk_trace.specs.Decision.{FeedTurn, Answer, answer, recorded_by}
use Rattle.fk_trace.specs.Settled.{settlements}
use Rattle.fk_trace.specs.Attempts.{IsPollOf}
use Rattle.fk_trace.specs.Idle.{ends_after, is_idle}
use Rattle.fk_trace.proofs.Ledgers.{opens-append, seen-push_done, after-append}
use Rattle.fk_trace.proofs.Grants.{answer-for, dones-answer}
use Rattle.fk_trace.proofs.Settled.{past_after-append}
use Rattle.fk_trace.proofs.Lists.{Contains-head, Contains-tail, Contains-cases, Contains-filter, Contains-unmap}
use Rattle.fk_run.specs.Left.{is_attempt}
use Rattle.fk_run.specs.Place.{Place, behind, changed}
use Rattle.fk_run.specs.Turn.{TakenTurn, IsDueIdle, AttemptsEachDue}
use Rattle.fk_run.proofs.Ledgers.{live-one}
use Rattle.fk_run.specs.Ending.{WantsAtClose}
use Rattle.fk_host.specs.Count.{counted}
use Rattle.fk_log.specs.Line.{Line}
use Rattle.fk_log.specs.Line.Line.{SettledLine}
use Rattle.fk_log.specs.Log.{RefusalLine, input_lines, attempt_lines, turn_lines}
use Rattle.fk_log.specs.Log.RefusalLine.{Told, Untold}
use Rattle.fk_log.specs.Writing.{Logs}
use Rattle.fk_conf.specs.declared.conf.Conf.{Conf}
use Rattle.fk_cycle.specs.Stands.{Obligation, is_due}
use Rattle.fk_child.specs.Crew.{obligation_of, obligations_but}
use Rattle.fk_child.specs.View.{View, MakesCalls, Adds}
use Rattle.fk_child.specs.Calls.{IsNextClose, NoneIsDue, AttemptsInTurn}
use Rattle.fk_base.specs.declared.memory.NoMemory.{NoMemory as OutOfMemory}
use Rattle.fk_turn.specs.declared.policy.Policy.{Policy}
use Rattle.fk_turn.specs.declared.turn_err.TurnErr.{TurnErr}
use Rattle.fk_turn.specs.declared.turn_err.TurnErr.TheVariants.{Disk, NoMemory}
use Rattle.fk_turn.specs.Daemon.{Scene, DaemonStands, AtRest}
use Rattle.fk_turn.specs.Rules.{rules_by}
use Rattle.fk_turn.specs.Wanting.{IsWorthMemory}
use Rattle.fk_turn.specs.Serving.{calls_for, OwesItsLive, ServesWhole, ServesTurn, FailsAtDisk, WantsMemory}
use Rattle.fk_turn.specs.Parts.{beginning, BeginsTurn, settlement, SettlesWhole, FailsToSettle, answering, Answers, AnswersWhole, FailsToRecord, WantsToAnswer, closing_part, AttemptsCloses, Closes, Part, joined, reached, ServesPart}
use Rattle.fk_turn.proofs.Items.{Tries, Polls, polls-no_turns, polls-close_none, opened-tries, opened-close_none, polled-polls, all-joined, tried-after, tried-none, tries-no_turns, ends_after-append, polls-others, tries-attempts}
use Rattle.fk_turn.proofs.Places.{place-same, serves-join, next-stands, scene_next}
use Rattle.fk_turn.proofs.Making.{calls_of-append, ends-joined, ends-dones, recorded-ends, for-one}
use Rattle.fk_turn.proofs.Calls.{IsFirst, first-brought, first-then}
use Rattle.fk_turn.proofs.Lines.{taken_turn, lines-of, no_refusal-told, dones-part, opens-settled}
use Rattle.fk_turn.proofs.Finishing.{finishes, passing, next-joined, next-tries, turn-tries}
use Rattle.fk_child.proofs.Images.{adds-append, calls-then, calls-same}
use Rattle.fk_child.proofs.Turns.{attempts-each}
use Rattle.fk_log.proofs.Logged.{Logs-append}
use Rattle.fk_turn.proofs.Wholes.{GoesOn, goes-on, settled-ledger, settled_place, given, Begins, whole-turn, closes-place, cut-before, cut-among, planned-turn, settles-polled}

-- calls over a ledger that the calls before them have left as it was
pub adds-onto : (xs ys : List Item) (ledger b failing : List Change) (u v w : View) → (b ++ failing ≡ []) ⊎ AllByRecursion (λ item. is_attempt item.event ≡ false) xs
    → Adds xs ledger [] [] u v → v.faults ≡ u.faults → Adds ys ledger b failing v w → Adds (xs ++ ys) ledger b failing u w
adds-onto xs ys ledger b failing u v w order first same second =
    adds-append xs ys ledger [] b failing (record { attempts = order; others = inl refl }) u v w first same second

-- what is settled stays seen
seen-settled : (ledger : List Change) (ids : List ℕ) → seen (after ledger (map Done ids)) ≡ seen ledger
seen-settled ledger [] = refl
seen-settled ledger (id ∷ ids) = seen-settled (ledger ++ Done id ∷ []) ids ∙ seen-push_done ledger id

pub part-same : (a b : Part) → a.items ≡ b.items → a.changes ≡ b.changes → a.lines ≡ b.lines → a ≡ b
part-same a b i c l =
    let same : record { items = a.items; changes = a.changes; lines = a.lines } ≡ record { items = b.items; changes = b.changes; lines = b.lines } = cc in
    same

pub owes-live : (conf : Conf) (at : Scene) (place : Place) → DaemonStands conf at place → OwesItsLive at.daemon
owes-live conf at place h = h.stands.tied.owes ∙ ap Rattle.fk_ledger.specs.Book.live_ids (sym h.changes)

-- a child that is polled has its item
polled-item : (child : Child) (order : List Child) (items : List Item) → AllZip (λ c item. IsPollOf c item.event) order items → Contains order child
    → (item : Item) × Contains items item × IsPollOf child item.event
polled-item child [] items z m = absurd (let l = m.1 in omega arith)
polled-item child (c ∷ order) [] z m = absurd z
polled-item child (c ∷ order) (x ∷ items) z m =
    elim (Contains-cases c order child m) [
      | inl same ↦ (x, Contains-head x items, subst (λ (d : Child). IsPollOf d x.event) same z.0)
      | inr within ↦ let rest = polled-item child order items z.1 within in (rest.0, Contains-tail x items rest.0 rest.1, rest.2)
    ]

and-first : (a b : Bool) → a && b ≡ true → a ≡ true
and-first true b e = refl
and-first false b e = e

and-second : (a b : Bool) → a && b ≡ true → b ≡ true
and-second true b e = e
and-second false b e = absurd cc

not-false : (a : Bool) → not a ≡ true → a ≡ false
not-false true e = absurd cc
not-false false e = refl

-- a close that is due next is due, idle and was not tried since the turn began
module _ (moment : ℕ) (place : Place) (closing : OpenRecord) (l : IsLedger place.ledger) (next : IsNextClose moment place closing) where
  abbrev pub owed : Obligation
  owed = next.next.0

  pub next-owed : obligation_of closing ≡ owed
  next-owed =
      let test : OpenRecord → Bool = λ item. not (list_any (λ (id : ℕ). id == item.id) []) in
      let found = Contains-unmap obligation_of (filter test (live place.ledger)) owed next.next.1 in
      let same : found.0 ≡ closing =
      live-one place.ledger l found.0 closing (Contains-filter test (live place.ledger) found.0 found.1) next.lives
      (ap (λ (o : Obligation). o.id) found.2 ∙ next.next.2) in
      ap obligation_of (sym same) ∙ found.2

  is-due : is_due place.past place.ends moment (obligation_of closing) ≡ true
  is-due = ap (is_due place.past place.ends moment) next-owed ∙ next.next.3

  next-idle : is_idle place.past place.ends moment closing.id && nat_le closing.due moment ≡ true
  next-idle = and-first (is_idle place.past place.ends moment closing.id && nat_le closing.due moment) (not (close_tried place.past closing.id)) is-due

  next-due : closing.due ≤ moment
  next-due = leb-true closing.due moment (and-second (is_idle place.past place.ends moment closing.id) (nat_le closing.due moment) next-idle)

  pub next-untried : close_tried place.past closing.id ≡ false
  next-untried = not-false (close_tried place.past closing.id) (and-second (is_idle place.past place.ends moment closing.id && nat_le closing.due moment) (not (close_tried place.past closing.id)) is-due)

  next-due_idle : IsDueIdle place moment closing
  next-due_idle = record { lives = next.lives; due = next-due; idle = and-first (is_idle place.past place.ends moment closing.id) (nat_le closing.due moment) next-idle }

module _ (policy : Policy) (place : Place) (turn : FeedTurn) (s0 s1 : Scene) (b : BeginsTurn policy.conf.now turn.moment place s0 s1) where
  abbrev conf : Conf
  conf = policy.conf.now

  abbrev ids : List ℕ
  ids = s1.daemon.crew.unsettled

  -- the place behind the polls
  abbrev pub polled_place : Place
  polled_place = behind turn.moment place (b.start ∷ b.polled)

  abbrev part1 : Part
  part1 = beginning turn.moment place b.start b.polled

  polled-reached : polled_place ≡ reached turn.moment place part1
  polled-reached = place-same polled_place (reached turn.moment place part1) refl refl refl refl

  pub begun-stands : DaemonStands conf s1 polled_place
  begun-stands = subst (DaemonStands conf s1) (sym polled-reached) b.serves.stands

  begins : Begins (rules_by policy) place turn b.start b.polled ids
  begins = record { begins = b.begins; polls = b.polls; settled = b.unsettled }

  -- the place behind the settlements
  abbrev pub answer_place : Place
  answer_place = settled_place (rules_by policy) place turn b.start b.polled ids

  abbrev answer_given : Answer
  answer_given = given (rules_by policy) place turn b.start b.polled ids

  -- what is recorded settles nothing
  dones-given : dones (recorded_by answer_given) ≡ []
  dones-given = dones-answer (rules_by policy) answer_place.ledger turn answer_given refl

  -- the turn began with the first call
  first1 : IsFirst b.start s0.host s1.host
  first1 = first-brought b.start b.polled (calls_for (b.start ∷ b.polled) place.ledger []) s0.host s1.host (omega arith) b.serves.adds.trace b.calls

  polls : AllByRecursion Polls b.polled
  polls = polled-polls b.polls.order b.polled b.polls.answered

  -- what begins a turn attempts nothing
  others : AllByRecursion (λ item. is_attempt item.event ≡ false) (b.start ∷ b.polled)
  others = (ap is_attempt b.begins, polls-others b.polled polls)

  untried : (id : ℕ) → close_tried polled_place.past id ≡ false
  untried id =
      tried-after id b.polled (b.start ∷ place.past) (polls-no_turns b.polled polls)
      ∙ ap (λ (x : Bool). x || close_tried (b.start ∷ place.past) id) (polls-close_none id b.polled polls)
      ∙ ap (λ (event : Event). cond (is_turn event) false (is_close_attempt_of id event || close_tried place.past id)) b.begins

  goes : GoesOn (rules_by policy) answer_place turn
  goes =
      goes-on (rules_by policy) answer_place turn untried
      (settled-ledger ids place.ledger begun-stands.stands.keeps.follow begun-stands.stands.tied.waits begun-stands.stands.tied.once)

  -- the lines of a turn that is cut before its attempts
  cut-lines : (refusal : RefusalLine) (made : List ℕ) (more changes : List Change) → changes ≡ map Done made ++ more → Rattle.fk_trace.specs.Ledger.dones more ≡ []
      → turn_lines (rules_by policy) place refusal (record { turn = turn; items = b.start ∷ b.polled; changes = changes })
      ≡ (part1.lines ++ map (SettledLine turn.moment) made) ++ input_lines turn.moment turn.input refusal more (answer (rules_by policy) (after place.ledger (map Done made)) turn)
  cut-lines refusal made more changes same none =
      let polled : List Item = b.polled in
      let items : b.start ∷ polled ≡ b.start ∷ (polled ++ []) ++ [] = ap (λ (xs : List Item). b.start ∷ xs) (sym (append-nil (polled ++ []) ∙ append-nil polled)) in
      ap (λ (xs : List Item). turn_lines (rules_by policy) place refusal (record { turn = turn; items = xs; changes = changes })) items
      ∙ ap (λ (cs : List Change). turn_lines (rules_by policy) place refusal (record { turn = turn; items = b.start ∷ (polled ++ []) ++ []; changes = cs })) same
      ∙ lines-of (rules_by policy) place refusal turn b.start polled [] [] made more b.begins polls tt tt none
      ∙ append-nil _

  -- the disk failed while a record was settled
  pub fails-settling : (s2 : Scene) → FailsToSettle turn.moment polled_place s1 s2 → FailsAtDisk policy place turn s0 s2
  fails-settling s2 f =
      let unmade : List Change = (Done f.failed ∷ map Done f.later) ++ recorded_by answer_given in
      let all : map Done f.made ++ unmade ≡ map Done ids ++ recorded_by answer_given =
      sym (append_assoc (map Done f.made) (Done f.failed ∷ map Done f.later) (recorded_by answer_given))
      ∙ ap (λ (cs : List Change). cs ++ recorded_by answer_given) (sym (map-append Done f.made (f.failed ∷ f.later)) ∙ ap (map Done) (sym f.order)) in
      let taken : TakenTurn = record { turn = turn; items = b.start ∷ b.polled; changes = map Done f.made } in
      record {
        taken = taken;
        of_turn = refl;
        cut = cut-before (rules_by policy) place turn b.start b.polled ids begins goes (map Done f.made) unmade all;
        meant = cut-before (rules_by policy) place turn b.start b.polled ids begins goes (map Done f.made ++ Done f.failed ∷ []) (map Done f.later ++ recorded_by answer_given)
            (append_assoc (map Done f.made) (Done f.failed ∷ []) (map Done f.later ++ recorded_by answer_given) ∙ all);
        whole = ends-dones f.made;
        failing = Done f.failed ∷ [];
        one = refl;
        later = map Done f.later ++ recorded_by answer_given;
        planned = append_assoc (map Done f.made) (Done f.failed ∷ []) (map Done f.later ++ recorded_by answer_given) ∙ all ∙ sym (planned-turn (rules_by policy) place turn b.start b.polled ids begins [] taken tt refl (ap (λ (xs : List Item). b.start ∷ xs) (sym (append-nil b.polled))));
        numbered = begun-stands.stands.tied.stands.orderly.numbered;
        adds = subst (λ (xs : List Item). Adds xs place.ledger (map Done f.made) (Done f.failed ∷ []) s0.host s2.host) (append-nil (b.start ∷ b.polled))
            (adds-onto (b.start ∷ b.polled) [] place.ledger (map Done f.made) (Done f.failed ∷ []) s0.host s1.host s2.host (inr others) b.serves.adds b.serves.disk f.adds);
        disk = f.disk ∙ ap counted b.serves.disk;
        logs = subst (λ (xs : List Line). Logs xs s0.output s2.output)
            (sym (cut-lines Untold f.made [] (map Done f.made) (sym (append-nil (map Done f.made))) refl
            ∙ ap (λ (xs : List Line). (part1.lines ++ map (SettledLine turn.moment) f.made) ++ xs) (no_refusal-told turn.moment turn.input (answer (rules_by policy) (after place.ledger (map Done f.made)) turn))
            ∙ append-nil (part1.lines ++ map (SettledLine turn.moment) f.made)))
            (Logs-append part1.lines (map (SettledLine turn.moment) f.made) s0.output s1.output s2.output b.serves.logs f.logs);
        book = f.book;
        parks = f.parks;
      }

  module _ (s2 : Scene) (settles : SettlesWhole conf turn.moment polled_place s1 s2) where
    abbrev part2 : Part
    part2 = joined part1 (settlement turn.moment ids)

    -- behind the settlements
    pub settled-stands : AtRest conf s2 answer_place
    settled-stands = record { stands = settles.serves.stands; settled = settles.settled }

    serves2 : ServesPart conf turn.moment place part2 s0 s2
    serves2 = serves-join conf turn.moment place part1 (settlement turn.moment ids) s0 s1 s2 (record { attempts = inr others; others = inl refl }) b.serves
        (subst (λ (at : Place). ServesPart conf turn.moment at (settlement turn.moment ids) s1 s2) polled-reached settles.serves)

    -- the same with plain items
    abbrev plain2 : Part
    plain2 = record { items = b.start ∷ b.polled; changes = map Done ids; lines = part1.lines ++ map (SettledLine turn.moment) ids }

    plainly2 : ServesPart conf turn.moment place plain2 s0 s2
    plainly2 = subst (λ (part : Part). ServesPart conf turn.moment place part s0 s2) (part-same part2 plain2 (append-nil (b.start ∷ b.polled)) refl refl) serves2

    calls2 : MakesCalls (calls_for (b.start ∷ b.polled) place.ledger (map Done ids)) s0.host s2.host
    calls2 = calls-same (calls_for (b.start ∷ b.polled) place.ledger [] + calls_for [] place.ledger (map Done ids)) (calls_for (b.start ∷ b.polled) place.ledger (map Done ids)) s0.host s2.host (omega arith)
        (calls-then (calls_for (b.start ∷ b.polled) place.ledger []) (calls_for [] place.ledger (map Done ids)) s0.host s1.host s2.host b.calls settles.calls)

    first2 : IsFirst b.start s0.host s2.host
    first2 = first-then b.start (calls_for [] place.ledger (map Done ids)) s0.host s1.host s2.host first1 settles.calls

    -- the disk failed while the record was made
    pub fails-recording : (s3 : Scene) → FailsToRecord policy answer_place turn s2 s3 → FailsAtDisk policy place turn s0 s3
    fails-recording s3 f =
        let made : recorded_by answer_given ≡ f.making = ap recorded_by f.given in
        let taken : TakenTurn = record { turn = turn; items = b.start ∷ b.polled; changes = map Done ids } in
        let lines : turn_lines (rules_by policy) place Untold taken ≡ plain2.lines =
        cut-lines Untold ids [] (map Done ids) (sym (append-nil (map Done ids))) refl
        ∙ ap (λ (xs : List Line). plain2.lines ++ xs) (no_refusal-told turn.moment turn.input answer_given)
        ∙ append-nil plain2.lines in
        record {
          taken = taken;
          of_turn = refl;
          cut = cut-before (rules_by policy) place turn b.start b.polled ids begins goes (map Done ids) (recorded_by answer_given) refl;
          meant = cut-before (rules_by policy) place turn b.start b.polled ids begins goes (map Done ids ++ f.making) []
              (append-nil (map Done ids ++ f.making) ∙ ap (λ (cs : List Change). map Done ids ++ cs) (sym made));
          whole = ends-dones ids;
          failing = f.making;
          one = for-one (rules_by policy).room turn.moment answer_place.ledger f.item f.making (answer-for (rules_by policy) answer_place.ledger turn f.item f.permit f.making f.given);
          later = [];
          planned = append-nil (map Done ids ++ f.making) ∙ ap (λ (cs : List Change). map Done ids ++ cs) (sym made)
              ∙ sym (planned-turn (rules_by policy) place turn b.start b.polled ids begins [] taken tt refl (ap (λ (xs : List Item). b.start ∷ xs) (sym (append-nil b.polled))));
          numbered = begun-stands.stands.tied.stands.orderly.numbered;
          adds = subst (λ (xs : List Item). Adds xs place.ledger (map Done ids) f.making s0.host s3.host) (append-nil (b.start ∷ b.polled))
              (subst (λ (cs : List Change). Adds ((b.start ∷ b.polled) ++ []) place.ledger cs f.making s0.host s3.host) (append-nil (map Done ids))
              (adds-append (b.start ∷ b.polled) [] place.ledger (map Done ids) [] f.making (record { attempts = inr others; others = inr tt }) s0.host s2.host s3.host plainly2.adds plainly2.disk f.adds));
          disk = f.disk ∙ ap counted plainly2.disk;
          logs = subst (λ (xs : List Line). Logs xs s0.output s3.output) (append-nil plain2.lines ∙ sym lines)
              (Logs-append plain2.lines [] s0.output s2.output s3.output plainly2.logs f.logs);
          book = f.book;
          parks = f.parks;
        }

    -- memory was wanting for the datagram
    pub wants-answering : (s3 : Scene) → WantsToAnswer policy answer_place turn s2 s3 → WantsMemory policy place turn s0 s3
    wants-answering s3 w =
        let made : List Change = map Done ids ++ w.changes in
        let front : (unmade : List Change) × (made ++ unmade ≡ map Done ids ++ recorded_by answer_given) =
        elim w.front [
          | inl e ↦ (
            recorded_by answer_given,
            append_assoc (map Done ids) w.changes (recorded_by answer_given)
                ∙ ap (λ (cs : List Change). map Done ids ++ (cs ++ recorded_by answer_given)) e.0,
          )
          | inr e ↦ ([], append-nil made ∙ ap (λ (cs : List Change). map Done ids ++ cs) e.0)
        ] in
        let none : dones w.changes ≡ [] = elim w.front [ inl e ↦ ap dones e.0 | inr e ↦ ap dones e.0 ∙ dones-given ] in
        let total : calls_of place.ledger made ≡ calls_of place.ledger (map Done ids) + calls_of answer_place.ledger w.changes = calls_of-append place.ledger (map Done ids) w.changes in
        let few_ends : ends_with_floor w.changes ≡ false =
        elim w.front [ inl e ↦ ap ends_with_floor e.0 | inr e ↦ ap ends_with_floor e.0 ∙ recorded-ends (rules_by policy) answer_place.ledger turn answer_given refl ] in
        let lines : List Line = input_lines turn.moment turn.input Untold w.changes answer_given in
        let worth : IsWorthMemory policy place (record { turn = turn; items = b.start ∷ b.polled; changes = made }) = record {
          datagram = record {
            source = w.source;
            datagram = w.datagram;
            brought = w.brought;
            formed = w.formed;
            fresh = λ m. w.fresh (subst (λ (keys : List Key). Contains (map (λ key. key.digest) keys) ((rules_by policy).digest w.datagram)) (sym (seen-settled place.ledger ids)) m);
          };
          code = (w.source, w.datagram, w.brought, w.code);
        } in
        record {
          taken = record { turn = turn; items = b.start ∷ b.polled; changes = made };
          of_turn = refl;
          cut = cut-before (rules_by policy) place turn b.start b.polled ids begins goes made front.0 front.1;
          wants = elim w.front [
            | inl e ↦ inl (record {
              cause = worth;
              unrecorded = ap (λ (cs : List Change). opens (map Done ids ++ cs)) e.0 ∙ ap opens (append-nil (map Done ids)) ∙ opens-settled ids;
              calls = calls-same (calls_for (b.start ∷ b.polled) place.ledger (map Done ids) + 0) (calls_for (b.start ∷ b.polled) place.ledger made + 0) s0.host s3.host (let few = ap (calls_of answer_place.ledger) e.0 in omega (arith, total, few))
                  (calls-then (calls_for (b.start ∷ b.polled) place.ledger (map Done ids)) 0 s0.host s2.host s3.host calls2 e.1);
            })
            | inr e ↦ inr (record {
              cause = inl (worth, λ none. e.1 (sym (opens-append (map Done ids) w.changes ∙ ap (λ (xs : List OpenRecord). xs ++ opens w.changes) (opens-settled ids)) ∙ none));
              calls = calls-same (calls_for (b.start ∷ b.polled) place.ledger (map Done ids) + (calls_for [] answer_place.ledger w.changes + 1)) (calls_for (b.start ∷ b.polled) place.ledger made + 1) s0.host s3.host (omega (arith, total))
                  (calls-then (calls_for (b.start ∷ b.polled) place.ledger (map Done ids)) (calls_for [] answer_place.ledger w.changes + 1) s0.host s2.host s3.host calls2 e.2);
            })
          ];
          whole = ends-joined (map Done ids) w.changes (ends-dones ids) few_ends;
          settled = ap (map Done) (dones-part ids w.changes none)
              ∙ sym (ap (λ (xs : List Item). settlements place.past (b.start ∷ xs)) (sym (append-nil b.polled)) ∙ settles-polled (rules_by policy) place turn b.start b.polled ids begins [] tt);
          begun = elim w.front [
            | inl e ↦ first-then b.start 0 s0.host s2.host s3.host first2 e.1
            | inr e ↦ first-then b.start (calls_for [] answer_place.ledger w.changes + 1) s0.host s2.host s3.host first2 e.2
          ];
          numbered = begun-stands.stands.tied.stands.orderly.numbered;
          adds = subst (λ (xs : List Item). Adds xs place.ledger made [] s0.host s3.host) (append-nil (b.start ∷ b.polled))
              (adds-append (b.start ∷ b.polled) [] place.ledger (map Done ids) w.changes [] (record { attempts = inr others; others = inr tt }) s0.host s2.host s3.host plainly2.adds plainly2.disk w.adds);
          disk = w.disk ∙ plainly2.disk;
          told = Untold;
          may = inr (λ id. ap (λ (event : Event). is_close_attempt_of id event || close_attempted b.polled id) b.begins ∙ polls-close_none id b.polled polls);
          logs = subst (λ (xs : List Line). Logs xs s0.output s3.output) (sym (cut-lines Untold ids w.changes made refl none))
              (Logs-append plain2.lines lines s0.output s2.output s3.output plainly2.logs w.logs);
          book = w.book ∙ sym (after-append place.ledger (map Done ids) w.changes);
          parks = w.parks;
        }

    module _ (s3 : Scene) (a : AnswersWhole policy answer_place turn s2 s3) where
      -- the place behind the answer
      abbrev pub close_place : Place
      close_place = changed (behind turn.moment answer_place a.opened) (recorded_by answer_given)

      pub answered-stands : AtRest conf s3 close_place
      answered-stands = record { stands = a.serves.stands; settled = a.settled }

      tries : AllByRecursion Tries a.opened
      tries = opened-tries answer_given a.opened a.attempts

      untried-closes : (id : ℕ) → close_tried close_place.past id ≡ false
      untried-closes id =
          tried-after id a.opened answer_place.past (tries-no_turns a.opened tries)
          ∙ ap (λ (x : Bool). x || close_tried answer_place.past id) (opened-close_none id answer_given a.opened a.attempts)
          ∙ untried id

      each-due : (items : List Item) → AttemptsInTurn turn.moment close_place items → AttemptsEachDue close_place turn.moment items
      each-due items attempts = attempts-each turn.moment close_place items a.serves.stands.stands.keeps.follow untried-closes attempts

      abbrev plain3 : Part
      plain3 = joined plain2 (answering turn answer_given a.opened)

      serves3 : ServesPart conf turn.moment place plain3 s0 s3
      serves3 = serves-join conf turn.moment place plain2 (answering turn answer_given a.opened) s0 s2 s3
          (record { attempts = inr others; others = inr (tries-attempts a.opened tries) }) plainly2 a.serves

      calls3 : MakesCalls (calls_for (b.start ∷ b.polled ++ a.opened) place.ledger (map Done ids ++ recorded_by answer_given)) s0.host s3.host
      calls3 =
          calls-same (calls_for (b.start ∷ b.polled) place.ledger (map Done ids) + calls_for a.opened answer_place.ledger (recorded_by answer_given)) (calls_for (b.start ∷ b.polled ++ a.opened) place.ledger (map Done ids ++ recorded_by answer_given)) s0.host s3.host
          (let items = length-append b.polled a.opened in let changes = calls_of-append place.ledger (map Done ids) (recorded_by answer_given) in omega (arith, items, changes))
          (calls-then (calls_for (b.start ∷ b.polled) place.ledger (map Done ids)) (calls_for a.opened answer_place.ledger (recorded_by answer_given)) s0.host s2.host s3.host calls2 a.calls)

      module _ (further : ℕ) (s4 : Scene) (done : AttemptsCloses further conf turn.moment close_place s3 s4) where
        abbrev taken : TakenTurn
        taken = taken_turn (rules_by policy) place Told turn b.start b.polled a.opened done.closed ids (recorded_by answer_given)

        abbrev plain4 : Part
        plain4 = record { items = taken.items; changes = taken.changes; lines = turn_lines (rules_by policy) place Told taken }

        closed-tries : AllByRecursion Tries done.closed
        closed-tries = next-tries turn.moment close_place done.closed done.attempts

        plain-lines : plain3.lines ++ attempt_lines turn.moment done.closed ≡ turn_lines (rules_by policy) place Told taken
        plain-lines =
            let input : List Line = input_lines turn.moment turn.input Told (recorded_by answer_given) answer_given in
            ap (λ (xs : List Line). xs ++ attempt_lines turn.moment done.closed) (sym (append_assoc plain2.lines input (attempt_lines turn.moment a.opened)))
            ∙ append_assoc (plain2.lines ++ input) (attempt_lines turn.moment a.opened) (attempt_lines turn.moment done.closed)
            ∙ sym (lines-of (rules_by policy) place Told turn b.start b.polled a.opened done.closed ids (recorded_by answer_given) b.begins polls tries closed-tries (dones-given))

        serves4 : ServesPart conf turn.moment place plain4 s0 s4
        serves4 =
            subst (λ (part : Part). ServesPart conf turn.moment place part s0 s4)
            (part-same (joined plain3 (closing_part turn.moment done.closed)) plain4 refl (append-nil taken.changes) plain-lines)
            (serves-join conf turn.moment place plain3 (closing_part turn.moment done.closed) s0 s3 s4 (record { attempts = inl refl; others = inr (tries-attempts done.closed closed-tries) }) serves3
            (subst (λ (at : Place). ServesPart conf turn.moment at (closing_part turn.moment done.closed) s3 s4)
            (closes-place (rules_by policy) place turn b.start b.polled ids a.opened) done.serves))

        calls4 : MakesCalls (calls_for taken.items place.ledger taken.changes + further) s0.host s4.host
        calls4 =
            calls-same (calls_for (b.start ∷ b.polled ++ a.opened) place.ledger taken.changes + (length done.closed + further)) (calls_for taken.items place.ledger taken.changes + further) s0.host s4.host
            (let items = length-append (b.polled ++ a.opened) done.closed in omega (arith, items))
            (calls-then (calls_for (b.start ∷ b.polled ++ a.opened) place.ledger taken.changes) (length done.closed + further) s0.host s3.host s4.host calls3 done.calls)

        -- all was served
        pub serves-whole : further ≡ 0 → NoneIsDue turn.moment (behind turn.moment close_place done.closed) → ServesWhole policy place turn s0 (scene_next s4)
        serves-whole zero none =
            let attempts : AttemptsInTurn turn.moment close_place done.closed =
            subst (AttemptsInTurn turn.moment close_place) (append-nil done.closed) (next-joined turn.moment close_place done.closed [] done.attempts none) in
            record {
              taken = taken;
              of_turn = refl;
              whole = whole-turn (rules_by policy) place turn b.start b.polled ids begins a.opened done.closed taken refl a.attempts (each-due done.closed attempts) refl refl;
              calls = calls-same (calls_for taken.items place.ledger taken.changes + further) (calls_for taken.items place.ledger taken.changes) s0.host s4.host (omega (arith, zero)) calls4;
              adds = serves4.adds;
              disk = serves4.disk;
              logs = serves4.logs;
              rests = record { stands = next-stands conf s4 (reached turn.moment place plain4) serves4.stands; settled = done.settled };
            }

        -- the place behind the closes
        abbrev behind_closes : Place
        behind_closes = behind turn.moment close_place done.closed

        abbrev end_place : Place
        end_place = reached turn.moment place plain4

        end-same : behind_closes ≡ end_place
        end-same =
            let past : List Item = b.start ∷ place.past in
            let ends : List ℕ = ends_after turn.moment place.ends (b.start ∷ []) in
            place-same behind_closes end_place
            (sym (past_after-append past (b.polled ++ a.opened) done.closed ∙ ap (λ (p : List Item). past_after p done.closed) (past_after-append past b.polled a.opened)))
            (sym (ends_after-append turn.moment ends (b.polled ++ a.opened) done.closed ∙ ap (λ (e : List ℕ). ends_after turn.moment e done.closed) (ends_after-append turn.moment ends b.polled a.opened)))
            (sym (after-append place.ledger (map Done ids) (recorded_by answer_given))) refl

        others-no_turns : AllByRecursion (λ item. is_turn item.event ≡ false) ((b.polled ++ a.opened) ++ done.closed)
        others-no_turns =
            all-joined (λ item. is_turn item.event ≡ false) (b.polled ++ a.opened) done.closed
            (all-joined (λ item. is_turn item.event ≡ false) b.polled a.opened (polls-no_turns b.polled polls) (tries-no_turns a.opened tries))
            (tries-no_turns done.closed closed-tries)

        close-wanted : (closing : OpenRecord) → IsNextClose turn.moment behind_closes closing → WantsAtClose (rules_by policy) place taken
        close-wanted closing next =
            let at : IsNextClose turn.moment end_place closing = subst (λ (p : Place). IsNextClose turn.moment p closing) end-same next in
            let l : IsLedger end_place.ledger = serves4.stands.stands.keeps.follow in
            let owed : IsDueIdle end_place turn.moment closing = next-due_idle turn.moment end_place closing l at in
            let others : List Item = (b.polled ++ a.opened) ++ done.closed in
            record {
              polled = λ child m.
                  let runs : running (b.start ∷ place.past) ≡ running place.past =
                  ap (λ (event : Event). still_running event (running place.past) ++ begun_by event) b.begins ∙ append-nil (running place.past) in
                  let ordered : Contains b.polls.order child = (b.polls.each child).1 (subst (λ (cs : List Child). Contains cs child) (sym runs) m) in
                  let found = polled-item child b.polls.order b.polled b.polls.answered ordered in
                  (found.0, Contains-tail b.start others found.0 (Contains-append_left (b.polled ++ a.opened) done.closed found.0 (Contains-append_left b.polled a.opened found.0 found.1)), found.2);
              made = sym (planned-turn (rules_by policy) place turn b.start b.polled ids begins (a.opened ++ done.closed) taken
                  (all-joined Tries a.opened done.closed tries closed-tries) refl (ap (λ (xs : List Item). b.start ∷ xs) (append_assoc b.polled a.opened done.closed)));
              item = closing;
              owed = record { lives = owed.lives; due = owed.due; idle = owed.idle };
              untried =
                  ap (λ (event : Event). is_close_attempt_of closing.id event || close_attempted others closing.id) b.begins
                  ∙ tried-none closing.id others (b.start ∷ place.past) others-no_turns (next-untried turn.moment end_place closing l at);
            }

        -- memory was wanting for a close
        pub wants-closing : further ≡ 1 → (closing : OpenRecord) × IsNextClose turn.moment behind_closes closing → WantsMemory policy place turn s0 s4
        wants-closing one next =
            let rest = finishes (passing (is_due behind_closes.past behind_closes.ends turn.moment) (obligations_but [] behind_closes.ledger)) turn.moment behind_closes (omega arith) in
            record {
              taken = taken;
              of_turn = refl;
              cut = cut-among (rules_by policy) place turn b.start b.polled ids begins a.opened done.closed rest.0 a.attempts (turn-tries turn.moment behind_closes rest.0 rest.1)
                  (each-due (done.closed ++ rest.0) (next-joined turn.moment close_place done.closed rest.0 done.attempts rest.1));
              wants = inr (record {
                cause = inr (close-wanted next.0 next.1);
                calls = calls-same (calls_for taken.items place.ledger taken.changes + further) (calls_for taken.items place.ledger taken.changes + 1) s0.host s4.host (omega (arith, one)) calls4;
              });
              whole = ends-joined (map Done ids) (recorded_by answer_given) (ends-dones ids) (recorded-ends (rules_by policy) answer_place.ledger turn answer_given refl);
              settled = ap (map Done) (dones-part ids (recorded_by answer_given) (dones-given))
                  ∙ sym (ap (λ (xs : List Item). settlements place.past (b.start ∷ xs)) (append_assoc b.polled a.opened done.closed)
                  ∙ settles-polled (rules_by policy) place turn b.start b.polled ids begins (a.opened ++ done.closed) (all-joined Tries a.opened done.closed tries closed-tries));
              begun = first-then b.start (length done.closed + further) s0.host s3.host s4.host
                  (first-then b.start (calls_for a.opened answer_place.ledger (recorded_by answer_given)) s0.host s2.host s3.host first2 a.calls) done.calls;
              numbered = serves4.stands.stands.tied.stands.orderly.numbered;
              adds = serves4.adds;
              disk = serves4.disk;
              told = Told;
              may = inl refl;
              logs = serves4.logs;
              book = serves4.stands.changes;
              parks = owes-live conf s4 end_place serves4.stands;
            }

module _ {T : Type 0} (policy : Policy) (place : Place) (turn : FeedTurn) (s0 s1 : Scene) (b : BeginsTurn policy.conf.now turn.moment place s0 s1)
    (s2 : Scene) (settles : SettlesWhole policy.conf.now turn.moment (polled_place policy place turn s0 s1 b) s1 s2) where
  -- an answer cut the turn
  pub cut-at-answer : (s3 : Scene) (e : TurnErr) (r : Result T TurnErr) → IsErrAnd r (λ x. x ≡ e) → Answers {T = T} policy (answer_place policy place turn s0 s1 b) turn s2 s3 (Err e)
      → ServesTurn policy place turn s0 s3 r
  cut-at-answer s3 Disk r is a = at_disk r is
    where
      at_disk : (r : Result T TurnErr) → IsErrAnd r (λ x. x ≡ Disk) → ServesTurn policy place turn s0 s3 r
      at_disk (Ok x) h = absurd h
      at_disk (Err e) h = subst (λ (x : TurnErr). ServesTurn {T = T} policy place turn s0 s3 (Err x)) (sym h) (fails-recording policy place turn s0 s1 b s2 settles s3 a)
  cut-at-answer s3 NoMemory r is a = short r is
    where
      short : (r : Result T TurnErr) → IsErrAnd r (λ x. x ≡ NoMemory) → ServesTurn policy place turn s0 s3 r
      short (Ok x) h = absurd h
      short (Err e) h = subst (λ (x : TurnErr). ServesTurn {T = T} policy place turn s0 s3 (Err x)) (sym h) (wants-answering policy place turn s0 s1 b s2 settles s3 a)

  -- want of memory for a close cut it
  pub cut-at-close : (s3 : Scene) (a : AnswersWhole policy (answer_place policy place turn s0 s1 b) turn s2 s3) (s4 : Scene) (x : OutOfMemory) (r : Result T TurnErr) → IsErrAnd r (λ e. e ≡ NoMemory)
      → Closes {T = T} policy.conf.now turn.moment (close_place policy place turn s0 s1 b s2 settles s3 a) s3 s4 (Err x) → ServesTurn policy place turn s0 s4 r
  cut-at-close s3 a s4 x (Ok y) h closes = absurd h
  cut-at-close s3 a s4 x (Err e) h closes =
      subst (λ (y : TurnErr). ServesTurn {T = T} policy place turn s0 s4 (Err y)) (sym h) (wants-closing policy place turn s0 s1 b s2 settles s3 a 1 s4 closes.0 refl closes.1)
