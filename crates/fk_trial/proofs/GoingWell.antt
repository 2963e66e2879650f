-- Where nothing is scripted a whole turn goes well: its starts begin children with the next numbers, and its polls find that each child
-- has ended well.
use Rattle.std.proofs.Common.{◌≡◌, ℕ, zero, suc, ◌+◌, Bool, true, false, IsTrue, List, [], ◌∷◌, ◌++◌, length, map, Some, Result, Ok, Err, refl, sym, ap, ◌∙◌, subst, append-nil, arith}
use Rattle.std.specs.List.{AllZip, AllByRecursion, range_with_len}
use Rattle.std.proofs.lemmas.List.{map-append}
use Rattle.fk_base.specs.declared.purpose.Purpose.{Purpose}
use Rattle.fk_base.specs.declared.purpose.Purpose.TheVariants.{Open, Close}
use Rattle.fk_trace.specs.declared.change.OpenRecord.{OpenRecord}
use Rattle.fk_trace.specs.Trace.{Event, Item, Child, begun_by, past_after}
use Rattle.fk_trace.specs.Trace.{children as children_of}
use Rattle.fk_trace.specs.Trace.Event.{Turn, Began, StartFailed, Ended, Runs, PollFailed}
use Rattle.fk_trace.specs.Attempts.{IsPollOf, IsAttempt, AttemptsThatOpen}
use Rattle.fk_trace.specs.Decision.{Answer, Rules}
use Rattle.fk_trace.specs.Decision.Answer.{Nothing, Refuses, Opens}
use Rattle.fk_trace.proofs.Splits.{second_of_zip}
use Rattle.fk_run.specs.Place.{Place}
use Rattle.fk_run.specs.Turn.{TakenTurn, WholeTurn}
use Rattle.fk_host.specs.declared.host.ChildId.{ChildId}
use Rattle.fk_host.specs.declared.host.StartErr.{StartErr}
use Rattle.fk_host.specs.Host.{is_running}
use Rattle.fk_memory.specs.Children.{Children, above_children, start_answer, poll_answer, children_after, IsUnscripted, BeganEarlier}
use Rattle.fk_trial.specs.Replay.{no_children, children_behind, IsAnswer, AreAnswers}
use Rattle.fk_trial.specs.Trace.{GoesWell, child_numbers, IsTrialTrace}

abbrev pub Well : List Item → Type 0
Well items = AllByRecursion (λ item. GoesWell item.event) items

pub all-append : {T : Type 0} (P : T → Type 0) (xs ys : List T) → AllByRecursion P xs → AllByRecursion P ys → AllByRecursion P (xs ++ ys)
all-append P [] ys first second = second
all-append P (x ∷ xs) ys first second = (first.0, all-append P xs ys first.1 second)

behind-append : (children : Children) (xs ys : List Item) → children_behind children (xs ++ ys) ≡ children_behind (children_behind children xs) ys
behind-append children [] ys = refl
behind-append children (x ∷ xs) ys = behind-append (children_after x.event children) xs ys

-- the answers of items that stand behind others
answers-behind : (children : Children) (xs ys : List Item) → AreAnswers children (xs ++ ys) → AreAnswers (children_behind children xs) ys
answers-behind children [] ys answers = answers
answers-behind children (x ∷ xs) ys answers = answers-behind (children_after x.event children) xs ys answers.1

answers-front : (children : Children) (xs ys : List Item) → AreAnswers children (xs ++ ys) → AreAnswers children xs
answers-front children [] ys answers = tt
answers-front children (x ∷ xs) ys answers = (answers.0, answers-front (children_after x.event children) xs ys answers.1)

-- the number of the child that begins
abbrev number_in : Result ChildId StartErr → ℕ
number_in (Ok child) = child.0
number_in (Err error) = 0

-- what is known of a host in memory of which nothing is scripted
pub record Law : Type 0 where
  pub starts : (children : Children) → IsUnscripted children → start_answer false children ≡ Ok (record { 0 = children.begun + 1 })
  pub polls : (children : Children) (number : ℕ) → IsUnscripted children → BeganEarlier children → IsTrue (is_running number (above_children children))
      → poll_answer false number children ≡ Ok (Some true)
  pub stays : (event : Event) (children : Children) → IsUnscripted children → IsUnscripted (children_after event children)
  pub turns : (number : ℕ) (children : Children) → IsUnscripted children → BeganEarlier (children_after (Turn number) children)
  pub ends : (number : ℕ) (good : Bool) (children : Children) → BeganEarlier children → BeganEarlier (children_after (Ended number good) children)

module _ (law : Law) where
  unscripted-behind : (children : Children) (items : List Item) → IsUnscripted children → IsUnscripted (children_behind children items)
  unscripted-behind children [] plain = plain
  unscripted-behind children (item ∷ items) plain = unscripted-behind (children_after item.event children) items (law.stays item.event children plain)

  -- a new host
  unscripted-none : IsUnscripted no_children
  unscripted-none = record { scripts = refl; failing = refl; running = tt }

  -- the poll of a child that runs since an earlier turn finds that it has ended well
  poll-well : (event : Event) (child : Child) (children : Children) → IsUnscripted children → BeganEarlier children → IsPollOf child event → IsAnswer children event
      → GoesWell event × BeganEarlier (children_after event children)
  poll-well (Turn number) child children plain earlier is answer = absurd is
  poll-well (Began number purpose words) child children plain earlier is answer = absurd is
  poll-well (StartFailed purpose words) child children plain earlier is answer = absurd is
  poll-well (Ended number good) child children plain earlier is answer =
      let found = law.polls children number plain earlier answer.0 in
      let said = answer.1 in
      let same : good ≡ true = cc in
      (subst IsTrue (sym same) refl, law.ends number good children earlier)
  poll-well (Runs number) child children plain earlier is answer =
      let found = law.polls children number plain earlier answer.0 in
      let said = answer.1 in
      absurd (cc)
  poll-well (PollFailed number) child children plain earlier is answer =
      let found = law.polls children number plain earlier answer.0 in
      let said = answer.1 in
      absurd (cc)

  polls-well : (order : List Child) (polled : List Item) (children : Children) → IsUnscripted children → BeganEarlier children
      → AllZip (λ child item. IsPollOf child item.event) order polled → AreAnswers children polled → Well polled
  polls-well [] [] children plain earlier zip answers = tt
  polls-well [] (item ∷ polled) children plain earlier zip answers = absurd zip
  polls-well (child ∷ order) [] children plain earlier zip answers = absurd zip
  polls-well (child ∷ order) (item ∷ polled) children plain earlier zip answers =
      let one = poll-well item.event child children plain earlier zip.0 answers.0 in
      (one.0, polls-well order polled (children_after item.event children) (law.stays item.event children plain) one.1 zip.1 answers.1)

  -- an attempt for whatever purpose
  abbrev IsStart : Event → Type 0
  IsStart (Turn number) = ⊥
  IsStart (Began number purpose words) = Unit {0}
  IsStart (StartFailed purpose words) = Unit {0}
  IsStart (Ended number good) = ⊥
  IsStart (Runs number) = ⊥
  IsStart (PollFailed number) = ⊥

  attempt-start : (purpose : Purpose) (words : List (List ℕ)) (event : Event) → IsAttempt purpose words event → IsStart event
  attempt-start purpose words (Turn number) is = is
  attempt-start purpose words (Began number other others) is = tt
  attempt-start purpose words (StartFailed other others) is = tt
  attempt-start purpose words (Ended number good) is = is
  attempt-start purpose words (Runs number) is = is
  attempt-start purpose words (PollFailed number) is = is

  start-well : (event : Event) (children : Children) → IsUnscripted children → IsStart event → IsAnswer children event → GoesWell event
  start-well (Turn number) children plain is answer = tt
  start-well (Began number purpose words) children plain is answer = tt
  start-well (StartFailed purpose words) children plain is answer = let begins = law.starts children plain in absurd (cc)
  start-well (Ended number good) children plain is answer = absurd is
  start-well (Runs number) children plain is answer = absurd is
  start-well (PollFailed number) children plain is answer = absurd is

  starts-well : (items : List Item) (children : Children) → IsUnscripted children → AllByRecursion (λ item. IsStart item.event) items → AreAnswers children items → Well items
  starts-well [] children plain all answers = tt
  starts-well (item ∷ items) children plain all answers =
      (start-well item.event children plain all.0 answers.0, starts-well items (children_after item.event children) (law.stays item.event children plain) all.1 answers.1)

  opened-starts : (answer : Answer) (opened : List Item) → AttemptsThatOpen answer opened → AllByRecursion (λ item. IsStart item.event) opened
  opened-starts Nothing opened none = subst (λ (items : List Item). AllByRecursion (λ item. IsStart item.event) items) (sym none) tt
  opened-starts (Refuses why) opened none = subst (λ (items : List Item). AllByRecursion (λ item. IsStart item.event) items) (sym none) tt
  opened-starts (Opens item permit changes) [] one = absurd one
  opened-starts (Opens item permit changes) (start ∷ []) one = (attempt-start (Open item.id) permit.opening start.event one, tt)
  opened-starts (Opens item permit changes) (start ∷ other ∷ more) one = absurd one

  -- a whole turn
  turn-well : (rules : Rules) (place : Place) (taken : TakenTurn) (children : Children) → IsUnscripted children → WholeTurn rules place taken → AreAnswers children taken.items
      → Well taken.items
  turn-well rules place taken children plain whole answers =
      let items : List Item = whole.start ∷ (whole.polled ++ whole.opened) ++ whole.closed in
      let all : AreAnswers children items = subst (λ (is : List Item). AreAnswers children is) whole.nothing_else.1 answers in
      let begun : Children = children_after whole.start.event children in
      let earlier : BeganEarlier begun = subst (λ (event : Event). BeganEarlier (children_after event children)) (sym whole.nothing_else.0) (law.turns place.number children plain) in
      let fresh : IsUnscripted begun = law.stays whole.start.event children plain in
      let both : AreAnswers begun (whole.polled ++ whole.opened) = answers-front begun (whole.polled ++ whole.opened) whole.closed all.1 in
      let polled : Well whole.polled = polls-well whole.polls_each_running_child_once.order whole.polled begun fresh earlier whole.polls_each_running_child_once.answered
      (answers-front begun whole.polled whole.opened both) in
      let behind : Children = children_behind begun whole.polled in
      let opened : Well whole.opened = starts-well whole.opened behind (unscripted-behind begun whole.polled fresh)
      (opened-starts _ whole.opened whole.attempts_that_open_once) (answers-behind begun whole.polled whole.opened both) in
      let closes : AllByRecursion (λ (item : Item). IsStart item.event) whole.closed =
      second_of_zip (λ (closing : OpenRecord) (item : Item). IsAttempt (Close closing.id) closing.close item.event) (λ (item : Item). IsStart item.event) (λ (closing : OpenRecord) (item : Item) is. attempt-start (Close closing.id) closing.close item.event is)
      whole.attempts_each_due_idle_close_once.order whole.closed whole.attempts_each_due_idle_close_once.attempted in
      let closed : Well whole.closed = starts-well whole.closed (children_behind begun (whole.polled ++ whole.opened))
      (unscripted-behind begun (whole.polled ++ whole.opened) fresh) closes (answers-behind begun (whole.polled ++ whole.opened) whole.closed all.1) in
      let start : GoesWell whole.start.event = subst GoesWell (sym whole.nothing_else.0) tt in
      subst Well (sym whole.nothing_else.1) (
        start,
        all-append (λ (item : Item). GoesWell item.event) (whole.polled ++ whole.opened) whole.closed
            (all-append (λ (item : Item). GoesWell item.event) whole.polled whole.opened polled opened) closed,
      )

  -- the turn behind a trace
  pub well-push : (rules : Rules) (place : Place) (taken : TakenTurn) (trace : List Item) → WholeTurn rules place taken → AreAnswers no_children (trace ++ taken.items)
      → Well trace → Well (trace ++ taken.items)
  well-push rules place taken trace whole answers well =
      all-append (λ (item : Item). GoesWell item.event) trace taken.items well
      (turn-well rules place taken (children_behind no_children trace) (unscripted-behind no_children trace unscripted-none) whole (answers-behind no_children trace taken.items answers))

  range-push : (a n : ℕ) → range_with_len a (n + 1) ≡ range_with_len a n ++ (a + n) ∷ []
  range-push a zero =
      let e : a + 0 ≡ a = omega arith in
      ap (λ (m : ℕ). m ∷ []) (sym e)
  range-push a (suc n) =
      let e : suc n + 1 ≡ suc (n + 1) = omega arith in
      let f : a + 1 + n ≡ a + suc n = omega arith in
      ap (range_with_len a) e ∙ ap (λ (xs : List ℕ). a ∷ xs) (range-push (a + 1) n ∙ ap (λ (m : ℕ). range_with_len (a + 1) n ++ m ∷ []) f)

  -- the children so far are numbered from 1 up to as many as have begun
  abbrev AreNumbered : List Item → Children → Type 0
  AreNumbered past children = map (λ child. child.number) (children_of past) ≡ range_with_len 1 children.begun

  quiet-numbered : (past : List Item) (item : Item) (children next : Children) → begun_by item.event ≡ [] → next.begun ≡ children.begun → AreNumbered past children → AreNumbered (item ∷ past) next
  quiet-numbered past item children next none same numbered =
      ap (λ (begun : List Child). map (λ (child : Child). child.number) (children_of past ++ begun)) none
      ∙ ap (λ (cs : List Child). map (λ (child : Child). child.number) cs) (append-nil (children_of past)) ∙ numbered ∙ ap (range_with_len 1) (sym same)

  next-numbered : (past : List Item) (item : Item) (event : Event) (children : Children) → item.event ≡ event → IsUnscripted children → IsAnswer children event → AreNumbered past children
      → AreNumbered (item ∷ past) (children_after event children)
  next-numbered past item (Turn number) children is plain answer numbered = quiet-numbered past item children (children_after (Turn number) children) (ap begun_by is) refl numbered
  next-numbered past item (Began number purpose words) children is plain answer numbered =
      let next : number ≡ children.begun + 1 = ap number_in (sym answer ∙ law.starts children plain) in
      let place : children.begun + 1 ≡ 1 + children.begun = omega arith in
      ap (λ (begun : List Child). map (λ (child : Child). child.number) (children_of past ++ begun)) (ap begun_by is)
      ∙ map-append (λ (child : Child). child.number) (children_of past) (record { number = number; purpose = purpose } ∷ [])
      ∙ ap (λ (ns : List ℕ). ns ++ number ∷ []) numbered
      ∙ ap (λ (n : ℕ). range_with_len 1 children.begun ++ n ∷ []) (next ∙ place)
      ∙ sym (range-push 1 children.begun)
  next-numbered past item (StartFailed purpose words) children is plain answer numbered =
      quiet-numbered past item children (children_after (StartFailed purpose words) children) (ap begun_by is) refl numbered
  next-numbered past item (Ended number good) children is plain answer numbered =
      quiet-numbered past item children (children_after (Ended number good) children) (ap begun_by is) refl numbered
  next-numbered past item (Runs number) children is plain answer numbered = quiet-numbered past item children (children_after (Runs number) children) (ap begun_by is) refl numbered
  next-numbered past item (PollFailed number) children is plain answer numbered =
      quiet-numbered past item children (children_after (PollFailed number) children) (ap begun_by is) refl numbered

  numbered-behind : (past items : List Item) (children : Children) → IsUnscripted children → AreAnswers children items → AreNumbered past children
      → AreNumbered (past_after past items) (children_behind children items)
  numbered-behind past [] children plain answers numbered = numbered
  numbered-behind past (item ∷ items) children plain answers numbered =
      numbered-behind (item ∷ past) items (children_after item.event children) (law.stays item.event children plain) answers.1
      (next-numbered past item item.event children refl plain answers.0 numbered)

  length-range : (a n : ℕ) → length (range_with_len a n) ≡ n
  length-range a zero = refl
  length-range a (suc n) = let later = length-range (a + 1) n in omega (arith, later)

  -- a trace of answers whose events go well is one of a trial
  pub trial-trace : (trace : List Item) → AreAnswers no_children trace → Well trace → IsTrialTrace trace
  trial-trace trace answers well =
      let numbered : child_numbers trace ≡ range_with_len 1 (children_behind no_children trace).begun = numbered-behind [] trace no_children unscripted-none answers refl in
      record {
        well = well;
        numbers = numbered ∙ ap (range_with_len 1) (sym (ap length numbered ∙ length-range 1 (children_behind no_children trace).begun));
      }
