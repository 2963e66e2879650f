-- Two turns that brought the same at like places, and went well, are alike.
use Rattle.std.proofs.Common.{◌≡◌, ℕ, ◌+◌, true, IsTrue, List, [], ◌∷◌, ◌++◌, sym, ap, ◌∙◌, subst, arith}
use Rattle.std.specs.List.{AllZip, Contains}
use Rattle.fk_base.specs.declared.purpose.Purpose.{Purpose}
use Rattle.fk_base.specs.declared.purpose.Purpose.TheVariants.{Open, Close}
use Rattle.fk_trace.specs.declared.change.OpenRecord.{OpenRecord}
use Rattle.fk_trace.specs.declared.change.Change.{Change}
use Rattle.fk_trace.specs.Trace.{Event, Item, Child, running}
use Rattle.fk_trace.specs.Trace.Event.{Turn, Began, StartFailed, Ended, Runs, PollFailed}
use Rattle.fk_trace.specs.Ledger.{after, live}
use Rattle.fk_trace.specs.Idle.{is_idle, ends_after}
use Rattle.fk_trace.specs.Decision.{FeedTurn, Rules, Answer, answer, recorded_by}
use Rattle.fk_trace.specs.Decision.Answer.{Nothing, Refuses, Opens}
use Rattle.fk_trace.specs.Attempts.{IsPollOf, IsAttempt, AttemptsThatOpen}
use Rattle.fk_run.specs.Place.{Place, behind, changed}
use Rattle.fk_run.specs.Turn.{TakenTurn, WholeTurn, IsDueIdle, after_turn}
use Rattle.fk_trial.specs.Trace.{GoesWell}
use Rattle.fk_trial.proofs.GoingWell.{Well}
use Rattle.fk_trial.proofs.Alike.{Alike, alike-append, alike-past, same-running, same-settlements, same-idle, same-ends}
use Rattle.fk_trial.proofs.Numbers.{IsNext, next, AreCounted, counted_to, counted-front, counted-behind, same-count}
use Rattle.fk_trial.proofs.Orders.{same-polls, same-closes}

-- places that differ in the counts of their items alone
pub record AreLike (p q : Place) : Type 0 where
  pub past : Alike p.past q.past
  pub ends : p.ends ≡ q.ends
  pub ledger : p.ledger ≡ q.ledger
  pub number : p.number ≡ q.number

pub well-front : (xs ys : List Item) → Well (xs ++ ys) → Well xs
well-front [] ys well = tt
well-front (x ∷ xs) ys well = (well.0, well-front xs ys well.1)

pub well-behind : (xs ys : List Item) → Well (xs ++ ys) → Well ys
well-behind [] ys well = well
well-behind (x ∷ xs) ys well = well-behind xs ys well.1

poll-event : (child : Child) (event : Event) → IsPollOf child event → GoesWell event → event ≡ Ended child.number true
poll-event child (Turn number) is well = absurd is
poll-event child (Began number purpose words) is well = absurd is
poll-event child (StartFailed purpose words) is well = absurd is
poll-event child (Ended number good) is well = ap (λ (n : ℕ). Ended n good) is ∙ ap (Ended child.number) well
poll-event child (Runs number) is well = absurd well
poll-event child (PollFailed number) is well = absurd well

alike-polls : (order : List Child) (xs ys : List Item) → AllZip (λ child item. IsPollOf child item.event) order xs → Well xs
    → AllZip (λ child item. IsPollOf child item.event) order ys → Well ys → Alike xs ys
alike-polls [] [] [] a wa b wb = tt
alike-polls [] [] (y ∷ ys) a wa b wb = absurd b
alike-polls [] (x ∷ xs) ys a wa b wb = absurd a
alike-polls (child ∷ order) [] ys a wa b wb = absurd a
alike-polls (child ∷ order) (x ∷ xs) [] a wa b wb = absurd b
alike-polls (child ∷ order) (x ∷ xs) (y ∷ ys) a wa b wb =
    (poll-event child x.event a.0 wa.0 ∙ sym (poll-event child y.event b.0 wb.0), alike-polls order xs ys a.1 wa.1 b.1 wb.1)

attempt-event : (purpose : Purpose) (words : List (List ℕ)) (n : ℕ) (event : Event) → IsAttempt purpose words event → GoesWell event → IsNext n event → event ≡ Began (n + 1) purpose words
attempt-event purpose words n (Turn number) is well counted = absurd is
attempt-event purpose words n (Began number other others) is well counted =
    ap (λ (m : ℕ). Began m other others) counted ∙ ap (λ (p : Purpose). Began (n + 1) p others) is.0 ∙ ap (Began (n + 1) purpose) is.1
attempt-event purpose words n (StartFailed other others) is well counted = absurd well
attempt-event purpose words n (Ended number good) is well counted = absurd is
attempt-event purpose words n (Runs number) is well counted = absurd is
attempt-event purpose words n (PollFailed number) is well counted = absurd is

alike-closes : (order : List OpenRecord) (n : ℕ) (xs ys : List Item) → AllZip (λ closing item. IsAttempt (Close closing.id) closing.close item.event) order xs → Well xs → AreCounted n xs
    → AllZip (λ closing item. IsAttempt (Close closing.id) closing.close item.event) order ys → Well ys → AreCounted n ys → Alike xs ys
alike-closes [] n [] [] a wa ca b wb cb = tt
alike-closes [] n [] (y ∷ ys) a wa ca b wb cb = absurd b
alike-closes [] n (x ∷ xs) ys a wa ca b wb cb = absurd a
alike-closes (closing ∷ order) n [] ys a wa ca b wb cb = absurd a
alike-closes (closing ∷ order) n (x ∷ xs) [] a wa ca b wb cb = absurd b
alike-closes (closing ∷ order) n (x ∷ xs) (y ∷ ys) a wa ca b wb cb =
    let ea : x.event ≡ Began (n + 1) (Close closing.id) closing.close = attempt-event (Close closing.id) closing.close n x.event a.0 wa.0 ca.0 in
    let eb : y.event ≡ Began (n + 1) (Close closing.id) closing.close = attempt-event (Close closing.id) closing.close n y.event b.0 wb.0 cb.0 in (
      ea ∙ sym eb,
      alike-closes order (n + 1) xs ys a.1 wa.1 (subst (λ (event : Event). AreCounted (next n event) xs) ea ca.1)
          b.1 wb.1 (subst (λ (event : Event). AreCounted (next n event) ys) eb cb.1),
    )

alike-opened : (given : Answer) (n : ℕ) (xs ys : List Item) → AttemptsThatOpen given xs → Well xs → AreCounted n xs → AttemptsThatOpen given ys → Well ys → AreCounted n ys → Alike xs ys
alike-opened Nothing n xs ys a wa ca b wb cb = subst (λ (is : List Item). Alike is ys) (sym a) (subst (Alike []) (sym b) tt)
alike-opened (Refuses why) n xs ys a wa ca b wb cb = subst (λ (is : List Item). Alike is ys) (sym a) (subst (Alike []) (sym b) tt)
alike-opened (Opens item permit changes) n [] ys a wa ca b wb cb = absurd a
alike-opened (Opens item permit changes) n (x ∷ other ∷ xs) ys a wa ca b wb cb = absurd a
alike-opened (Opens item permit changes) n (x ∷ []) [] a wa ca b wb cb = absurd b
alike-opened (Opens item permit changes) n (x ∷ []) (y ∷ other ∷ ys) a wa ca b wb cb = absurd b
alike-opened (Opens item permit changes) n (x ∷ []) (y ∷ []) a wa ca b wb cb =
    (attempt-event (Open item.id) permit.opening n x.event a wa.0 ca.0 ∙ sym (attempt-event (Open item.id) permit.opening n y.event b wb.0 cb.0), tt)

-- the same records are due and idle at like places
same-due : (p q : Place) (m n : ℕ) (item : OpenRecord) → AreLike p q → m ≡ n → IsDueIdle p m item → IsDueIdle q n item
same-due p q m n item like same owed = record {
  lives = subst (λ (changes : List Change). Contains (live changes) item) like.ledger owed.lives;
  due = let due = owed.due in omega arith;
  idle = subst (λ (moment : ℕ). IsTrue (is_idle q.past q.ends moment item.id)) same
      (subst (λ (ends : List ℕ). IsTrue (is_idle q.past ends m item.id)) like.ends (sym (same-idle p.past q.past p.ends m item.id like.past) ∙ owed.idle));
}

like-back : (p q : Place) → AreLike p q → AreLike q p
like-back p q like = record { past = back p.past q.past like.past; ends = sym like.ends; ledger = sym like.ledger; number = sym like.number }
  where
    back : (xs ys : List Item) → Alike xs ys → Alike ys xs
    back [] [] alike = tt
    back [] (y ∷ ys) alike = absurd alike
    back (x ∷ xs) [] alike = absurd alike
    back (x ∷ xs) (y ∷ ys) alike = (sym alike.0, back xs ys alike.1)

like-behind : (m n : ℕ) (p q : Place) (a b : List Item) → m ≡ n → AreLike p q → Alike a b → AreLike (behind m p a) (behind n q b)
like-behind m n p q a b same like items = record {
  past = alike-past p.past q.past a b like.past items;
  ends = same-ends m p.ends a b items ∙ ap (λ (moment : ℕ). ends_after moment p.ends b) same ∙ ap (λ (ends : List ℕ). ends_after n ends b) like.ends;
  ledger = like.ledger;
  number = like.number;
}

like-changed : (p q : Place) (a b : List Change) → AreLike p q → a ≡ b → AreLike (changed p a) (changed q b)
like-changed p q a b like same = record {
  past = like.past;
  ends = like.ends;
  ledger = ap (λ (changes : List Change). after changes a) like.ledger ∙ ap (after q.ledger) same;
  number = like.number;
}

module _ (rules : Rules) (p q : Place) (a b : TakenTurn) (n : ℕ) (like : AreLike p q) (turn : a.turn ≡ b.turn)
    (wa : WholeTurn rules p a) (wb : WholeTurn rules q b) (well_a : Well a.items) (well_b : Well b.items) (counted_a : AreCounted n a.items) (counted_b : AreCounted n b.items) where
  abbrev items_a : List Item
  items_a = wa.start ∷ (wa.polled ++ wa.opened) ++ wa.closed

  abbrev items_b : List Item
  items_b = wb.start ∷ (wb.polled ++ wb.opened) ++ wb.closed

  abbrev m : ℕ
  m = next n wa.start.event

  moment : a.turn.moment ≡ b.turn.moment
  moment = ap (λ (t : FeedTurn). t.moment) turn

  start : wa.start.event ≡ wb.start.event
  start = wa.nothing_else.0 ∙ ap Turn like.number ∙ sym wb.nothing_else.0

  wella : Well items_a
  wella = subst Well wa.nothing_else.1 well_a

  wellb : Well items_b
  wellb = subst Well wb.nothing_else.1 well_b

  counta : AreCounted m ((wa.polled ++ wa.opened) ++ wa.closed)
  counta = (subst (AreCounted n) wa.nothing_else.1 counted_a).1

  countb : AreCounted m ((wb.polled ++ wb.opened) ++ wb.closed)
  countb = subst (λ (event : Event). AreCounted (next n event) ((wb.polled ++ wb.opened) ++ wb.closed)) (sym start) (subst (AreCounted n) wb.nothing_else.1 counted_b).1

  begun : Alike (wa.start ∷ p.past) (wb.start ∷ q.past)
  begun = (start, like.past)

  order : wa.polls_each_running_child_once.order ≡ wb.polls_each_running_child_once.order
  order =
      let same : running (wa.start ∷ p.past) ≡ running (wb.start ∷ q.past) = same-running (wa.start ∷ p.past) (wb.start ∷ q.past) begun in
      same-polls wa.polls_each_running_child_once.order wb.polls_each_running_child_once.order wa.polls_each_running_child_once.rising wb.polls_each_running_child_once.rising
      (λ child. (
        λ m. (wb.polls_each_running_child_once.each child).1 (subst (λ (cs : List Child). Contains cs child) same ((wa.polls_each_running_child_once.each child).0 m)),
        λ m. (wa.polls_each_running_child_once.each child).1 (subst (λ (cs : List Child). Contains cs child) (sym same) ((wb.polls_each_running_child_once.each child).0 m)),
      ))

  polled : Alike wa.polled wb.polled
  polled =
      alike-polls wa.polls_each_running_child_once.order wa.polled wb.polled wa.polls_each_running_child_once.answered
      (well-front wa.polled wa.opened (well-front (wa.polled ++ wa.opened) wa.closed wella.1))
      (subst (λ (cs : List Child). AllZip (λ (child : Child) (item : Item). IsPollOf child item.event) cs wb.polled) (sym order) wb.polls_each_running_child_once.answered)
      (well-front wb.polled wb.opened (well-front (wb.polled ++ wb.opened) wb.closed wellb.1))

  settled : wa.settled ≡ wb.settled
  settled = wa.settles_clean_good_ends ∙ same-settlements (wa.start ∷ p.past) (wb.start ∷ q.past) wa.polled wb.polled begun polled ∙ sym wb.settles_clean_good_ends

  given : answer rules (after p.ledger wa.settled) a.turn ≡ answer rules (after q.ledger wb.settled) b.turn
  given =
      ap (λ (ledger : List Change). answer rules (after ledger wa.settled) a.turn) like.ledger
      ∙ ap (λ (changes : List Change). answer rules (after q.ledger changes) a.turn) settled
      ∙ ap (λ (t : FeedTurn). answer rules (after q.ledger wb.settled) t) turn

  recorded : wa.recorded ≡ wb.recorded
  recorded = wa.records_what_is_granted ∙ ap recorded_by given ∙ sym wb.records_what_is_granted

  changes_are : wa.settled ++ wa.recorded ≡ wb.settled ++ wb.recorded
  changes_are = ap (λ (changes : List Change). changes ++ wa.recorded) settled ∙ ap (λ (changes : List Change). wb.settled ++ changes) recorded

  opened : Alike wa.opened wb.opened
  opened =
      let fronta = counted-front m (wa.polled ++ wa.opened) wa.closed counta in
      let frontb = counted-front m (wb.polled ++ wb.opened) wb.closed countb in
      alike-opened (answer rules (after p.ledger wa.settled) a.turn) (counted_to m wa.polled) wa.opened wb.opened wa.attempts_that_open_once
      (well-behind wa.polled wa.opened (well-front (wa.polled ++ wa.opened) wa.closed wella.1)) (counted-behind m wa.polled wa.opened fronta)
      (subst (λ (g : Answer). AttemptsThatOpen g wb.opened) (sym given) wb.attempts_that_open_once)
      (well-behind wb.polled wb.opened (well-front (wb.polled ++ wb.opened) wb.closed wellb.1))
      (subst (λ (k : ℕ). AreCounted k wb.opened) (sym (same-count m wa.polled wb.polled polled)) (counted-behind m wb.polled wb.opened frontb))

  both : Alike (wa.polled ++ wa.opened) (wb.polled ++ wb.opened)
  both = alike-append wa.polled wb.polled wa.opened wb.opened polled opened

  closing : AreLike (changed (behind a.turn.moment p (wa.start ∷ wa.polled ++ wa.opened)) (wa.settled ++ wa.recorded))
      (changed (behind b.turn.moment q (wb.start ∷ wb.polled ++ wb.opened)) (wb.settled ++ wb.recorded))
  closing =
      like-changed (behind a.turn.moment p (wa.start ∷ wa.polled ++ wa.opened)) (behind b.turn.moment q (wb.start ∷ wb.polled ++ wb.opened)) (wa.settled ++ wa.recorded) (wb.settled ++ wb.recorded)
      (like-behind a.turn.moment b.turn.moment p q (wa.start ∷ wa.polled ++ wa.opened) (wb.start ∷ wb.polled ++ wb.opened) moment like (start, both)) changes_are

  due : wa.attempts_each_due_idle_close_once.order ≡ wb.attempts_each_due_idle_close_once.order
  due =
      same-closes wa.attempts_each_due_idle_close_once.order wb.attempts_each_due_idle_close_once.order wa.attempts_each_due_idle_close_once.rising wb.attempts_each_due_idle_close_once.rising
      (λ item. (
        λ m. (wb.attempts_each_due_idle_close_once.each item).1 (same-due _ _ a.turn.moment b.turn.moment item closing moment ((wa.attempts_each_due_idle_close_once.each item).0 m)),
        λ m. (wa.attempts_each_due_idle_close_once.each item).1
            (same-due _ _ b.turn.moment a.turn.moment item (like-back _ _ closing) (sym moment) ((wb.attempts_each_due_idle_close_once.each item).0 m)),
      ))

  closed : Alike wa.closed wb.closed
  closed =
      alike-closes wa.attempts_each_due_idle_close_once.order (counted_to m (wa.polled ++ wa.opened)) wa.closed wb.closed wa.attempts_each_due_idle_close_once.attempted
      (well-behind (wa.polled ++ wa.opened) wa.closed wella.1) (counted-behind m (wa.polled ++ wa.opened) wa.closed counta)
      (subst (λ (order : List OpenRecord). AllZip (λ (closing : OpenRecord) (item : Item). IsAttempt (Close closing.id) closing.close item.event) order wb.closed) (sym due) wb.attempts_each_due_idle_close_once.attempted)
      (well-behind (wb.polled ++ wb.opened) wb.closed wellb.1)
      (subst (λ (k : ℕ). AreCounted k wb.closed) (sym (same-count m (wa.polled ++ wa.opened) (wb.polled ++ wb.opened) both)) (counted-behind m (wb.polled ++ wb.opened) wb.closed countb))

  pub same-items : Alike a.items b.items
  same-items =
      subst (λ (is : List Item). Alike is b.items) (sym wa.nothing_else.1)
      (subst (Alike items_a) (sym wb.nothing_else.1) (start, alike-append (wa.polled ++ wa.opened) (wb.polled ++ wb.opened) wa.closed wb.closed both closed))

  pub same-changes : a.changes ≡ b.changes
  same-changes = wa.nothing_else.2 ∙ changes_are ∙ sym wb.nothing_else.2

  pub like-after : AreLike (after_turn p a) (after_turn q b)
  like-after =
      let there = like-changed (behind a.turn.moment p a.items) (behind b.turn.moment q b.items) a.changes b.changes
      (like-behind a.turn.moment b.turn.moment p q a.items b.items moment like same-items) same-changes in
      record { past = there.past; ends = there.ends; ledger = there.ledger; number = ap (λ (k : ℕ). k + 1) like.number }
