-- What a whole turn starts of what is owed at it: its open, the first close of each record that is due, and the close of each that
-- is due and idle at its end.
use Rattle.std.proofs.Common.{◌≡◌, ℕ, ◌≤◌, false, ◌||◌, List, [], ◌∷◌, ◌++◌, refl, sym, ap, ◌∙◌, subst}
use Rattle.std.specs.Prelude.{IsTrue}
use Rattle.std.specs.List.{Contains}
use Rattle.std.proofs.lemmas.List.Elements.{Contains-append_right, Contains-append_left}
use Rattle.std.proofs.lemmas.List.Folds.{list_any-append}
use Rattle.fk_base.specs.declared.purpose.Purpose.{Purpose}
use Rattle.fk_base.specs.declared.purpose.Purpose.TheVariants.{Open, Close}
use Rattle.fk_trace.specs.declared.change.OpenRecord.{OpenRecord}
use Rattle.fk_trace.specs.declared.change.Change.{Change}
use Rattle.fk_trace.specs.Trace.{Item, is_close_attempt_of, close_attempted, past_after}
use Rattle.fk_trace.specs.Ledger.{live, after}
use Rattle.fk_trace.specs.Idle.{is_idle, ends_after}
use Rattle.fk_trace.specs.Decision.{Permit, Rules, Answer, answer}
use Rattle.fk_trace.specs.Decision.Answer.{Nothing, Refuses, Opens}
use Rattle.fk_trace.specs.Attempts.{IsAttempt, IsOneAttempt, AttemptsThatOpen}
use Rattle.fk_trace.proofs.Lists.{Contains-head, Contains-tail}
use Rattle.fk_trace.proofs.Splits.{second_at_zip}
use Rattle.fk_trace.proofs.Settled.{past_after-append}
use Rattle.fk_trace.proofs.FirstCloses.{close_attempted-past, idle-first}
use Rattle.fk_run.specs.Place.{Place, behind, changed}
use Rattle.fk_run.specs.Turn.{TakenTurn, IsDueIdle, WholeTurn, after_turn}
use Rattle.fk_run.specs.Headline.{AttemptedIn}
use Rattle.fk_run.proofs.Items.{tries-ends, tries-idle, polls-no_closes, open-no_closes, ends_after-append}
use Rattle.fk_run.proofs.Turns.{whole-polls, whole-closed}

opened-no_close : (id : ℕ) (a : Answer) (opened : List Item) → AttemptsThatOpen a opened → close_attempted opened id ≡ false
opened-no_close id Nothing opened h = rw h refl
opened-no_close id (Refuses why) opened h = rw h refl
opened-no_close id (Opens item permit making) [] h = absurd h
opened-no_close id (Opens item permit making) (x ∷ []) h = open-no_closes id item.id permit.opening x h
opened-no_close id (Opens item permit making) (x ∷ y ∷ opened) h = absurd h

one-attempt : (purpose : Purpose) (words : List (List ℕ)) (items : List Item) → IsOneAttempt purpose words items → AttemptedIn items purpose words
one-attempt purpose words [] h = absurd h
one-attempt purpose words (x ∷ []) h = (x, Contains-head x [], h)
one-attempt purpose words (x ∷ y ∷ items) h = absurd h

module _ {rules : Rules} {place : Place} {taken : TakenTurn} (whole : WholeTurn rules place taken) where
  opened-there : (item : Item) → Contains whole.opened item → Contains taken.items item
  opened-there item m =
      let begun : List Item = whole.polled ++ whole.opened in
      subst (λ (all : List Item). Contains all item) (sym whole.nothing_else.1)
      (Contains-tail whole.start (begun ++ whole.closed) item (Contains-append_left begun whole.closed item (Contains-append_right whole.polled whole.opened item m)))

  closed-there : (item : Item) → Contains whole.closed item → Contains taken.items item
  closed-there item m =
      let begun : List Item = whole.polled ++ whole.opened in
      subst (λ (all : List Item). Contains all item) (sym whole.nothing_else.1) (Contains-tail whole.start (begun ++ whole.closed) item (Contains-append_right begun whole.closed item m))

  -- the open of what is to be opened is attempted
  pub starts-open : (item : OpenRecord) (permit : Permit) (making : List Change) → answer rules (after place.ledger whole.settled) taken.turn ≡ Opens item permit making → AttemptedIn taken.items (Open item.id) permit.opening
  starts-open item permit making e =
      let one = one-attempt (Open item.id) permit.opening whole.opened (subst (λ (a : Answer). AttemptsThatOpen a whole.opened) e whole.attempts_that_open_once) in
      (one.0, opened-there one.0 one.1, one.2)

  -- before its closes a turn attempts none
  no_close-before : (id : ℕ) → close_attempted place.past id ≡ false → close_attempted (past_after place.past (whole.start ∷ whole.polled ++ whole.opened)) id ≡ false
  no_close-before id none =
      let first : is_close_attempt_of id whole.start.event ≡ false = ap (is_close_attempt_of id) whole.nothing_else.0 in
      let begun : close_attempted (whole.start ∷ place.past) id ≡ false = rw first none in
      let polls = polls-no_closes id whole.polled (whole-polls whole) in
      let opens = opened-no_close id (answer rules (after place.ledger whole.settled) taken.turn) whole.opened whole.attempts_that_open_once in
      let joined : close_attempted (whole.polled ++ whole.opened) id ≡ false =
      list_any-append (λ (item : Item). is_close_attempt_of id item.event) whole.polled whole.opened ∙ ap (λ b. b || close_attempted whole.opened id) polls ∙ opens in
      close_attempted-past (whole.start ∷ place.past) (whole.polled ++ whole.opened) id begun joined

  -- the place at which its closes are attempted
  abbrev pub closing-place : Place
  closing-place = changed (behind taken.turn.moment place (whole.start ∷ whole.polled ++ whole.opened)) (whole.settled ++ whole.recorded)

  starts-idle : (item : OpenRecord) → IsDueIdle closing-place taken.turn.moment item → AttemptedIn taken.items (Close item.id) item.close
  starts-idle item idle =
      let closes = whole.attempts_each_due_idle_close_once in
      let at = second_at_zip (λ (closing : OpenRecord) (x : Item). IsAttempt (Close closing.id) closing.close x.event) closes.order whole.closed item closes.attempted ((closes.each item).1 idle) in
      (at.0, closed-there at.0 at.1, at.2)

  -- the close of what is due is attempted, if none was before
  pub starts-close : (item : OpenRecord) → Contains (live (after place.ledger taken.changes)) item → item.due ≤ taken.turn.moment → close_attempted place.past item.id ≡ false
      → AttemptedIn taken.items (Close item.id) item.close
  starts-close item lives due none =
      starts-idle item
      (record {
        lives = subst (λ (changes : List Change). Contains (live (after place.ledger changes)) item) whole.nothing_else.2 lives;
        due = due;
        idle = idle-first item.id (past_after place.past (whole.start ∷ whole.polled ++ whole.opened)) _ taken.turn.moment (no_close-before item.id none);
      })

  -- the close of what is due and idle at the end is attempted, since an attempt makes no record idle
  pub starts-left : (item : OpenRecord) → IsDueIdle (after_turn place taken) taken.turn.moment item → AttemptedIn taken.items (Close item.id) item.close
  starts-left item left =
      let moment : ℕ = taken.turn.moment in
      let begun : List Item = whole.start ∷ whole.polled ++ whole.opened in
      let ends : List ℕ = ends_after moment place.ends begun in
      let past : past_after place.past taken.items ≡ past_after (past_after place.past begun) whole.closed = ap (past_after place.past) whole.nothing_else.1 ∙ past_after-append place.past begun whole.closed in
      let same : ends_after moment place.ends taken.items ≡ ends =
      ap (ends_after moment place.ends) whole.nothing_else.1 ∙ ends_after-append moment place.ends begun whole.closed ∙ tries-ends moment ends whole.closed (whole-closed whole) in
      let behind_all : IsTrue (is_idle (past_after (past_after place.past begun) whole.closed) ends moment item.id) =
      subst (λ (places : List Item). IsTrue (is_idle places ends moment item.id)) past (subst (λ (moments : List ℕ). IsTrue (is_idle (past_after place.past taken.items) moments moment item.id)) same left.idle) in
      starts-idle item
      (record {
        lives = subst (λ (changes : List Change). Contains (live (after place.ledger changes)) item) whole.nothing_else.2 left.lives;
        due = left.due;
        idle = tries-idle whole.closed (past_after place.past begun) ends moment item.id (whole-closed whole) behind_all;
      })
