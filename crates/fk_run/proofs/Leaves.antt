-- A legal run over a ledger leaves a ledger.
use Rattle.std.proofs.Common.{◌≡◌, ℕ, ◌<◌, Bool, not, ◌&&◌, List, [], ◌∷◌, ◌++◌, refl, sym, ap, ◌∙◌, subst, arith, inl, inr, append_assoc, append-nil}
use Rattle.std.specs.Prelude.{IsTrue}
use Rattle.std.specs.List.{flat_map, Contains}
use Rattle.std.proofs.lemmas.Bool.{and_parts, not-true, eq-eqb}
use Rattle.fk_base.specs.declared.purpose.Purpose.TheVariants.{Close}
use Rattle.fk_trace.specs.declared.change.Change.{Change}
use Rattle.fk_trace.specs.Trace.{Event, Item, Child, children, running, still_running, begun_by, open_runs, close_runs, is_close_of, past_after}
use Rattle.fk_trace.specs.Ledger.{dones, live, after, IsLedger}
use Rattle.fk_trace.specs.Idle.{is_idle, last_close, ended_well, rests}
use Rattle.fk_trace.specs.Decision.{Rules, answer}
use Rattle.fk_trace.proofs.Lists.{list_any-from}
use Rattle.fk_trace.proofs.Splits.{AllPairs-front}
use Rattle.fk_trace.proofs.Ledgers.{after-append}
use Rattle.fk_trace.proofs.Made.{AreMade, IsLive, made-joined, made-front}
use Rattle.fk_trace.proofs.Grants.{answer-made, dones-answer}
use Rattle.fk_trace.proofs.Settled.{past_after-append}
use Rattle.fk_run.specs.Place.{Place, entry}
use Rattle.fk_run.specs.Turn.{TakenTurn, WholeTurn, after_turn}
use Rattle.fk_run.specs.Run.{Run, Ending, changes_of}
use Rattle.fk_run.specs.Legal.{Legal, LegalTurns}
use Rattle.fk_run.proofs.Ledgers.{ledger-made}
use Rattle.fk_run.proofs.Keeping.{Keeps, KeepsOver, IsNumbered, keeps-polls, keeps-recorded, keeps-opened, keeps-closed}

-- of an idle record no close runs
idle-none_runs : (past : List Item) (ends : List ℕ) (moment id : ℕ) (child : Child) → IsTrue (is_idle past ends moment id) → Contains (running past) child → child.purpose ≡ Close id → ⊥
idle-none_runs past ends moment id child idle m p =
    let waits : Bool = open_runs past id && ended_well (last_close past ends id) in
    let none = not-true (close_runs past id) (and_parts (not (close_runs past id)) (not waits) (and_parts (not (close_runs past id) && not waits) (not (rests (last_close past ends id) moment)) idle).0).0 in
    let runs = list_any-from (λ (c : Child). is_close_of id c.purpose) (running past) child m (ap (is_close_of id) p ∙ eq-eqb id id refl) in
    absurd cc

module _ {rules : Rules} {place : Place} {taken : TakenTurn} where
  keeps-whole : WholeTurn rules place taken → IsNumbered (children place.past) → Keeps (running place.past) place.ledger → KeepsOver (running (past_after place.past taken.items)) place.ledger taken.changes
  keeps-whole whole numbered keeps =
      let begun : List Item = whole.start ∷ place.past in
      let settled : List Change = after place.ledger whole.settled in
      let made : List Change = after settled whole.recorded in
      let polled : List Item = past_after begun whole.polled in
      let opened : List Item = past_after polled whole.opened in
      let none_begun : children begun ≡ children place.past = ap (λ (event : Event). children place.past ++ begun_by event) whole.nothing_else.0 ∙ append-nil (children place.past) in
      let same_runs : running begun ≡ running place.past = ap (λ (event : Event). still_running event (running place.past) ++ begun_by event) whole.nothing_else.0 ∙ append-nil (running place.past) in
      let polls = whole.polls_each_running_child_once in
      let over_settled : KeepsOver (running polled) place.ledger whole.settled =
      subst (λ (changes : List Change). KeepsOver (running polled) place.ledger changes) (sym whole.settles_clean_good_ends)
      (keeps-polls begun place.ledger polls.order whole.polled (subst IsNumbered (sym none_begun) numbered) (subst (λ (cs : List Child). Keeps cs place.ledger) (sym same_runs) keeps) polls.answered polls.rising
      (λ child m. (polls.each child).0 m)) in
      let recorded : AreMade IsLive settled whole.recorded =
      subst (λ (changes : List Change). AreMade IsLive settled changes) (sym whole.records_what_is_granted) (answer-made IsLive rules settled taken.turn (answer rules settled taken.turn) refl) in
      let none_settled : dones whole.recorded ≡ [] = ap dones whole.records_what_is_granted ∙ dones-answer rules settled taken.turn (answer rules settled taken.turn) refl in
      let keeps_made : Keeps (running polled) made = keeps-recorded (running polled) settled whole.recorded recorded none_settled over_settled.keeps in
      let keeps_opened : Keeps (running opened) made = keeps-opened polled made (answer rules settled taken.turn) whole.opened whole.attempts_that_open_once keeps_made in
      let closes = whole.attempts_each_due_idle_close_once in
      let alike : after place.ledger (whole.settled ++ whole.recorded) ≡ made = after-append place.ledger whole.settled whole.recorded in
      let before : past_after begun (whole.polled ++ whole.opened) ≡ opened = past_after-append begun whole.polled whole.opened in
      let keeps_closed : Keeps (running (past_after opened whole.closed)) made =
      keeps-closed opened made closes.order whole.closed keeps_opened closes.attempted closes.rising
      (λ closing m. subst (λ (all : List Change). Contains (live all) closing) alike ((closes.each closing).0 m).lives)
      (λ closing child m n p.
      idle-none_runs (past_after begun (whole.polled ++ whole.opened)) _ taken.turn.moment closing.id child ((closes.each closing).0 m).idle (subst (λ (past : List Item). Contains (running past) child) (sym before) n) p) in
      let behind_all : past_after opened whole.closed ≡ past_after place.past taken.items =
      ap (λ (past : List Item). past_after past whole.closed) (sym before) ∙ sym (past_after-append begun (whole.polled ++ whole.opened) whole.closed) ∙ ap (past_after place.past) (sym whole.nothing_else.1) in
      subst (λ (changes : List Change). KeepsOver (running (past_after place.past taken.items)) place.ledger changes) (sym whole.nothing_else.2)
      (record {
        made = made-joined IsLive place.ledger whole.settled whole.recorded over_settled.made recorded;
        keeps = subst (λ (past : List Item). Keeps (running past) (after place.ledger (whole.settled ++ whole.recorded))) behind_all
            (subst (λ (all : List Change). Keeps (running (past_after opened whole.closed)) all) (sym alike) keeps_closed);
      })

-- the children before a place are the first of those after it
pub children-after : (past items : List Item) → (more : List Child) × (children (past_after past items) ≡ children past ++ more)
children-after past [] = ([], sym (append-nil (children past)))
children-after past (item ∷ items) =
    let rest = children-after (item ∷ past) items in
    (begun_by item.event ++ rest.0, rest.1 ∙ append_assoc (children past) (begun_by item.event) rest.0)

pub numbered-before : (past items : List Item) → IsNumbered (children (past_after past items)) → IsNumbered (children past)
numbered-before past items numbered =
    let all = children-after past items in
    AllPairs-front (λ (a b : Child). a.number < b.number) (children past) all.0 (subst IsNumbered all.1 numbered)

leaves : (rules : Rules) (ending : Ending) (turns : List TakenTurn) (place : Place) → LegalTurns rules place ending turns → IsNumbered (children (past_after place.past (flat_map (λ taken. taken.items) turns)))
    → Keeps (running place.past) place.ledger → AreMade IsLive place.ledger (flat_map (λ taken. taken.changes) turns)
leaves rules ending [] place legal numbered keeps = tt
leaves rules ending (taken ∷ later) place legal numbered keeps =
    let items : List Item = flat_map (λ (t : TakenTurn). t.items) later in
    let changes : List TakenTurn → List Change = λ turns. flat_map (λ (t : TakenTurn). t.changes) turns in
    let here = numbered-before place.past (taken.items ++ items) numbered in
    elim legal [
      | inl w ↦
          let over = keeps-whole w.0 here keeps in
          made-joined IsLive place.ledger taken.changes (changes later) over.made
          (leaves rules ending later (after_turn place taken) w.1 (subst (λ (past : List Item). IsNumbered (children past)) (past_after-append place.past taken.items items) numbered) over.keeps)
      | inr cut ↦
          let whole = (keeps-whole cut.2.whole here keeps).made in
          let front : AreMade IsLive place.ledger taken.changes = made-front IsLive place.ledger taken.changes cut.2.unmade whole in
          subst (λ (turns : List TakenTurn). AreMade IsLive place.ledger (taken.changes ++ changes turns)) (sym cut.1)
          (subst (λ (made : List Change). AreMade IsLive place.ledger made) (sym (append-nil taken.changes)) front)
    ]

-- what a run makes over a ledger may be made there, each Done of a record that is live
pub leaves-made : (run : Run) → Legal run → IsLedger run.ledger → AreMade IsLive run.ledger (changes_of run)
leaves-made run legal is =
    leaves run.rules run.ending run.turns (entry run.ledger) legal.turns legal.numbered
    (record { is_ledger = is; held = λ child id m p. absurd (omega (arith, m.1)); one = λ a b id m n p q. absurd (omega (arith, m.1)) })

pub leaves-ledger : (run : Run) → Legal run → IsLedger run.ledger → IsLedger (after run.ledger (changes_of run))
leaves-ledger run legal is = ledger-made run.ledger (changes_of run) is (leaves-made run legal is)
