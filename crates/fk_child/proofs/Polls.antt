-- How a child is polled.
use Rattle.std.proofs.Common.{◌≡◌, ◌≢◌, ℕ, ◌+◌, ◌≤◌, Bool, true, false, not, ◌||◌, cond, eqb, List, [], ◌∷◌, ◌++◌, length, map, get_or, Some, None, refl, sym, ap, ◌∙◌, subst, arith, append_assoc, append-nil}
use Rattle.std.specs.Prelude.{IsTrue}
use Rattle.std.specs.List.{All, AllPairs, Contains, cons_option, filter, list_any}
use Rattle.std.proofs.lemmas.List.{length-append, map-id}
use Rattle.std.proofs.lemmas.List.Elements.{All-contains, All-append, All-cons, All-head, All-nil, All-weaker, Contains-append_right, Contains-get_or}
use Rattle.std.proofs.lemmas.List.Folds.{list_any-append}
use Rattle.std.proofs.lemmas.List.Quantifiers.{all_pairs_push}
use Rattle.std.proofs.lemmas.Bool.{eqb-false}
use Rattle.std.proofs.lemmas.Bool.Decides.{nat_tests}
use Rattle.fk_base.specs.declared.purpose.Purpose.{Purpose}
use Rattle.fk_base.specs.declared.purpose.Purpose.TheVariants.{Open, Close}
use Rattle.fk_trace.specs.declared.change.OpenRecord.{OpenRecord}
use Rattle.fk_trace.specs.declared.change.Change.{Change}
use Rattle.fk_trace.specs.Trace.{Event, Item, Child, children, running, open_runs}
use Rattle.fk_trace.specs.Trace.Event.{Ended, Runs, PollFailed}
use Rattle.fk_trace.specs.Idle.{child_numbered, is_clean, moments_with}
use Rattle.fk_trace.specs.Orderly.{is_attempted}
use Rattle.fk_trace.specs.Ledger.{live}
use Rattle.fk_trace.specs.Settled.{settled_by, settled_in}
use Rattle.fk_trace.specs.Attempts.{IsPollOf}
use Rattle.fk_trace.proofs.Lists.{Contains-head, Contains-map, list_any-none, filter-map, map-step}
use Rattle.fk_trace.proofs.Ledgers.{filter-filter}
use Rattle.fk_trace.proofs.Running.{orderly-quiet, child_numbered-running}
use Rattle.fk_run.specs.Place.{Place, behind}
use Rattle.fk_cycle.specs.declared.act.Act.{Act}
use Rattle.fk_cycle.specs.declared.act.Act.TheVariants as act
use Rattle.fk_cycle.specs.Acts.{act_at, owed_after}
use Rattle.fk_cycle.specs.Kept.{Kept, has_running}
use Rattle.fk_cycle.specs.Stands.{Obligation, Stands, kept_of, record_of, is_owed}
use Rattle.fk_cycle.proofs.StandsLemmas.{runs-kept}
use Rattle.fk_host.specs.Disk.{Above, IfTold}
use Rattle.fk_host.specs.Host.{Brings, above_after, is_running}
use Rattle.fk_ledger.specs.Book.{live_ids}
use Rattle.fk_child.specs.declared.items.PollEnd.TheVariants.{Good, Bad, Failed as FailedPoll}
use Rattle.fk_child.specs.View.{View}
use Rattle.fk_child.specs.Crew.{CrewState, IsTied, obligation_of, obligations_but}
use Rattle.fk_child.specs.Calls.{ends_in}
use Rattle.fk_child.specs.Private.{settled_of, StandsPolling, PollsOne}
use Rattle.fk_child.proofs.Counts.{few}
use Rattle.fk_child.proofs.Records.{owed-live}
use Rattle.fk_child.proofs.Ties.{with_host, item_after, tied-same, tied-ended, goes-item}

-- a poll that ends no child tells the machine nothing
stands-runs : (kept : List Kept) (past : List Item) (ends : List ℕ) (live : List Obligation) → Stands kept past ends live → (number moments faults : ℕ)
    → Stands kept (record { event = Runs number; moments = moments; faults = faults } ∷ past) ends live
stands-runs kept past ends live stands number moments faults = record {
  orderly = orderly-quiet past (record { event = Runs number; moments = moments; faults = faults }) (append-nil (children past)) (append-nil (running past)) stands.orderly;
  moments = stands.moments ∙ omega arith;
  distinct = stands.distinct;
  kept = stands.kept ∙ sym (map-step (kept_of (record { event = Runs number; moments = moments; faults = faults } ∷ past) ends) (kept_of past ends) (λ k. k) live (λ owed m. rw append-nil refl) ∙ map-id (map (kept_of past ends) live));
  held = rw append-nil stands.held;
  parted = stands.parted;
}

stands-failed : (kept : List Kept) (past : List Item) (ends : List ℕ) (live : List Obligation) → Stands kept past ends live → (number moments faults : ℕ)
    → Stands kept (record { event = PollFailed number; moments = moments; faults = faults } ∷ past) ends live
stands-failed kept past ends live stands number moments faults = record {
  orderly = orderly-quiet past (record { event = PollFailed number; moments = moments; faults = faults }) (append-nil (children past)) (append-nil (running past)) stands.orderly;
  moments = stands.moments ∙ omega arith;
  distinct = stands.distinct;
  kept = stands.kept ∙ sym (map-step (kept_of (record { event = PollFailed number; moments = moments; faults = faults } ∷ past) ends) (kept_of past ends) (λ k. k) live (λ owed m. rw append-nil refl) ∙ map-id (map (kept_of past ends) live));
  held = rw append-nil stands.held;
  parted = stands.parted;
}

eqb_swap : (a b : ℕ) → eqb a b ≡ eqb b a
eqb_swap a b = grind (arith, nat_tests)

or_false : (b : Bool) → (b || false) ≡ b
or_false true = refl
or_false false = refl

-- what is owed after an end
owed_after-but : (done : Act) (unsettled : List ℕ) (ledger : List Change) → owed_after done (obligations_but unsettled ledger) ≡ obligations_but (unsettled ++ settled_of done) ledger
owed_after-but act.Nothing unsettled ledger = ap (λ (ids : List ℕ). obligations_but ids ledger) (sym (append-nil unsettled))
owed_after-but act.Wait unsettled ledger = ap (λ (ids : List ℕ). obligations_but ids ledger) (sym (append-nil unsettled))
owed_after-but (act.Settle id) unsettled ledger =
    let among : OpenRecord → Bool = λ item. list_any (λ other. eqb other item.id) unsettled in
    let this : OpenRecord → Bool = λ item. eqb item.id id in
    let among' : OpenRecord → Bool = λ item. list_any (λ other. eqb other item.id) (unsettled ++ id ∷ []) in
    filter-map obligation_of (λ (o : Obligation). not (eqb o.id id)) (filter (λ item. not (among item)) (live ledger))
    ∙ ap (map obligation_of) (sym (filter-filter among this among' (λ item.
    list_any-append (λ other. eqb other item.id) unsettled (id ∷ []) ∙ ap (λ b. among item || b) (or_false (eqb id item.id) ∙ eqb_swap id item.id)) (live ledger)))

-- a record that an end settles is one that was owed
settles-owed : (past : List Item) (number : ℕ) (purpose : Purpose) (good : Bool) (owed : List Obligation) → is_owed owed (record_of purpose) ≡ true
    → All (λ id. is_owed owed id ≡ true) (settled_of (act_at past number purpose good))
settles-owed past number (Open id) good owed h = All-nil (λ (n : ℕ). is_owed owed n ≡ true)
settles-owed past number (Close id) good owed h =
    let P : Act → Type 0 = λ a. All (λ (n : ℕ). is_owed owed n ≡ true) (settled_of a) in
    let none : All (λ (n : ℕ). is_owed owed n ≡ true) [] = All-nil (λ (n : ℕ). is_owed owed n ≡ true) in
    let one : All (λ (n : ℕ). is_owed owed n ≡ true) (id ∷ []) = All-cons (λ (n : ℕ). is_owed owed n ≡ true) id [] h none in
    let clean : Bool = is_clean past number id in
    let opens : Bool = open_runs past id in
    elim good as (λ g. P (cond g (cond clean (act.Settle id) (cond opens act.Wait act.Nothing)) act.Nothing)) [
      | true ↦ elim clean as (λ b. P (cond b (act.Settle id) (cond opens act.Wait act.Nothing))) [
        | true ↦ one
        | false ↦ elim opens as (λ b. P (cond b act.Wait act.Nothing)) [ true ↦ none | false ↦ none ]
      ]
      | false ↦ none
    ]

-- it is the one that the items say to settle
settles-same : (past : List Item) (number : ℕ) (purpose : Purpose) (good : Bool) → cons_option (cond good (settled_by past number purpose) None) [] ≡ settled_of (act_at past number purpose good)
settles-same past number (Open id) good = elim good as (λ g. cons_option {X = ℕ} (cond g None None) [] ≡ []) [ true ↦ refl | false ↦ refl ]
settles-same past number (Close id) good =
    let clean : Bool = is_clean past number id in
    let opens : Bool = open_runs past id in
    elim good as (λ g. cons_option (cond g (cond clean (Some id) None) None) [] ≡ settled_of (cond g (cond clean (act.Settle id) (cond opens act.Wait act.Nothing)) act.Nothing)) [
      | true ↦ elim clean as (λ b. cons_option (cond b (Some id) None) [] ≡ settled_of (cond b (act.Settle id) (cond opens act.Wait act.Nothing))) [
        | true ↦ refl
        | false ↦ elim opens as (λ b. [] ≡ settled_of (cond b act.Wait act.Nothing)) [ true ↦ refl | false ↦ refl ]
      ]
      | false ↦ refl
    ]

once-more : (done : Act) (unsettled : List ℕ) → AllPairs (λ a b. a ≢ b) unsettled → All (λ id. list_any (λ other. eqb other id) unsettled ≡ false) (settled_of done)
    → AllPairs (λ a b. a ≢ b) (unsettled ++ settled_of done)
once-more act.Nothing unsettled once new = rw append-nil once
once-more act.Wait unsettled once new = rw append-nil once
once-more (act.Settle id) unsettled once new =
    let none = All-head (λ (n : ℕ). list_any (λ other. eqb other n) unsettled ≡ false) id [] new in
    all_pairs_push (λ a b. a ≢ b) unsettled id once (λ k d l. eqb-false (get_or unsettled k d) id (list_any-none (λ other. eqb other id) unsettled none (get_or unsettled k d) (Contains-get_or unsettled k d l)))

-- what is yet to be settled is no more than what is live
few-settles : (unsettled : List ℕ) (ledger : List Change) → All (Contains (live_ids ledger)) unsettled → AllPairs (λ a b. a ≢ b) unsettled → length unsettled ≤ length (live_ids ledger)
few-settles unsettled ledger waits once = few unsettled (live_ids ledger) once (λ n m. All-contains (Contains (live_ids ledger)) unsettled n waits m)

module _ (moment : ℕ) (place : Place) (child : Child) (rest found : List Child) (crew : CrewState) (old : View) (stands : StandsPolling (child ∷ rest) found (with_host crew old) place) where
  abbrev pub queued : CrewState
  queued = record crew { children = found ++ child ∷ rest }

  pub tied : IsTied queued old.above place
  tied = stands.stands.tied

  pub among : Contains (running place.past) child
  among = subst (λ (cs : List Child). Contains cs child) tied.runs (Contains-append_right found (child ∷ rest) child (Contains-head child rest))

  -- the child may be polled
  pub may-poll : IsTrue (is_running child.number old.above)
  may-poll = All-contains (λ (c : Child). IsTrue (is_running c.number old.above)) (running place.past) child tied.known among

  -- the machine has it
  pub is-kept : list_any (has_running child.purpose) crew.kept ≡ true
  is-kept = runs-kept crew.kept place.past place.ends (obligations_but crew.unsettled place.ledger) tied.stands child among

  named : child_numbered child.number place.past ≡ Some child
  named = child_numbered-running place.past tied.stands.orderly child among

  polls-quiet : (event : Event) (crew' : CrewState) (new : View)
      → IfTold old.told new.told (Brings (Some event) new.faults old.images new.images) → new.faults ≡ old.faults
      → new.above.running ≡ old.above.running → new.above.last_child ≡ old.above.last_child
      → children (item_after event new ∷ place.past) ≡ children place.past → running (item_after event new ∷ place.past) ≡ running place.past
      → ((id : ℕ) → is_attempted (item_after event new ∷ place.past) id ≡ is_attempted place.past id)
      → IsPollOf child event
      → Stands crew.kept (item_after event new ∷ place.past) (moments_with moment event place.ends) (obligations_but crew.unsettled place.ledger)
      → crew'.owed ≡ crew.owed → crew'.kept ≡ crew.kept → crew'.unsettled ≡ crew.unsettled → crew'.children ≡ rest ++ (found ++ child ∷ [])
      → crew'.ends ≡ crew.ends ++ ends_in place.past (item_after event new ∷ []) → settled_in place.past (item_after event new ∷ []) ≡ []
      → PollsOne moment child rest place (with_host crew old) (with_host crew' new)
  polls-quiet event crew' new call disk host_run host_last begun run unused polled tells owes keeps waits holds ends none =
      let queued' : CrewState = record crew' { children = (found ++ child ∷ []) ++ rest } in
      let tied' : IsTied queued' new.above (behind moment place (item_after event new ∷ [])) =
      tied-same queued queued' old.above new.above moment place (item_after event new) begun run host_run host_last owes (append_assoc found (child ∷ []) rest) waits
      (rw keeps tells) (λ id next. unused id ∙ tied.unused id next) tied in
      let goes = goes-item event moment place queued queued' old new call disk stands.stands tied' in
      record {
        item = item_after event new;
        polled = polled;
        calls = goes.calls;
        adds = goes.adds;
        selects = goes.selects;
        disk = disk;
        found = found ++ child ∷ [];
        stands = record { queue = holds; stands = goes.stands };
        ends = ends;
        unsettled = waits ∙ sym (ap (λ (ids : List ℕ). crew.unsettled ++ ids) none ∙ append-nil crew.unsettled);
      }

  pub polls-runs : (crew' : CrewState) (new : View)
      → IfTold old.told new.told (Brings (Some (Runs child.number)) new.faults old.images new.images) → new.faults ≡ old.faults
      → new.above ≡ above_after (Runs child.number) old.above
      → crew'.owed ≡ crew.owed → crew'.kept ≡ crew.kept → crew'.unsettled ≡ crew.unsettled → crew'.children ≡ rest ++ (found ++ child ∷ []) → crew'.ends ≡ crew.ends
      → PollsOne moment child rest place (with_host crew old) (with_host crew' new)
  polls-runs crew' new call disk above owes keeps waits holds ends =
      polls-quiet (Runs child.number) crew' new call disk (ap (λ (a : Above). a.running) above ∙ append-nil old.above.running) (ap (λ (a : Above). a.last_child) above)
      (append-nil (children place.past)) (append-nil (running place.past)) (λ id. refl) refl
      (stands-runs crew.kept place.past place.ends (obligations_but crew.unsettled place.ledger) tied.stands child.number _ _)
      owes keeps waits holds (ends ∙ sym (append-nil crew.ends)) refl

  pub polls-failed : (crew' : CrewState) (new : View)
      → IfTold old.told new.told (Brings (Some (PollFailed child.number)) new.faults old.images new.images) → new.faults ≡ old.faults
      → new.above ≡ above_after (PollFailed child.number) old.above
      → crew'.owed ≡ crew.owed → crew'.kept ≡ crew.kept → crew'.unsettled ≡ crew.unsettled → crew'.children ≡ rest ++ (found ++ child ∷ [])
      → crew'.ends ≡ crew.ends ++ record { purpose = child.purpose; end = FailedPoll } ∷ []
      → PollsOne moment child rest place (with_host crew old) (with_host crew' new)
  polls-failed crew' new call disk above owes keeps waits holds ends =
      polls-quiet (PollFailed child.number) crew' new call disk (ap (λ (a : Above). a.running) above ∙ append-nil old.above.running) (ap (λ (a : Above). a.last_child) above)
      (append-nil (children place.past)) (append-nil (running place.past)) (λ id. refl) refl
      (stands-failed crew.kept place.past place.ends (obligations_but crew.unsettled place.ledger) tied.stands child.number _ _)
      owes keeps waits holds (rw named ends) refl

  module _ (good : Bool) (done : Act) (acts : done ≡ act_at place.past child.number child.purpose good) where
    settled-owed : All (λ id. is_owed (obligations_but crew.unsettled place.ledger) id ≡ true) (settled_of done)
    settled-owed = subst (λ (a : Act). All (λ (n : ℕ). is_owed (obligations_but crew.unsettled place.ledger) n ≡ true) (settled_of a)) (sym acts)
        (settles-owed place.past child.number child.purpose good (obligations_but crew.unsettled place.ledger)
        (All-contains (λ (c : Child). is_owed (obligations_but crew.unsettled place.ledger) (record_of c.purpose) ≡ true) (running place.past) child tied.stands.held among))

    waits-more : All (Contains (live_ids place.ledger)) (crew.unsettled ++ settled_of done)
    waits-more = All-append (Contains (live_ids place.ledger)) crew.unsettled (settled_of done) tied.waits
        (All-weaker (λ (n : ℕ). is_owed (obligations_but crew.unsettled place.ledger) n ≡ true) (Contains (live_ids place.ledger)) (λ n h.
        let at = owed-live crew.unsettled place.ledger n h in
        subst (Contains (live_ids place.ledger)) at.2 (Contains-map (λ (item : OpenRecord). item.id) (live place.ledger) at.0 at.1)) (settled_of done) settled-owed)

    once-still : AllPairs (λ a b. a ≢ b) (crew.unsettled ++ settled_of done)
    once-still = once-more done crew.unsettled tied.once
        (All-weaker (λ (n : ℕ). is_owed (obligations_but crew.unsettled place.ledger) n ≡ true) (λ (n : ℕ). list_any (λ other. eqb other n) crew.unsettled ≡ false)
        (λ n h. (owed-live crew.unsettled place.ledger n h).3) (settled_of done) settled-owed)

    -- there is room for it
    pub end-fits : length crew.unsettled + length (settled_of done) ≤ length crew.owed
    end-fits =
        let least = few-settles (crew.unsettled ++ settled_of done) place.ledger waits-more once-still in
        let joined = length-append crew.unsettled (settled_of done) in
        let owes = ap length tied.owes in
        omega arith

    pub polls-ended : (crew' : CrewState) (new : View)
        → IfTold old.told new.told (Brings (Some (Ended child.number good)) new.faults old.images new.images) → new.faults ≡ old.faults
        → new.above ≡ above_after (Ended child.number good) old.above
        → Stands crew'.kept (item_after (Ended child.number good) new ∷ place.past) (moment ∷ place.ends) (owed_after done (obligations_but crew.unsettled place.ledger))
        → crew'.owed ≡ crew.owed → crew'.unsettled ≡ crew.unsettled ++ settled_of done → crew'.children ≡ rest ++ found
        → crew'.ends ≡ crew.ends ++ record { purpose = child.purpose; end = cond good Good Bad } ∷ []
        → PollsOne moment child rest place (with_host crew old) (with_host crew' new)
    polls-ended crew' new call disk above tells owes waits holds ends =
        let queued' : CrewState = record crew' { children = found ++ rest } in
        let item : Item = item_after (Ended child.number good) new in
        let tells' : Stands crew'.kept (item ∷ place.past) (moment ∷ place.ends) (obligations_but crew'.unsettled place.ledger) =
        rw waits (subst (λ (l : List Obligation). Stands crew'.kept (item ∷ place.past) (moment ∷ place.ends) l) (owed_after-but done crew.unsettled place.ledger) tells) in
        let tied' : IsTied queued' new.above (behind moment place (item ∷ [])) =
        subst (λ (a : Above). IsTied queued' a (behind moment place (item ∷ []))) (sym above)
        (tied-ended queued queued' old.above moment place child.number child.purpose good _ _ found rest (sym tied.runs) owes refl tells' (rw waits waits-more) (rw waits once-still) tied) in
        let goes = goes-item (Ended child.number good) moment place queued queued' old new call disk stands.stands tied' in
        record {
          item = item;
          polled = refl;
          calls = goes.calls;
          adds = goes.adds;
          selects = goes.selects;
          disk = disk;
          found = found;
          stands = record { queue = holds; stands = goes.stands };
          ends = rw named ends;
          unsettled = waits ∙ ap (λ (ids : List ℕ). crew.unsettled ++ ids) (ap settled_of acts ∙ sym (settles-same place.past child.number child.purpose good) ∙ rw named refl);
        }
