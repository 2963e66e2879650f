-- How the tie of a crew to a place goes on over one item more.
use Rattle.std.proofs.Common.{◌≡◌, ◌≢◌, ℕ, ◌<◌, ◌≤◌, Bool, true, false, not, eqb, List, [], ◌∷◌, ◌++◌, get_or, Some, None, refl, sym, ap, ◌∙◌, subst, arith, append-nil, inl, inr}
use Rattle.std.specs.Prelude.{IsTrue, is_some}
use Rattle.std.specs.List.{All, AllPairs, Contains, filter, list_any}
use Rattle.std.proofs.lemmas.List.Elements.{All-append, All-push, All-weaker, All-contains, Contains-get_or, Contains-append_cases, Contains-append_left, Contains-append_right}
use Rattle.std.proofs.lemmas.List.Folds.{list_any-append}
use Rattle.std.proofs.lemmas.List.Kept.{AllPairs-filter}
use Rattle.std.proofs.lemmas.List.Quantifiers.{all_pairs_push}
use Rattle.std.proofs.lemmas.Bool.{or_left, or_right, eq-eqb, ne_eqb, eqb-true}
use Rattle.fk_base.specs.declared.purpose.Purpose.{Purpose}
use Rattle.fk_trace.specs.Trace.{Event, Item, Child, children, running, still_running, begun_by}
use Rattle.fk_trace.specs.Trace.Event.{Turn, Began, StartFailed, Ended, Runs, PollFailed}
use Rattle.fk_trace.specs.Ledger.{next_id}
use Rattle.fk_trace.specs.Orderly.{is_attempted, is_of_record}
use Rattle.fk_trace.specs.Idle.{moments_with}
use Rattle.fk_trace.proofs.Lists.{list_any-find, find-filter_kept, All-by, Contains-tail}
use Rattle.fk_trace.proofs.Running.{running-children}
use Rattle.fk_trace.proofs.Splits.{AllPairs-front}
use Rattle.fk_run.specs.Place.{Place, behind}
use Rattle.fk_cycle.specs.Stands.{Stands}
use Rattle.fk_host.specs.Disk.{Above, IfTold}
use Rattle.fk_host.specs.Host.{Brings, above_after, is_running}
use Rattle.fk_ledger.specs.Book.{live_ids}
use Rattle.fk_child.specs.View.{View}
use Rattle.fk_child.specs.Crew.{CrewState, CrewHost, IsTied, StandsAt, obligations_but}
use Rattle.fk_child.specs.Calls.{Goes, MarksTurn}
use Rattle.fk_child.proofs.Pieces.{pairs-before, pairs-behind, filter-but}
use Rattle.fk_child.proofs.Images.{moment_of, adds-brought, selects-brought, calls-once, told-keeps}

-- the crew with this host
abbrev pub with_host : CrewState → View → CrewHost
with_host crew host = record { crew = crew; host = host }

-- the item of an event after a call that left this
abbrev pub item_after : Event → View → Item
item_after event view = record { event = event; moments = moment_of view.told; faults = view.faults }

-- an item that begins and ends no child
pub tied-same : (crew crew' : CrewState) (above above' : Above) (moment : ℕ) (place : Place) (item : Item)
    → children (item ∷ place.past) ≡ children place.past → running (item ∷ place.past) ≡ running place.past
    → above'.running ≡ above.running → above'.last_child ≡ above.last_child
    → crew'.owed ≡ crew.owed → crew'.children ≡ crew.children → crew'.unsettled ≡ crew.unsettled
    → Stands crew'.kept (item ∷ place.past) (moments_with moment item.event place.ends) (obligations_but crew.unsettled place.ledger)
    → ((id : ℕ) → next_id place.ledger ≤ id → is_attempted (item ∷ place.past) id ≡ false)
    → IsTied crew above place → IsTied crew' above' (behind moment place (item ∷ []))
tied-same crew crew' above above' moment place item begun run host_run host_last owes holds waits stands unused tied = record {
  owes = owes ∙ tied.owes;
  runs = holds ∙ tied.runs ∙ sym run;
  stands = rw waits stands;
  waits = rw waits tied.waits;
  once = rw waits tied.once;
  unused = unused;
  known = rw (run, host_run) tied.known;
  below = rw (begun, host_last) tied.below;
}

runs-more : (cs : List Child) (child : Child) (number : ℕ) → list_any (λ c. eqb c.number number) cs ≡ true → list_any (λ c. eqb c.number number) (cs ++ child ∷ []) ≡ true
runs-more cs child number h =
    list_any-append (λ (c : Child). eqb c.number number) cs (child ∷ []) ∙ or_left (list_any (λ (c : Child). eqb c.number number) cs) (list_any (λ (c : Child). eqb c.number number) (child ∷ [])) h

runs-last : (cs : List Child) (child : Child) → list_any (λ c. eqb c.number child.number) (cs ++ child ∷ []) ≡ true
runs-last cs child =
    list_any-append (λ (c : Child). eqb c.number child.number) cs (child ∷ [])
    ∙ or_right (list_any (λ (c : Child). eqb c.number child.number) cs) (list_any (λ (c : Child). eqb c.number child.number) (child ∷ [])) (or_left (eqb child.number child.number) false (eq-eqb child.number child.number refl))

-- a child that began
pub tied-began : (crew crew' : CrewState) (above : Above) (moment : ℕ) (place : Place) (number : ℕ) (purpose : Purpose) (words : List (List ℕ)) (moments faults : ℕ)
    → above.last_child < number
    → crew'.owed ≡ crew.owed → crew'.children ≡ crew.children ++ record { number = number; purpose = purpose } ∷ [] → crew'.unsettled ≡ crew.unsettled
    → Stands crew'.kept (record { event = Began number purpose words; moments = moments; faults = faults } ∷ place.past) place.ends (obligations_but crew.unsettled place.ledger)
    → ((id : ℕ) → next_id place.ledger ≤ id → is_of_record id purpose ≡ false)
    → IsTied crew above place
    → IsTied crew' (above_after (Began number purpose words) above) (behind moment place (record { event = Began number purpose words; moments = moments; faults = faults } ∷ []))
tied-began crew crew' above moment place number purpose words moments faults above_last owes holds waits stands other tied =
    let child : Child = record { number = number; purpose = purpose } in
    record {
      owes = owes ∙ tied.owes;
      runs = holds ∙ ap (λ (cs : List Child). cs ++ child ∷ []) tied.runs;
      stands = rw waits stands;
      waits = rw waits tied.waits;
      once = rw waits tied.once;
      unused = λ id next. rw (other id next) (tied.unused id next);
      known = All-push (λ (c : Child). IsTrue (is_running c.number (above_after (Began number purpose words) above))) (running place.past) child
          (All-weaker (λ (c : Child). IsTrue (is_running c.number above)) (λ (c : Child). IsTrue (is_running c.number (above_after (Began number purpose words) above)))
          (λ c h. runs-more above.running child c.number h) (running place.past) tied.known)
          (runs-last above.running child);
      below = All-push (λ (c : Child). c.number ≤ number) (children place.past) child
          (All-weaker (λ (c : Child). c.number ≤ above.last_child) (λ (c : Child). c.number ≤ number) (λ c h. omega arith) (children place.past) tied.below)
          (omega arith);
    }

-- a child of this number doesn't run any more
abbrev is_other : ℕ → Child → Bool
is_other number child = not (eqb child.number number)

rising-item : (event : Event) (past : List Item) → AllPairs (λ (a b : Child). a.number < b.number) (running past)
    → AllPairs (λ (a b : Child). a.number < b.number) (children past ++ begun_by event) → AllPairs (λ (a b : Child). a.number < b.number) (still_running event (running past) ++ begun_by event)
rising-item (Turn number) past run all = rw append-nil run
rising-item (Began number purpose words) past run all =
    let child : Child = record { number = number; purpose = purpose } in
    let below = pairs-before (λ (a b : Child). a.number < b.number) (children past) child [] all in
    all_pairs_push (λ (a b : Child). a.number < b.number) (running past) child run
    (λ k d l. All-contains (λ (c : Child). c.number < number) (children past) (get_or (running past) k d) below (running-children past (get_or (running past) k d) (Contains-get_or (running past) k d l)))
rising-item (StartFailed purpose words) past run all = rw append-nil run
rising-item (Ended number good) past run all = rw append-nil (AllPairs-filter (λ (a b : Child). a.number < b.number) (is_other number) (running past) run)
rising-item (Runs number) past run all = rw append-nil run
rising-item (PollFailed number) past run all = rw append-nil run

-- the children that run are numbered by rising number
pub running-rising : (past : List Item) → AllPairs (λ (a b : Child). a.number < b.number) (children past) → AllPairs (λ (a b : Child). a.number < b.number) (running past)
running-rising [] rising = rising
running-rising (item ∷ past) rising =
    rising-item item.event past (running-rising past (AllPairs-front (λ (a b : Child). a.number < b.number) (children past) _ rising)) rising

Contains-without : (a b : List Child) (c x : Child) {xs : List Child} → Contains (a ++ b) x → xs ≡ a ++ c ∷ b → Contains xs x
Contains-without a b c x m split =
    subst (λ (cs : List Child). Contains cs x) (sym split)
    (elim (Contains-append_cases a b x m) [
      | inl n ↦ Contains-append_left a (c ∷ b) x n
      | inr n ↦ Contains-append_right a (c ∷ b) x (Contains-tail c b x n)
    ])

module _ (past : List Item) (number : ℕ) (purpose : Purpose) (found rest : List Child)
    (rising : AllPairs (λ (a b : Child). a.number < b.number) (running past))
    (split : running past ≡ found ++ record { number = number; purpose = purpose } ∷ rest) where
  others-found : All (λ c. is_other number c ≡ true) found
  others-found =
      let before = pairs-before (λ (a b : Child). a.number < b.number) found (record { number = number; purpose = purpose }) rest (subst (λ (cs : List Child). AllPairs (λ (a b : Child). a.number < b.number) cs) split rising) in
      All-weaker (λ (c : Child). c.number < number) (λ (c : Child). is_other number c ≡ true) (λ c l. ap not (ne_eqb c.number number (λ e. absurd (omega arith)))) found before

  others-rest : All (λ c. is_other number c ≡ true) rest
  others-rest =
      let behind_it = pairs-behind (λ (a b : Child). a.number < b.number) found (record { number = number; purpose = purpose }) rest (subst (λ (cs : List Child). AllPairs (λ (a b : Child). a.number < b.number) cs) split rising) in
      All-weaker (λ (c : Child). number < c.number) (λ (c : Child). is_other number c ≡ true) (λ c l. ap not (ne_eqb c.number number (λ e. absurd (omega arith)))) rest behind_it

  -- where the child ends, the others run on
  pub others-run : filter (is_other number) (running past) ++ [] ≡ found ++ rest
  others-run =
      append-nil (filter (is_other number) (running past)) ∙ ap (filter (is_other number)) split
      ∙ filter-but (is_other number) found (record { number = number; purpose = purpose }) rest others-found (ap not (eq-eqb number number refl)) others-rest

  pub others-known : (above : Above) (good : Bool) → All (λ child. IsTrue (is_running child.number above)) (running past)
      → All (λ child. IsTrue (is_running child.number (above_after (Ended number good) above))) (found ++ rest)
  others-known above good known = All-by (λ (c : Child). IsTrue (is_running c.number (above_after (Ended number good) above))) (found ++ rest) (λ c m.
      let is : is_other number c ≡ true = All-contains (λ (x : Child). is_other number x ≡ true) (found ++ rest) c (All-append (λ (x : Child). is_other number x ≡ true) found rest others-found others-rest) m in
      let among : Contains (running past) c = Contains-without found rest (record { number = number; purpose = purpose }) c m split in
      let was = All-contains (λ (x : Child). IsTrue (is_running x.number above)) (running past) c known among in
      let kept = find-filter_kept (λ (x : Child). eqb x.number c.number) (is_other number) above.running (λ x k t. let e = eqb-true x.number c.number t in subst (λ (n : ℕ). not (eqb n number) ≡ true) (sym e) is) in
      ap (list_any (λ (x : Child). eqb x.number c.number)) (append-nil (filter (is_other number) above.running))
      ∙ list_any-find (λ (x : Child). eqb x.number c.number) (filter (is_other number) above.running) ∙ ap is_some kept ∙ sym (list_any-find (λ (x : Child). eqb x.number c.number) above.running) ∙ was)

-- a child that ended
pub tied-ended : (crew crew' : CrewState) (above : Above) (moment : ℕ) (place : Place) (number : ℕ) (purpose : Purpose) (good : Bool) (moments faults : ℕ) (found rest : List Child)
    → running place.past ≡ found ++ record { number = number; purpose = purpose } ∷ rest
    → crew'.owed ≡ crew.owed → crew'.children ≡ found ++ rest
    → Stands crew'.kept (record { event = Ended number good; moments = moments; faults = faults } ∷ place.past) (moment ∷ place.ends) (obligations_but crew'.unsettled place.ledger)
    → All (Contains (live_ids place.ledger)) crew'.unsettled → AllPairs (λ a b. a ≢ b) crew'.unsettled
    → IsTied crew above place
    → IsTied crew' (above_after (Ended number good) above) (behind moment place (record { event = Ended number good; moments = moments; faults = faults } ∷ []))
tied-ended crew crew' above moment place number purpose good moments faults found rest split owes holds stands waits once tied =
    let rising = running-rising place.past tied.stands.orderly.numbered in
    let run = others-run place.past number purpose found rest rising split in
    record {
      owes = owes ∙ tied.owes;
      runs = holds ∙ sym run;
      stands = stands;
      waits = waits;
      once = once;
      unused = tied.unused;
      known = rw run (others-known place.past number purpose found rest rising split above good tied.known);
      below = rw append-nil tied.below;
    }

-- a call above the disk goes from one place to the next
pub goes-item : (event : Event) (moment : ℕ) (place : Place) (crew crew' : CrewState) (old new : View)
    → IfTold old.told new.told (Brings (Some event) new.faults old.images new.images) → new.faults ≡ old.faults
    → StandsAt (with_host crew old) place → IsTied crew' new.above (behind moment place (item_after event new ∷ []))
    → Goes 1 moment place (item_after event new ∷ []) (with_host crew old) (with_host crew' new)
goes-item event moment place crew crew' old new call disk stands tied = record {
  calls = calls-once (Some event) old new call;
  adds = adds-brought (Some event) place.ledger old new call disk stands.keeps;
  selects = selects-brought (Some event) old new call;
  disk = disk;
  stands = record { tied = tied; keeps = told-keeps (Some event) new.faults place.ledger old.images new.images old.told new.told call stands.keeps };
}

pub goes-nothing : (moment : ℕ) (place : Place) (crew crew' : CrewState) (old new : View)
    → IfTold old.told new.told (Brings None new.faults old.images new.images) → new.faults ≡ old.faults
    → StandsAt (with_host crew old) place → IsTied crew' new.above place
    → Goes 1 moment place [] (with_host crew old) (with_host crew' new)
goes-nothing moment place crew crew' old new call disk stands tied = record {
  calls = calls-once None old new call;
  adds = adds-brought None place.ledger old new call disk stands.keeps;
  selects = selects-brought None old new call;
  disk = disk;
  stands = record { tied = tied; keeps = told-keeps None new.faults place.ledger old.images new.images old.told new.told call stands.keeps };
}

-- a turn is marked
pub marks-turn : (number : ℕ) (place : Place) (crew crew' : CrewState) (old new : View)
    → IfTold old.told new.told (Brings (Some (Turn number)) new.faults old.images new.images) → new.faults ≡ old.faults
    → new.above ≡ above_after (Turn number) old.above
    → crew'.owed ≡ crew.owed → crew'.children ≡ crew.children → crew'.unsettled ≡ crew.unsettled
    → Stands crew'.kept (item_after (Turn number) new ∷ place.past) place.ends (obligations_but crew.unsettled place.ledger)
    → StandsAt (with_host crew old) place
    → MarksTurn number place (with_host crew old) (with_host crew' new)
marks-turn number place crew crew' old new call disk above owes holds waits stands at = record {
  item = item_after (Turn number) new;
  event = refl;
  goes = λ moment. goes-item (Turn number) moment place crew crew' old new call disk at
      (tied-same crew crew' old.above new.above moment place (item_after (Turn number) new) (append-nil (children place.past)) (append-nil (running place.past))
      (ap (λ (a : Above). a.running) above ∙ append-nil old.above.running) (ap (λ (a : Above). a.last_child) above) owes holds waits stands at.tied.unused at.tied);
}
