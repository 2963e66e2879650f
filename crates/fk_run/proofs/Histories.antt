-- What holds of every history: each run keeps the headline, no key is attempted twice, what is on the areas stays owed, and what each
-- run leaves is a ledger.
use Rattle.std.proofs.Common.{◌≡◌, ◌⊎◌, ℕ, List, [], ◌∷◌, ◌++◌, map, refl, sym, ap, ◌∙◌, subst, inl, inr, append_assoc}
use Rattle.std.specs.List.{AllZip, AllPairs, AllByRecursion, Contains, flat_map}
use Rattle.std.proofs.lemmas.List.{map-append}
use Rattle.std.proofs.lemmas.List.Elements.{Contains-append_left}
use Rattle.fk_trace.specs.declared.change.OpenRecord.{OpenRecord}
use Rattle.fk_trace.specs.declared.change.Change.{Change}
use Rattle.fk_trace.specs.Trace.{Item}
use Rattle.fk_trace.specs.Ledger.{Key, key_of, State, opens, live, after, state_of, Bars, IsLater, IsLedger}
use Rattle.fk_trace.specs.Settled.{EndedCleanly}
use Rattle.fk_trace.proofs.Lists.{Contains-head, Contains-tail, Contains-map, Contains-unmap}
use Rattle.fk_trace.proofs.Splits.{Contains-recursion, recursion-behind, recursion-joined, AllPairs-front}
use Rattle.fk_trace.proofs.Made.{AreMade, IsLive, Whatever, made-apart, made-fresh, made-barred, made-bars}
use Rattle.fk_run.specs.Run.{trace_of}
use Rattle.fk_run.specs.Headline.{OpensOnce, opens_attempted}
use Rattle.fk_run.specs.Left.{items_behind, crashed}
use Rattle.fk_run.specs.History.{Visit, IsVisit, IsHistory, FollowOn, left_in_the_end, trace_left, changes_left, ledger_left, OpensByGrantOnly, StartsAllThatIsOwed, ClosesAtFirstDue, AttemptsBelongTo, OpensOnceEver, IsOn, EndedIn, StaysOwed}
use Rattle.fk_run.proofs.Cutting.{split-at}
use Rattle.fk_run.proofs.Ledgers.{live-made, opened-made}
use Rattle.fk_run.proofs.Leaves.{leaves-ledger, leaves-made}
use Rattle.fk_run.proofs.Owed.{starts-owed, starts-first_due}
use Rattle.fk_run.proofs.Runs.{opens-run, once-run, made-run}
use Rattle.fk_run.proofs.Stays.{Stay, IsStay, StaysFollow, all_attempted, stays-fresh, stays-apart}

-- where a list is mapped to two parts, it has two parts itself
split-map : {X Y : Type 0} (f : X → Y) (xs : List X) (front back : List Y) → map f xs ≡ front ++ back → (items : List X) × (others : List X) × (xs ≡ items ++ others) × (map f items ≡ front)
split-map f xs [] back e = ([], xs, refl, refl)
split-map f [] (y ∷ front) back e = absurd cc
split-map f (x ∷ xs) (y ∷ front) back e =
    let rest = split-map f xs front back cc in
    let first : f x ≡ y = cc in
    let items = rest.2 in
    let more = rest.3 in
    (x ∷ rest.0, rest.1, cc, cc)

-- each record belongs to its own number
belong-each : (changes : List Change) (items : List OpenRecord) → ((item : OpenRecord) → Contains items item → Contains (opens changes) item)
    → AllZip (λ id item. (item.id ≡ id) × Contains (opens changes) item) (map (λ item. item.id) items) items
belong-each changes [] among = tt
belong-each changes (item ∷ items) among = ((refl, among item (Contains-head item items)), belong-each changes items (λ other m. among other (Contains-tail item items other m)))

-- the records that were attempted are the first of those that were left
record Attempted (visit : Visit) : Type 0 where
  items : List OpenRecord
  others : List OpenRecord
  parts : opens (changes_left visit) ≡ items ++ others
  ids : map (λ item. item.id) items ≡ opens_attempted (trace_left visit)

module _ (visit : Visit) (is : IsVisit visit) where
  -- the run as the crash cuts it is legal, so it leaves a ledger and opens each record once
  pub leaves-left : IsLedger (ledger_left visit)
  leaves-left = subst (λ (changes : List Change). IsLedger (after visit.run.ledger changes)) is.left.changes (leaves-ledger (crashed visit.run is.left.turns) is.left.legal is.ledger)

  once-left : OpensOnce (crashed visit.run is.left.turns)
  once-left = once-run (crashed visit.run is.left.turns) is.left.legal

  pub opens-left : OpensByGrantOnly visit
  opens-left = λ before item later id words e h.
      let behind : List Item = items_behind visit.moment (trace_of visit.run) in
      let all : trace_of visit.run ≡ before ++ item ∷ (later ++ behind) =
      split-at visit.moment (trace_of visit.run) is.rising ∙ ap (λ (items : List Item). items ++ behind) e ∙ append_assoc before (item ∷ later) behind in
      opens-run visit.run is.legal before item (later ++ behind) id words all h

  pub starts-left : StartsAllThatIsOwed visit
  starts-left = λ front taken whole. starts-owed visit.run is.legal front taken whole

  pub first_due-left : ClosesAtFirstDue visit
  first_due-left = λ front taken whole item first. starts-first_due visit.run is.legal is.ledger front taken whole item first

  -- the numbers of what was left
  ids-left : opens_attempted (trace_left visit) ++ once-left.unattempted ≡ map (λ item. item.id) (opens (changes_left visit))
  ids-left =
      ap (λ (items : List Item). opens_attempted items ++ once-left.unattempted) (sym is.left.items) ∙ once-left.attempted
      ∙ ap (λ (changes : List Change). map (λ (item : OpenRecord). item.id) (opens changes)) is.left.changes

  attempted : Attempted visit
  attempted =
      let split = split-map (λ (item : OpenRecord). item.id) (opens (changes_left visit)) (opens_attempted (trace_left visit)) once-left.unattempted (sym ids-left) in
      record { items = split.0; others = split.1; parts = split.2; ids = split.3 }

  belong-left : AttemptsBelongTo visit attempted.items
  belong-left =
      subst (λ (ids : List ℕ). AllZip (λ id item. (item.id ≡ id) × Contains (opens (changes_left visit)) item) ids attempted.items) attempted.ids
      (belong-each (changes_left visit) attempted.items
      (λ item m. subst (λ (items : List OpenRecord). Contains items item) (sym attempted.parts) (Contains-append_left attempted.items attempted.others item m)))

  -- what was left may be made over what was found
  pub made-left : AreMade Whatever visit.run.ledger (changes_left visit)
  made-left = subst (λ (changes : List Change). AreMade Whatever visit.run.ledger changes) is.left.changes (made-run (crashed visit.run is.left.turns) is.left.legal)

  -- the keys of all records that were left, in two parts
  keys-left : map key_of (opens (changes_left visit)) ≡ map key_of attempted.items ++ map key_of attempted.others
  keys-left = ap (map key_of) attempted.parts ∙ map-append key_of attempted.items attempted.others

  -- a record of a key that was attempted is among them
  record-left : (key : Key) → Contains (map key_of attempted.items) key → (item : OpenRecord) × Contains (opens (changes_left visit)) item × (key_of item ≡ key)
  record-left key m =
      let at = Contains-unmap key_of attempted.items key m in
      (at.0, subst (λ (items : List OpenRecord). Contains items at.0) (sym attempted.parts) (Contains-append_left attempted.items attempted.others at.0 at.1), at.2)

  abbrev stay : Stay
  stay = record { found = state_of visit.run.ledger; left = state_of (ledger_left visit); attempted = map key_of attempted.items }

  is-stay : IsStay stay
  is-stay =
      let mine : List Key = map key_of attempted.items in
      let others : List Key = map key_of attempted.others in
      record {
        apart = AllPairs-front IsLater mine others (subst (λ (keys : List Key). AllPairs IsLater keys) keys-left (made-apart Whatever visit.run.ledger (changes_left visit) made-left));
        fresh = λ key m barred.
            let at = record-left key m in
            made-fresh Whatever visit.run.ledger (changes_left visit) made-left at.0 at.1 (subst (λ (other : Key). Bars (state_of visit.run.ledger) other) (sym at.2) barred);
        barred = λ key m.
            let at = record-left key m in
            subst (λ (other : Key). Bars (state_of (ledger_left visit)) other) at.2 (made-barred Whatever visit.run.ledger (changes_left visit) made-left at.0 at.1);
        kept = λ key barred. made-bars Whatever visit.run.ledger (changes_left visit) made-left key barred;
      }

  -- and each Done of it is of a record that is live there
  ends-left : AreMade IsLive visit.run.ledger (changes_left visit)
  ends-left = subst (λ (changes : List Change). AreMade IsLive visit.run.ledger changes) is.left.changes (leaves-made (crashed visit.run is.left.turns) is.left.legal is.ledger)

  -- a record that was live when the run began, or that it made, is live in what was left, unless the run settled it
  pub stays-live : (item : OpenRecord) → Contains (live visit.run.ledger) item → Contains (live (ledger_left visit)) item ⊎ EndedCleanly [] (trace_left visit) item.id
  stays-live item m =
      elim (live-made IsLive visit.run.ledger (changes_left visit) ends-left item m) [
        | inl lives ↦ inl lives
        | inr settled ↦ inr (is.left.settled item.id settled)
      ]

  pub owed-left : (item : OpenRecord) → IsOn visit item → Contains (live (ledger_left visit)) item ⊎ EndedCleanly [] (trace_left visit) item.id
  owed-left item (inl lives) = stays-live item lives
  owed-left item (inr made) =
      elim (opened-made visit.run.ledger (changes_left visit) is.ledger ends-left item made) [
        | inl lives ↦ inl lives
        | inr settled ↦ inr (is.left.settled item.id settled)
      ]

-- the records and the stays of a history
abbrev attempts_of : (history : List Visit) → AllByRecursion IsVisit history → List (List OpenRecord)
attempts_of [] are = []
attempts_of (visit ∷ later) are = (attempted visit are.0).items ∷ attempts_of later are.1

abbrev stays_of : (history : List Visit) → AllByRecursion IsVisit history → List Stay
stays_of [] are = []
stays_of (visit ∷ later) are = stay visit are.0 ∷ stays_of later are.1

belong-all : (history : List Visit) (are : AllByRecursion IsVisit history) → AllZip AttemptsBelongTo history (attempts_of history are)
belong-all [] are = tt
belong-all (visit ∷ later) are = (belong-left visit are.0, belong-all later are.1)

keys-all : (history : List Visit) (are : AllByRecursion IsVisit history) → map key_of (flat_map (λ items. items) (attempts_of history are)) ≡ all_attempted (stays_of history are)
keys-all [] are = refl
keys-all (visit ∷ later) are =
    let mine : List OpenRecord = (attempted visit are.0).items in
    map-append key_of mine (flat_map (λ items. items) (attempts_of later are.1)) ∙ ap (λ (keys : List Key). map key_of mine ++ keys) (keys-all later are.1)

are-stays : (history : List Visit) (are : AllByRecursion IsVisit history) → AllByRecursion IsStay (stays_of history are)
are-stays [] are = tt
are-stays (visit ∷ later) are = (is-stay visit are.0, are-stays later are.1)

stays-follow : (found : List Change) (history : List Visit) (are : AllByRecursion IsVisit history) → FollowOn found history → StaysFollow (state_of found) (stays_of history are)
stays-follow found [] are follow = tt
stays-follow found (visit ∷ later) are follow = (follow.0, stays-follow (ledger_left visit) later are.1 follow.1)

-- over all runs no two open attempts belong to records of one key
pub once-history : (found : List Change) (history : List Visit) → IsHistory found history → OpensOnceEver found history
once-history found history is =
    let stays : List Stay = stays_of history is.visits in
    let all : AllByRecursion IsStay stays = are-stays history is.visits in
    let follow : StaysFollow (state_of found) stays = stays-follow found history is.visits is.follow in
    record {
      attempted = attempts_of history is.visits;
      belong = belong-all history is.visits;
      apart = subst (λ (keys : List Key). AllPairs IsLater keys) (sym (keys-all history is.visits)) (stays-apart (state_of found) stays all follow);
      fresh = λ item m.
          stays-fresh (state_of found) stays all follow (key_of item)
          (subst (λ (keys : List Key). Contains keys (key_of item)) (keys-all history is.visits) (Contains-map key_of (flat_map (λ items. items) (attempts_of history is.visits)) item m));
    }

-- what was live stays so in each later run, unless a clean close of it ended well
owed-later : (found : List Change) (between : List Visit) (next : Visit) (later : List Visit) → AllByRecursion IsVisit (between ++ next ∷ later) → FollowOn found (between ++ next ∷ later)
    → (item : OpenRecord) → Contains (live found) item → Contains (live next.run.ledger) item ⊎ EndedIn between item
owed-later found [] next later are follow item m = inl (subst (λ (state : State). Contains state.live item) (sym follow.0) m)
owed-later found (visit ∷ between) next later are follow item m =
    let here : Contains (live visit.run.ledger) item = subst (λ (state : State). Contains state.live item) (sym follow.0) m in
    elim (stays-live visit are.0 item here) [
      | inl lives ↦ elim (owed-later (ledger_left visit) between next later are.1 follow.1 item lives) [
        | inl still ↦ inl still
        | inr ended ↦ inr (record { visit = ended.visit; among = Contains-tail visit between ended.visit ended.among; ended = ended.ended })
      ]
      | inr ended ↦ inr (record { visit = visit; among = Contains-head visit between; ended = ended })
    ]

follow-behind : (found : List Change) (front : List Visit) (visit : Visit) (later : List Visit) → FollowOn found (front ++ visit ∷ later) → FollowOn (ledger_left visit) later
follow-behind found [] visit later follow = follow.1
follow-behind found (first ∷ front) visit later follow = follow-behind (ledger_left first) front visit later follow.1

pub owed-history : (found : List Change) (history : List Visit) → IsHistory found history → StaysOwed history
owed-history found history is front visit between next later e item on =
    let are : AllByRecursion IsVisit (visit ∷ (between ++ next ∷ later)) =
    recursion-behind IsVisit front (visit ∷ (between ++ next ∷ later)) (subst (λ (visits : List Visit). AllByRecursion IsVisit visits) e is.visits) in
    let follow : FollowOn (ledger_left visit) (between ++ next ∷ later) =
    follow-behind found front visit (between ++ next ∷ later) (subst (λ (visits : List Visit). FollowOn found visits) e is.follow) in
    elim (owed-left visit are.0 item on) [
      | inl lives ↦ elim (owed-later (ledger_left visit) between next later are.1 follow item lives) [
        | inl still ↦ inl still
        | inr ended ↦ inr (record { visit = ended.visit; among = Contains-tail visit between ended.visit ended.among; ended = ended.ended })
      ]
      | inr ended ↦ inr (record { visit = visit; among = Contains-head visit between; ended = ended })
    ]

-- each run of a history is a visit
pub visit-in : (found : List Change) (history : List Visit) → IsHistory found history → (visit : Visit) → Contains history visit → IsVisit visit
visit-in found history is visit m = Contains-recursion IsVisit history visit is.visits m

pub left-last : (found : List Change) (history : List Visit) (visit : Visit) → left_in_the_end found (history ++ visit ∷ []) ≡ ledger_left visit
left-last found [] visit = refl
left-last found (first ∷ history) visit = left-last (ledger_left first) history visit

follow-last : (found : List Change) (history : List Visit) (visit : Visit) → FollowOn found history → state_of visit.run.ledger ≡ state_of (left_in_the_end found history) → FollowOn found (history ++ visit ∷ [])
follow-last found [] visit follow e = (e, tt)
follow-last found (first ∷ history) visit follow e = (follow.0, follow-last (ledger_left first) history visit follow.1 e)

-- a run that found what a history left is one more of it
pub history-next : (found : List Change) (history : List Visit) (visit : Visit) → IsHistory found history → IsVisit visit → state_of visit.run.ledger ≡ state_of (left_in_the_end found history)
    → IsHistory found (history ++ visit ∷ [])
history-next found history visit is next e =
    record { begins = is.begins; visits = recursion-joined IsVisit history (visit ∷ []) is.visits (next, tt); follow = follow-last found history visit is.follow e }
