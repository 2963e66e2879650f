-- Runs that follow one another over the same areas, and the headline over all of them.
use Rattle.std.specs.Prelude.{◌≡◌, ◌⊎◌, ℕ, ◌<◌, List, [], ◌∷◌, ◌++◌, map, take}
use Rattle.std.specs.List.{AllZip, AllPairs, AllByRecursion, Contains, flat_map}
use Rattle.fk_base.specs.declared.purpose.Purpose.TheVariants.{Open, Close}
use Rattle.fk_trace.specs.declared.change.OpenRecord.{OpenRecord}
use Rattle.fk_trace.specs.declared.change.Change.{Change}
use Rattle.fk_trace.specs.Trace.{Item}
use Rattle.fk_trace.specs.Ledger.{opens, live, key_of, after, state_of, Bars, IsLater, IsLedger}
use Rattle.fk_trace.specs.Settled.{EndedCleanly}
use Rattle.fk_trace.specs.Attempts.{IsAttempt}
use Rattle.fk_run.specs.Turn.{TakenTurn}
use Rattle.fk_run.specs.Run.{Run, trace_of}
use Rattle.fk_run.specs.Legal.{Legal}
use Rattle.fk_run.specs.Headline.{OpensByGrant, IsWholeTurnOf, IsFirstDue, AttemptedIn, StartsWhatIsOwed, opens_attempted}
use Rattle.fk_run.specs.Left.{IsLeft, items_by}

-- A run as it was left: at a crash at a moment, or at its end, which is its last moment.
pub record Visit : Type 0 where
  pub run : Run
  -- the changes that it tried: those that it made, and the one whose call failed
  pub tried : List Change
  -- the moment at which it was left
  pub moment : ℕ
  -- how many of those changes were left on the disk
  pub count : ℕ

-- what its host's calls had brought by then
abbrev pub trace_left : Visit → List Item
trace_left visit = items_by visit.moment (trace_of visit.run)

-- the changes that were left
abbrev pub changes_left : Visit → List Change
changes_left visit = take visit.count visit.tried

-- the ledger that was left
abbrev pub ledger_left : Visit → List Change
ledger_left visit = after visit.run.ledger (changes_left visit)

-- it was a legal run over a ledger, its calls stand at rising moments, and a crash at that moment leaves so much of it
pub record IsVisit (visit : Visit) : Type 0 where
  pub ledger : IsLedger visit.run.ledger
  pub legal : Legal visit.run
  pub rising : AllPairs (λ a b. a.moments < b.moments) (trace_of visit.run)
  pub left : IsLeft visit.run visit.tried visit.moment visit.count

-- each run found what the one before it left, and the first of them this ledger, as far as anything above a ledger can tell
abbrev pub FollowOn : List Change → List Visit → Type 0
FollowOn found [] = Unit {0}
FollowOn found (visit ∷ later) = (state_of visit.run.ledger ≡ state_of found) × FollowOn (ledger_left visit) later

-- what the last run of them left, or, where there is none, this ledger
abbrev pub left_in_the_end : List Change → List Visit → List Change
left_in_the_end found [] = found
left_in_the_end found (visit ∷ later) = left_in_the_end (ledger_left visit) later

-- A history: runs over the same areas, one after another, the first over this ledger. All that the headline presumes stands here.
pub record IsHistory (found : List Change) (history : List Visit) : Type 0 where
  -- the areas held a ledger before the first run
  pub begins : IsLedger found
  -- each run is legal by its own rules, and the disk kept of it what a crash may leave
  pub visits : AllByRecursion IsVisit history
  -- nothing but these runs changed the areas
  pub follow : FollowOn found history

-- Each open that it attempted was by grant.
abbrev pub OpensByGrantOnly : Visit → Type 0
OpensByGrantOnly visit =
    (before : List Item) (item : Item) (later : List Item) (id : ℕ) (words : List (List ℕ))
    → trace_left visit ≡ before ++ item ∷ later → IsAttempt (Open id) words item.event → OpensByGrant visit.run before item id words

-- Each of its turns that is not cut starts what is owed at it.
abbrev pub StartsAllThatIsOwed : Visit → Type 0
StartsAllThatIsOwed visit =
    (front : List TakenTurn) (taken : TakenTurn) → IsWholeTurnOf visit.run front taken → StartsWhatIsOwed visit.run front taken

-- Each of its turns that is not cut attempts the close of each record of which it is the first turn of this run at or past the due,
-- whichever run recorded it.
abbrev pub ClosesAtFirstDue : Visit → Type 0
ClosesAtFirstDue visit =
    (front : List TakenTurn) (taken : TakenTurn) → IsWholeTurnOf visit.run front taken → (item : OpenRecord)
    → IsFirstDue visit.run front taken item → AttemptedIn taken.items (Close item.id) item.close

-- the records that the open attempts of a run belong to, one for each attempt, failed ones too, in their order
abbrev pub AttemptsBelongTo : Visit → List OpenRecord → Type 0
AttemptsBelongTo visit items =
    AllZip (λ id item. (item.id ≡ id) × Contains (opens (changes_left visit)) item) (opens_attempted (trace_left visit)) items

-- Over all runs, no two open attempts belong to records of one key, nor to two of one digest but the later under a later stamp; and none
-- belongs to a record whose key the ledger that was found barred.
pub record OpensOnceEver (found : List Change) (history : List Visit) : Type 0 where
  pub attempted : List (List OpenRecord)
  pub belong : AllZip AttemptsBelongTo history attempted
  pub apart : AllPairs IsLater (map key_of (flat_map (λ items. items) attempted))
  pub fresh : (item : OpenRecord) → Contains (flat_map (λ items. items) attempted) item → Bars (state_of found) (key_of item) → ⊥

-- the record was live when the run began, or the run made it and it was left
abbrev pub IsOn : Visit → OpenRecord → Type 0
IsOn visit item = Contains (live visit.run.ledger) item ⊎ Contains (opens (changes_left visit)) item

-- a clean close of the record ended well in one of these runs
pub record EndedIn (visits : List Visit) (item : OpenRecord) : Type 0 where
  pub visit : Visit
  pub among : Contains visits visit
  pub ended : EndedCleanly [] (trace_left visit) item.id

-- A record that was on the areas in a run is live in what each later run finds, unless a clean close of it ended well since.
abbrev pub StaysOwed : List Visit → Type 0
StaysOwed history =
    (front : List Visit) (visit : Visit) (between : List Visit) (next : Visit) (later : List Visit)
    → history ≡ front ++ visit ∷ (between ++ next ∷ later)
    → (item : OpenRecord) → IsOn visit item → Contains (live next.run.ledger) item ⊎ EndedIn (visit ∷ between) item
