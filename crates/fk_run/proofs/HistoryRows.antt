-- Worked histories, written by hand from the rules: two runs with a crash between them. And what is no history.
use Rattle.std.proofs.Common.{◌≡◌, ℕ, ◌<◌, ◌≤◌, nat_lt, Bool, true, ◌&&◌, List, [], ◌∷◌, ◌++◌, length, map, refl, sym, ap, ◌∙◌, subst, arith, inl, inr, length-append}
use Rattle.std.specs.Prelude.{codes}
use Rattle.std.specs.List.{flat_map, AllZip, AllPairs, AllByRecursion, Contains}
use Rattle.std.proofs.lemmas.Bool.{and_parts}
use Rattle.std.proofs.lemmas.Bool.Decides.{nat_tests}
use Rattle.std.proofs.lemmas.List.{map-append}
use Rattle.std.proofs.lemmas.List.Elements.{Contains-append_left, Contains-append_right}
use Rattle.std.proofs.lemmas.List.Kept.{AllPairs-cons}
use Rattle.std.proofs.lemmas.Grind.{flat_map-append}
use Rattle.fk_base.specs.declared.purpose.Purpose.TheVariants.{Open}
use Rattle.fk_trace.specs.declared.change.OpenRecord.{OpenRecord}
use Rattle.fk_trace.specs.declared.change.Change.{Change}
use Rattle.fk_trace.specs.declared.change.Change.TheVariants.{Open as OpenChange, Done}
use Rattle.fk_trace.specs.Trace.{Item, Child}
use Rattle.fk_trace.specs.Trace.Event.{Turn, Began, Ended}
use Rattle.fk_trace.specs.Ledger.{Key, key_of, State, opens, dones, live, next_id, IsLater}
use Rattle.fk_trace.specs.Decision.Input.{Quiet}
use Rattle.fk_trace.specs.Settled.{EndedCleanly}
use Rattle.fk_trace.proofs.Lists.{Contains-head, Contains-tail, Contains-cases, Contains-map, Contains-unmap, All-by}
use Rattle.fk_trace.proofs.Splits.{none_before, second_at_zip}
use Rattle.fk_run.specs.Place.{entry}
use Rattle.fk_run.specs.Turn.{TakenTurn, WholeTurn, CutTurn}
use Rattle.fk_run.specs.Run.{Run, Ending, trace_of}
use Rattle.fk_run.specs.Run.Ending.{AtEnd, AtDiskFault}
use Rattle.fk_run.specs.Legal.{LegalTurns}
use Rattle.fk_run.specs.Headline.{opens_attempted}
use Rattle.fk_run.specs.History.{Visit, IsVisit, IsHistory, trace_left, changes_left, ledger_left, AttemptsBelongTo, OpensOnceEver}
use Rattle.fk_run.proofs.Ledgers.{made-above, made-one}
use Rattle.fk_run.proofs.Histories.{once-history, visit-in, made-left}
use Rattle.fk_trace.proofs.Made.{Whatever}
use Rattle.fk_run.proofs.Pairs.{pair-across, pairs-behind}
use Rattle.fk_run.proofs.RowParts.{only, polls-none, polls-one, closes-one, none-live, not-due}
use Rattle.fk_run.proofs.WorkedRows.{open_words, rules, record_at, first, found, item_at, asks, quiet-turn, asked-turn, reached, closes, open_child, close_child}

nat_lt-true : (a b : ℕ) → nat_lt a b ≡ true → a < b
nat_lt-true a b t = grind (arith, nat_tests)

module _ {X : Type 0} (f : X → ℕ) where
  -- each is above the one before it, and the first of them above n
  abbrev climbs : ℕ → List X → Bool
  climbs n [] = true
  climbs n (x ∷ xs) = nat_lt n (f x) && climbs (f x) xs

  climbs-above : (n : ℕ) (xs : List X) → climbs n xs ≡ true → (y : X) → Contains xs y → n < f y
  climbs-above n [] t y m = absurd (omega (arith, m.1))
  climbs-above n (x ∷ xs) t y m =
      let both = and_parts (nat_lt n (f x)) (climbs (f x) xs) t in
      let here = nat_lt-true n (f x) both.0 in
      elim (Contains-cases x xs y m) [
        | inl e ↦ let same = ap f e in omega arith
        | inr more ↦ let above = climbs-above (f x) xs both.1 y more in omega arith
      ]

  rising-by : (x : X) (xs : List X) → climbs (f x) xs ≡ true → AllPairs (λ a b. f a < f b) (x ∷ xs)
  rising-by x [] t = AllPairs-cons (λ a b. f a < f b) x [] (All-by (λ y. f x < f y) [] (λ y m. absurd (omega (arith, m.1)))) (λ i j d l k. absurd (omega arith))
  rising-by x (y ∷ xs) t =
      AllPairs-cons (λ a b. f a < f b) x (y ∷ xs) (All-by (λ z. f x < f z) (y ∷ xs) (climbs-above (f x) (y ∷ xs) t))
      (rising-by y xs (and_parts (nat_lt (f x) (f y)) (climbs (f y) xs) t).1)

  abbrev climbs_all : List X → Bool
  climbs_all [] = true
  climbs_all (x ∷ xs) = climbs (f x) xs

  rising-all : (xs : List X) → climbs_all xs ≡ true → AllPairs (λ a b. f a < f b) xs
  rising-all [] t = λ i j d l k. absurd (omega arith)
  rising-all (x ∷ xs) t = rising-by x xs t

-- of turns of which the last alone makes changes behind a crash, those before it make no more than all but that one
over-before : (turns : List TakenTurn) (last : TakenTurn) (front : List TakenTurn) (next : TakenTurn) (later : List TakenTurn) → turns ++ last ∷ [] ≡ front ++ next ∷ later
    → length (flat_map (λ taken. taken.changes) front) ≤ length (flat_map (λ taken. taken.changes) turns)
over-before turns last [] next later e = omega arith
over-before [] last (taken ∷ front) next later e = absurd (none_before front next later cc)
over-before (turn ∷ turns) last (taken ∷ front) next later e =
    let rest = over-before turns last front next later cc in
    let same : turn ≡ taken = cc in
    let lengths = ap (λ (t : TakenTurn). length t.changes) same in
    let mine = length-append turn.changes (flat_map (λ (t : TakenTurn). t.changes) turns) in
    let others = length-append taken.changes (flat_map (λ (t : TakenTurn). t.changes) front) in
    omega arith

abbrev quiet_at : ℕ → List Item → List Change → TakenTurn
quiet_at moment items changes = record { turn = record { moment = moment; input = Quiet }; items = items; changes = changes }

-- The first history. Its first run is left between a record and its open. Its turn begins at moment 3, the calls of the disk for the
-- record are those of moments 4 to 7, and the open is started at moment 8.
abbrev asked : TakenTurn
asked = record { turn = asks 1700000000 (codes "first"); items = item_at 3 (Turn 1) ∷ item_at 8 (Began 1 (Open 1) open_words) ∷ []; changes = OpenChange first ∷ [] }

is-asked : WholeTurn rules (entry []) asked
is-asked = asked-turn 3 8 (Began 1 (Open 1) open_words) (refl, refl)

abbrev opening_run : Run
opening_run = record { rules = rules; ledger = []; faults = 0; turns = asked ∷ []; ending = AtEnd }

abbrev before_open : Visit
before_open = record { run = opening_run; tried = OpenChange first ∷ []; moment = 7; count = 1 }

-- what is left of its turn
abbrev unopened : TakenTurn
unopened = record asked { items = item_at 3 (Turn 1) ∷ [] }

is-unopened : CutTurn rules (entry []) unopened
is-unopened =
    record {
      missing = item_at 8 (Began 1 (Open 1) open_words) ∷ [];
      unmade = [];
      whole = is-asked;
      begun = λ none. cc;
      changes_before_attempts = inl refl;
      polls_before_changes = inr (tt, tt);
    }

is-before_open : IsVisit before_open
is-before_open =
    record {
      ledger = tt;
      legal = record { turns = inl (is-asked, tt); no_fault_before = (refl, (refl, tt)); numbered = rising-all (λ (c : Child). c.number) (open_child ∷ []) refl };
      rising = rising-all (λ (i : Item). i.moments) (trace_of opening_run) refl;
      left = record {
        over = λ front next later e begun. let few = over-before [] asked front next later e in omega arith;
        opened = λ id m. absurd (omega (arith, m.1));
        settled = λ id m. absurd (omega (arith, m.1));
        turns = unopened ∷ [];
        untaken = [];
        of_feed = refl;
        items = refl;
        changes = refl;
        legal = record { turns = inr (refl, refl, is-unopened); no_fault_before = (refl, tt); numbered = λ i j d l k. absurd (omega arith) };
      };
    }

-- The second run finds the record, and closes it at the first turn at its due.
abbrev close_turn : TakenTurn
close_turn = quiet_at 1700000030 (item_at 23 (Turn 1) ∷ item_at 24 (closes 1) ∷ []) []

abbrev settle_turn : TakenTurn
settle_turn = quiet_at 1700000031 (item_at 25 (Turn 2) ∷ item_at 26 (Ended 1 true) ∷ []) (Done 1 ∷ [])

abbrev closing_run : Run
closing_run = record { rules = rules; ledger = found; faults = 0; turns = close_turn ∷ settle_turn ∷ []; ending = AtEnd }

-- left at its end, behind the calls of the disk for its Done
abbrev closed : Visit
closed = record { run = closing_run; tried = Done 1 ∷ []; moment = 30; count = 1 }

closing-turns : (ending : Ending) → LegalTurns rules (entry found) ending (close_turn ∷ settle_turn ∷ [])
closing-turns ending =
    let starts = quiet-turn (entry found) 1700000030 (item_at 23 (Turn 1)) [] (item_at 24 (closes 1) ∷ []) refl (polls-none _ refl) (closes-one _ 1700000030 first _ refl (omega arith) refl (refl, refl)) in
    let settles = quiet-turn (reached found (close_turn ∷ [])) 1700000031 (item_at 25 (Turn 2)) (item_at 26 (Ended 1 true) ∷ []) [] refl (polls-one _ (close_child 1) _ refl refl) (none-live _ 1700000031 refl) in
    inl (starts, inl (settles, tt))

is-closed : IsVisit closed
is-closed =
    let numbered = rising-all (λ (c : Child). c.number) (close_child 1 ∷ []) refl in
    record {
      ledger = ((record { above = λ k d l. absurd (omega (arith, l)); next = inr refl }, λ m. absurd (omega (arith, m.1))), tt);
      legal = record { turns = closing-turns AtEnd; no_fault_before = (refl, (refl, (refl, (refl, tt)))); numbered = numbered };
      rising = rising-all (λ (i : Item). i.moments) (trace_of closing_run) refl;
      left = record {
        over = λ front next later e begun. let few = over-before (close_turn ∷ []) settle_turn front next later e in omega arith;
        opened = λ id m. absurd (omega (arith, m.1));
        settled = λ id m. subst (λ (n : ℕ). EndedCleanly [] (close_turn.items ++ settle_turn.items) n) (only 1 id m)
            (record {
              before = item_at 23 (Turn 1) ∷ item_at 24 (closes 1) ∷ item_at 25 (Turn 2) ∷ [];
              ended = item_at 26 (Ended 1 true);
              after = [];
              number = 1;
              placed = refl;
              well = refl;
              closes = refl;
              clean = refl;
            });
        turns = close_turn ∷ settle_turn ∷ [];
        untaken = [];
        of_feed = refl;
        items = refl;
        changes = refl;
        legal = record { turns = closing-turns AtDiskFault; no_fault_before = (refl, (refl, (refl, (refl, tt)))); numbered = numbered };
      };
    }

crash_before_the_open : IsHistory [] (before_open ∷ closed ∷ [])
crash_before_the_open = record { begins = tt; visits = (is-before_open, (is-closed, tt)); follow = (refl, (refl, tt)) }

-- The second history. Its first run is left between the good end of a close, which was polled at moment 14, and its Done, whose calls of
-- the disk are those of moments 15 to 18. The second run finds the record live and closes it again.
abbrev ended_turn : TakenTurn
ended_turn = quiet_at 1700000029 (item_at 9 (Turn 2) ∷ item_at 10 (Ended 1 true) ∷ []) []

abbrev due_turn : TakenTurn
due_turn = quiet_at 1700000030 (item_at 11 (Turn 3) ∷ item_at 12 (closes 2) ∷ []) []

abbrev done_turn : TakenTurn
done_turn = quiet_at 1700000031 (item_at 13 (Turn 4) ∷ item_at 14 (Ended 2 true) ∷ []) (Done 1 ∷ [])

abbrev whole_run : Run
whole_run = record { rules = rules; ledger = []; faults = 0; turns = asked ∷ ended_turn ∷ due_turn ∷ done_turn ∷ []; ending = AtEnd }

abbrev before_done : Visit
before_done = record { run = whole_run; tried = OpenChange first ∷ Done 1 ∷ []; moment = 16; count = 1 }

is-ended : WholeTurn rules (reached [] (asked ∷ [])) ended_turn
is-ended = quiet-turn (reached [] (asked ∷ [])) 1700000029 (item_at 9 (Turn 2)) (item_at 10 (Ended 1 true) ∷ []) [] refl (polls-one _ open_child _ refl refl) (not-due _ 1700000029 first refl (omega arith))

is-due : WholeTurn rules (reached [] (asked ∷ ended_turn ∷ [])) due_turn
is-due = quiet-turn (reached [] (asked ∷ ended_turn ∷ [])) 1700000030 (item_at 11 (Turn 3)) [] (item_at 12 (closes 2) ∷ []) refl (polls-none _ refl) (closes-one _ 1700000030 first _ refl (omega arith) refl (refl, refl))

is-done : WholeTurn rules (reached [] (asked ∷ ended_turn ∷ due_turn ∷ [])) done_turn
is-done = quiet-turn (reached [] (asked ∷ ended_turn ∷ due_turn ∷ [])) 1700000031 (item_at 13 (Turn 4)) (item_at 14 (Ended 2 true) ∷ []) [] refl (polls-one _ (close_child 2) _ refl refl) (none-live _ 1700000031 refl)

-- what is left of its last turn
abbrev undone : TakenTurn
undone = record done_turn { changes = [] }

is-undone : CutTurn rules (reached [] (asked ∷ ended_turn ∷ due_turn ∷ [])) undone
is-undone = record { missing = []; unmade = Done 1 ∷ []; whole = is-done; begun = λ none. cc; changes_before_attempts = inr (tt, (tt, tt)); polls_before_changes = inl refl }

is-before_done : IsVisit before_done
is-before_done =
    let no_fault : AllByRecursion (λ item. item.faults ≡ 0) (trace_of whole_run) = (refl, (refl, (refl, (refl, (refl, (refl, (refl, (refl, tt)))))))) in
    let numbered = rising-all (λ (c : Child). c.number) (open_child ∷ close_child 2 ∷ []) refl in
    record {
      ledger = tt;
      legal = record { turns = inl (is-asked, inl (is-ended, inl (is-due, inl (is-done, tt)))); no_fault_before = no_fault; numbered = numbered };
      rising = rising-all (λ (i : Item). i.moments) (trace_of whole_run) refl;
      left = record {
        over = λ front next later e begun. let few = over-before (asked ∷ ended_turn ∷ due_turn ∷ []) done_turn front next later e in omega arith;
        opened = λ id m. m;
        settled = λ id m. absurd (omega (arith, m.1));
        turns = asked ∷ ended_turn ∷ due_turn ∷ undone ∷ [];
        untaken = [];
        of_feed = refl;
        items = refl;
        changes = refl;
        legal = record { turns = inl (is-asked, inl (is-ended, inl (is-due, inr (refl, refl, is-undone)))); no_fault_before = no_fault; numbered = numbered };
      };
    }

crash_before_the_done : IsHistory [] (before_done ∷ closed ∷ [])
crash_before_the_done = record { begins = tt; visits = (is-before_done, (is-closed, tt)); follow = (refl, (refl, tt)) }

-- None is a history whose second run begins on a ledger that lacks the record of an open that the first has attempted.
no_attempt_without_its_record : (start : List Change) (earlier next : Visit) (later : List Visit) → IsHistory start (earlier ∷ next ∷ later) → (id : ℕ)
    → Contains (opens_attempted (trace_left earlier)) id → next_id next.run.ledger ≤ id → ⊥
no_attempt_without_its_record start earlier next later is id m lacks =
    let visit : IsVisit earlier = is.visits.0 in
    let left : Contains (map (λ item. item.id) (opens (changes_left earlier))) id = visit.left.opened id m in
    let made = Contains-unmap (λ (item : OpenRecord). item.id) (opens (changes_left earlier)) id left in
    let below = (made-above Whatever earlier.run.ledger (changes_left earlier) (made-left earlier visit) made.0 made.1).1 in
    let number = made.2 in
    let same : next_id next.run.ledger ≡ next_id (ledger_left earlier) = ap (λ (state : State). state.next) is.follow.1.0 in
    absurd (omega arith)

-- as where the run of the first history is left when its open has been started, and the second run finds nothing
abbrev opened : ℕ → Visit
opened count = record before_open { moment = 8; count = count }

started_without_its_record : (count : ℕ) (next : Visit) (later : List Visit) → next.run.ledger ≡ [] → IsHistory [] (opened count ∷ next ∷ later) → ⊥
started_without_its_record count next later none is =
    let lacks = ap next_id none in
    no_attempt_without_its_record [] (opened count) next later is 1 (Contains-head 1 []) (omega arith)

-- None is one whose second run begins on a ledger in which a record that the first left live is not.
no_live_record_is_lost : (start : List Change) (earlier next : Visit) (later : List Visit) → IsHistory start (earlier ∷ next ∷ later) → (item : OpenRecord)
    → Contains (live (ledger_left earlier)) item → Contains (live next.run.ledger) item
no_live_record_is_lost start earlier next later is item m = subst (λ (state : State). Contains state.live item) (sym is.follow.1.0) m

-- None is one in which a Done is left of a record of which no clean close had ended well.
no_done_before_its_end : (start : List Change) (history : List Visit) → IsHistory start history → (visit : Visit) → Contains history visit → (id : ℕ) → Contains (dones (changes_left visit)) id
    → EndedCleanly [] (trace_left visit) id
no_done_before_its_end start history is visit m id done = (visit-in start history is visit m).left.settled id done

-- None is one in whose runs opens are attempted for two records of one key.
record IsAttemptedIn (visit : Visit) (item : OpenRecord) : Type 0 where
  recorded : Contains (opens (changes_left visit)) item
  attempted : Contains (opens_attempted (trace_left visit)) item.id

module _ {A B : Type 0} (R : A → B → Type 0) where
  zip-parts : (front : List A) (a : A) (rest : List A) (ys : List B) → AllZip R (front ++ a ∷ rest) ys → (before : List B) × (b : B) × (behind : List B) × (ys ≡ before ++ b ∷ behind) × R a b × AllZip R rest behind
  zip-parts [] a rest [] z = absurd z
  zip-parts [] a rest (b ∷ ys) z = ([], b, ys, refl, z.0, z.1)
  zip-parts (x ∷ front) a rest [] z = absurd z
  zip-parts (x ∷ front) a rest (b ∷ ys) z =
      let more = zip-parts front a rest ys z.1 in
      (b ∷ more.0, more.1, more.2, ap (λ zs. b ∷ zs) more.3, more.4, more.5)

-- the record of an attempt is among those that the clause names
attempted-key : (visit : Visit) (items : List OpenRecord) (item : OpenRecord) → IsVisit visit → AttemptsBelongTo visit items → IsAttemptedIn visit item → Contains (map key_of items) (key_of item)
attempted-key visit items item is belong at =
    let found = second_at_zip (λ (id : ℕ) (x : OpenRecord). (x.id ≡ id) × Contains (opens (changes_left visit)) x) (opens_attempted (trace_left visit)) items item.id belong at.attempted in
    let same : found.0 ≡ item = made-one Whatever visit.run.ledger (changes_left visit) (made-left visit is) found.0 item found.2.1 at.recorded found.2.0 in
    subst (λ (x : OpenRecord). Contains (map key_of items) (key_of x)) same (Contains-map key_of items found.0 found.1)

keys-parts : (before : List (List OpenRecord)) (items : List OpenRecord) (behind : List (List OpenRecord))
    → map key_of (flat_map (λ xs. xs) (before ++ items ∷ behind)) ≡ map key_of (flat_map (λ xs. xs) before) ++ (map key_of items ++ map key_of (flat_map (λ xs. xs) behind))
keys-parts before items behind =
    ap (map key_of) (flat_map-append (λ (xs : List OpenRecord). xs) before (items ∷ behind))
    ∙ map-append key_of (flat_map (λ (xs : List OpenRecord). xs) before) (items ++ flat_map (λ (xs : List OpenRecord). xs) behind)
    ∙ ap (λ (keys : List Key). map key_of (flat_map (λ (xs : List OpenRecord). xs) before) ++ keys) (map-append key_of items (flat_map (λ (xs : List OpenRecord). xs) behind))

no_key_is_attempted_twice : (start : List Change) (front : List Visit) (one : Visit) (between : List Visit) (other : Visit) (later : List Visit) → IsHistory start (front ++ one ∷ (between ++ other ∷ later))
    → (a b : OpenRecord) → IsAttemptedIn one a → IsAttemptedIn other b → a.digest.0 ≡ b.digest.0 → b.stamp ≤ a.stamp → ⊥
no_key_is_attempted_twice start front one between other later is a b at_one at_other same earlier =
    let history : List Visit = front ++ one ∷ (between ++ other ∷ later) in
    let once : OpensOnceEver start history = once-history start history is in
    let first_part = zip-parts AttemptsBelongTo front one (between ++ other ∷ later) once.attempted once.belong in
    let second_part = zip-parts AttemptsBelongTo between other later first_part.2 first_part.5 in
    let other_in : Contains (between ++ other ∷ later) other = Contains-append_right between (other ∷ later) other (Contains-head other later) in
    let one_is = visit-in start history is one (Contains-append_right front (one ∷ (between ++ other ∷ later)) one (Contains-head one (between ++ other ∷ later))) in
    let other_is = visit-in start history is other (Contains-append_right front (one ∷ (between ++ other ∷ later)) other (Contains-tail one (between ++ other ∷ later) other other_in)) in
    let mine = attempted-key one first_part.1 a one_is first_part.4 at_one in
    let others = attempted-key other second_part.1 b other_is second_part.4 at_other in
    let behind : List Key = map key_of (flat_map (λ (xs : List OpenRecord). xs) first_part.2) in
    let there : Contains behind (key_of b) =
    subst (λ (keys : List Key). Contains keys (key_of b)) (sym (ap (λ (xss : List (List OpenRecord)). map key_of (flat_map (λ (xs : List OpenRecord). xs) xss)) second_part.3 ∙ keys-parts second_part.0 second_part.1 second_part.2))
    (Contains-append_right (map key_of (flat_map (λ (xs : List OpenRecord). xs) second_part.0)) _ (key_of b) (Contains-append_left (map key_of second_part.1) _ (key_of b) others)) in
    let all : AllPairs IsLater (map key_of (flat_map (λ (xs : List OpenRecord). xs) first_part.0) ++ (map key_of first_part.1 ++ behind)) =
    subst (λ (keys : List Key). AllPairs IsLater keys) (ap (λ (xss : List (List OpenRecord)). map key_of (flat_map (λ (xs : List OpenRecord). xs) xss)) first_part.3 ∙ keys-parts first_part.0 first_part.1 first_part.2)
    once.apart in
    let rises : a.stamp < b.stamp =
    pair-across IsLater (map key_of first_part.1) behind (key_of a) (key_of b)
    (pairs-behind IsLater (map key_of (flat_map (λ (xs : List OpenRecord). xs) first_part.0)) (map key_of first_part.1 ++ behind) all) mine there same in
    absurd (omega arith)

-- as where the datagram of the first history is opened by a later run again, under the same stamp
abbrev again : OpenRecord
again = record (record_at 2 (codes "first") 1700000100 1700000130) { stamp = 1700000000 }

abbrev opened_again : Visit
opened_again = record {
  run = record {
    rules = rules;
    ledger = OpenChange first ∷ Done 1 ∷ [];
    faults = 0;
    turns = record { turn = asks 1700000100 (codes "first"); items = item_at 33 (Turn 1) ∷ item_at 38 (Began 1 (Open 2) open_words) ∷ []; changes = OpenChange again ∷ [] } ∷ [];
    ending = AtEnd;
  };
  tried = OpenChange again ∷ [];
  moment = 40;
  count = 1;
}

started_twice : (start : List Change) (front between later : List Visit) → IsHistory start (front ++ opened 1 ∷ (between ++ opened_again ∷ later)) → ⊥
started_twice start front between later is =
    no_key_is_attempted_twice start front (opened 1) between opened_again later is first again
    (record { recorded = Contains-head first []; attempted = Contains-head 1 [] }) (record { recorded = Contains-head again []; attempted = Contains-head 2 [] }) refl (omega arith)
