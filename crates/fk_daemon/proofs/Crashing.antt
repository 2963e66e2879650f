-- What a crash leaves of a run, turn by turn.
use Rattle.std.proofs.Common.{◌≡◌, ℕ, ◌+◌, ◌<◌, ◌≤◌, min, nat_le, true, false, Option, Some, None, List, [], ◌∷◌, ◌++◌, length, map, take, refl, sym, ap, ◌∙◌, subst, arith, inl, inr, append_assoc, append-nil, length-append}
use Rattle.std.specs.List.{list_any, AllPairs, AllByRecursion, Contains}
use Rattle.std.proofs.Math.Seq.{take-append-add}
use Rattle.std.proofs.lemmas.Bool.{cases_lt}
use Rattle.std.proofs.lemmas.Grind.{flat_map-append}
use Rattle.std.proofs.lemmas.List.{map-append, take_all}
use Rattle.std.proofs.lemmas.List.Elements.{filter-append, Contains-append_left}
use Rattle.fk_trace.specs.declared.change.Change.{Change}
use Rattle.fk_trace.specs.Trace.{Item, Child, children, begun_by, is_turn, past_after}
use Rattle.fk_trace.specs.Ledger.{after, opens, dones, AreNoFloors}
use Rattle.fk_trace.specs.Decision.{FeedTurn, Rules}
use Rattle.fk_trace.specs.Settled.{EndedCleanly}
use Rattle.fk_run.specs.Headline.{opens_attempted}
use Rattle.fk_trace.proofs.Ledgers.{after-append}
use Rattle.fk_trace.proofs.Settled.{past_after-append}
use Rattle.fk_trace.proofs.Splits.{AllPairs-front, recursion-behind}
use Rattle.fk_run.specs.Place.{entry}
use Rattle.fk_run.specs.Turn.{TakenTurn, CutTurn, after_turns}
use Rattle.fk_run.specs.Run.{Run, Ending, turns_of, trace_of, changes_of}
use Rattle.fk_run.specs.Run.Ending.{AtLimit, AtDiskFault}
use Rattle.fk_run.specs.Legal.{Legal, LegalTurns}
use Rattle.fk_run.specs.Left.{items_by, items_behind, is_attempt, IsCutAt, IsLeft, crashed}
use Rattle.fk_run.specs.Headline.{OpensOnce}
use Rattle.fk_run.proofs.Cutting.{by-all, by-none, split-at, cut-cut, cut_off, recursion-filtered, take-within}
use Rattle.fk_host.specs.Disk.{Areas, Told, IfTold}
use Rattle.fk_journal.proofs.Told.{past_then, if_told_map}
use Rattle.fk_ledger.specs.Holds.{HoldsState, KeepsLedger}
use Rattle.fk_ledger.specs.Stretch.{IsLedgerOpening}
use Rattle.fk_child.specs.View.{View, AddsItems, HoldsFront, Moments, Adds}
use Rattle.fk_journal.specs.Keeps.{LeavesOthers}
use Rattle.fk_child.proofs.Images.{items-then, adds-none, floors-left, floors-right}
use Rattle.fk_child.proofs.Others.{others-told}
use Rattle.fk_child.proofs.Pieces.{recursion-weaker}
use Rattle.fk_daemon.specs.Moments.{HoldsRun, RunMoments}
use Rattle.fk_daemon.specs.Sessions.{IsCrashed, HoldsCrash, AddsTurns, LeavesView}
use Rattle.fk_daemon.proofs.Behind.{items_in, changes_in, items-push, changes-push, legal-whole, legal-cut, cases-push}

recursion-front : {X : Type 0} (P : X → Type 0) (xs ys : List X) → AllByRecursion P (xs ++ ys) → AllByRecursion P xs
recursion-front P [] ys h = tt
recursion-front P (x ∷ xs) ys h = (h.0, recursion-front P xs ys h.1)

-- what all items of a run are, those of each turn are
of-turn : (P : Item → Type 0) (turns front : List TakenTurn) (next : TakenTurn) (later : List TakenTurn) → turns ≡ front ++ next ∷ later → AllByRecursion P (items_in turns) → AllByRecursion P next.items
of-turn P turns front next later e all =
    recursion-front P next.items (items_in later)
    (recursion-behind P (items_in front) (next.items ++ items_in later)
    (subst (AllByRecursion P) (ap items_in e ∙ flat_map-append (λ (taken : TakenTurn). taken.items) front (next ∷ later)) all))

-- what the feed gave in these turns
abbrev given_to : List TakenTurn → List FeedTurn
given_to turns = map (λ taken. taken.turn) turns

given-push : (turns : List TakenTurn) (last : TakenTurn) → given_to (turns ++ last ∷ []) ≡ given_to turns ++ last.turn ∷ []
given-push turns last = map-append (λ (taken : TakenTurn). taken.turn) turns (last ∷ [])

front-short : (turns front : List TakenTurn) (next : TakenTurn) (later : List TakenTurn) → turns ≡ front ++ next ∷ later → length (changes_in front) ≤ length (changes_in turns)
front-short turns front next later e =
    let same = ap length (ap changes_in e ∙ flat_map-append (λ (taken : TakenTurn). taken.changes) front (next ∷ later)) in
    let both = length-append (changes_in front) (changes_in (next ∷ later)) in
    omega (arith, same, both)

-- the children of a front of the items
children-behind : (past items : List Item) → (rest : List Child) × (children (past_after past items) ≡ children past ++ rest)
children-behind past [] = ([], sym (append-nil (children past)))
children-behind past (item ∷ items) =
    let later = children-behind (item ∷ past) items in
    (begun_by item.event ++ later.0, later.1 ∙ append_assoc (children past) (begun_by item.event) later.0)

-- no two children of the past have one number, and later ones have greater ones
abbrev pub AreNumbered : List Item → Type 0
AreNumbered past = AllPairs (λ (a b : Child). a.number < b.number) (children past)

numbered-front : (xs ys : List Item) → AreNumbered (past_after [] (xs ++ ys)) → AreNumbered (past_after [] xs)
numbered-front xs ys numbered =
    let rest = children-behind (past_after [] xs) ys in
    AllPairs-front (λ (a b : Child). a.number < b.number) (children (past_after [] xs)) rest.0
    (subst (AllPairs (λ (a b : Child). a.number < b.number)) (ap children (past_after-append [] xs ys) ∙ rest.1) numbered)

no_turn-none : (k : ℕ) (items : List Item) → AllByRecursion (λ item. k < item.moments) items → list_any (λ item. is_turn item.event) (items_by k items) ≡ true → ⊥
no_turn-none k items behind seen =
    let none : list_any (λ (item : Item). is_turn item.event) (items_by k items) ≡ false = ap (list_any (λ (item : Item). is_turn item.event)) (by-none k items behind) in
    let never : true ≡ false = sym seen ∙ none in
    cc

-- no item stands at or before the moment
pub crash-none : (run : Run) (tried : List Change) (k : ℕ) → AllByRecursion (λ item. k < item.moments) (trace_of run) → IsCrashed run tried k 0
crash-none run tried k behind = record {
  over = λ front next later e seen. absurd (no_turn-none k next.items (of-turn (λ (item : Item). k < item.moments) run.turns front next later e behind) seen);
  turns = [];
  untaken = turns_of run;
  of_feed = refl;
  items = sym (by-none k (trace_of run) behind);
  changes = refl;
  legal = record { turns = tt; no_fault_before = tt; numbered = λ i j d l m. absurd (omega arith) };
}

module _ (rules : Rules) (ledger : List Change) (faults : ℕ) where
  abbrev pub run_at : Ending → List TakenTurn → Run
  run_at ending turns = record { rules = rules; ledger = ledger; faults = faults; turns = turns; ending = ending }

  module _ (ending other : Ending) (turns : List TakenTurn) (taken : TakenTurn) (tried : List Change) (k n : ℕ) where
    abbrev made : List Change
    made = changes_in turns

    abbrev all : List TakenTurn
    all = turns ++ taken ∷ []

    -- a crash before the last turn
    pub crash-earlier : AllByRecursion (λ item. k < item.moments) taken.items → IsCrashed (run_at other turns) made k n → IsCrashed (run_at ending all) (made ++ tried) k (min n (length made))
    crash-earlier behind c = record {
      over = λ front next later e seen. elim (cases-push turns taken front next later e) [
        | inl within ↦
            let low = c.over front next within.0 within.1 seen in
            let short = front-short turns front next within.0 within.1 in
            omega (arith, low, short)
        | inr last ↦ absurd (no_turn-none k taken.items behind (subst (λ (t : TakenTurn). list_any (λ (item : Item). is_turn item.event) (items_by k t.items) ≡ true) last.1 seen))
      ];
      turns = c.turns;
      untaken = c.untaken ++ taken.turn ∷ [];
      of_feed = sym (append_assoc (given_to c.turns) c.untaken (taken.turn ∷ [])) ∙ ap (λ (given : List FeedTurn). given ++ taken.turn ∷ []) c.of_feed
          ∙ sym (given-push turns taken);
      items = c.items ∙ sym (ap (items_by k) (items-push turns taken) ∙ filter-append (λ (item : Item). nat_le item.moments k) (items_in turns) taken.items
          ∙ ap (λ (xs : List Item). items_by k (items_in turns) ++ xs) (by-none k taken.items behind) ∙ append-nil (items_by k (items_in turns)));
      changes = c.changes ∙ sym (take-within n made tried);
      legal = c.legal;
    }

    -- a crash in the last turn, or at its beginning
    module _ (whole : LegalTurns rules (entry ledger) AtLimit turns) (done : AllByRecursion (λ item. item.moments ≤ k) (items_in turns))
        (cut : CutTurn rules (after_turns (entry ledger) turns) (record taken { changes = tried })) (at : IsCutAt k taken.items tried n)
        (rising : AllPairs (λ (a b : Item). a.moments < b.moments) taken.items) (rising_all : AllPairs (λ (a b : Item). a.moments < b.moments) (items_in all))
        (unfailed : AllByRecursion (λ item. item.faults ≡ faults) (items_in all)) (numbered : AreNumbered (past_after [] (items_in all))) where
      by_all : items_by k (items_in all) ≡ items_in turns ++ items_by k taken.items
      by_all =
          ap (items_by k) (items-push turns taken) ∙ filter-append (λ (item : Item). nat_le item.moments k) (items_in turns) taken.items
          ∙ ap (λ (xs : List Item). xs ++ items_by k taken.items) (by-all k (items_in turns) done)

      left_all : take (length made + n) (made ++ tried) ≡ made ++ take n tried
      left_all = take-append-add made tried n

      -- the legal run that is left, by its turns
      legal-left : (left : List TakenTurn) → items_in left ≡ items_by k (items_in all) → LegalTurns rules (entry ledger) AtDiskFault left → Legal (run_at AtDiskFault left)
      legal-left left items legal = record {
        turns = legal;
        no_fault_before = subst (AllByRecursion (λ (item : Item). item.faults ≡ faults)) (sym items)
            (recursion-filtered (λ (item : Item). item.faults ≡ faults) (λ (item : Item). nat_le item.moments k) (items_in all) unfailed);
        numbered = subst (λ (xs : List Item). AreNumbered (past_after [] xs)) (sym items) (numbered-front (items_by k (items_in all)) (items_behind k (items_in all)) (subst (λ (xs : List Item). AreNumbered (past_after [] xs)) (split-at k (items_in all) rising_all) numbered));
      }

      over-later : (front : List TakenTurn) (next : TakenTurn) (later : List TakenTurn) → all ≡ front ++ next ∷ later → length (changes_in front) ≤ length made + n
      over-later front next later e =
          elim (cases-push turns taken front next later e) [
            | inl within ↦ let short = front-short turns front next within.0 within.1 in omega (arith, short)
            | inr last ↦ let same = ap (λ (ts : List TakenTurn). length (changes_in ts)) last.0 in omega (arith, same)
          ]

      left-with : (left : List TakenTurn) (untaken : List FeedTurn) → given_to left ++ untaken ≡ given_to all → items_in left ≡ items_by k (items_in all) → changes_in left ≡ take (length made + n) (made ++ tried) → LegalTurns rules (entry ledger) AtDiskFault left
          → IsCrashed (run_at ending all) (made ++ tried) k (length made + n)
      left-with left untaken given items changes legal = record {
        over = λ front next later e seen. over-later front next later e;
        turns = left;
        untaken = untaken;
        of_feed = given;
        items = items;
        changes = changes;
        legal = legal-left left items legal;
      }

      -- the first item of a turn attempts nothing
      first-other : (items : List Item) → taken.items ≡ items → AllByRecursion (λ item. is_attempt item.event ≡ true) items → ⊥
      first-other [] e attempts = cut.begun e
      first-other (x ∷ xs) e attempts =
          let same : x ∷ (xs ++ cut.missing) ≡ cut.whole.start ∷ ((cut.whole.polled ++ cut.whole.opened) ++ cut.whole.closed) = ap (λ (ys : List Item). ys ++ cut.missing) (sym e) ∙ cut.whole.nothing_else.1 in
          let first : x ≡ cut.whole.start = cc in
          let other : is_attempt x.event ≡ false = ap (λ (item : Item). is_attempt item.event) first ∙ ap is_attempt cut.whole.nothing_else.0 in
          let never : true ≡ false = sym attempts.0 ∙ other in
          cc

      none-yet : items_by k taken.items ≡ [] → n ≡ 0
      none-yet none =
          elim at.others_before_changes [
            | inl zero ↦ zero
            | inr attempts ↦ absurd (first-other (items_behind k taken.items) (split-at k taken.items rising ∙ ap (λ (xs : List Item). xs ++ items_behind k taken.items) none) attempts)
          ]

      pub crash-later : IsCrashed (run_at ending all) (made ++ tried) k (length made + n)
      crash-later =
          (elim (items_by k taken.items) as (λ xs. items_by k taken.items ≡ xs → IsCrashed (run_at ending all) (made ++ tried) k (length made + n)) [
            | [] ↦ λ none.
                left-with turns (taken.turn ∷ []) (sym (given-push turns taken)) (sym (by_all ∙ ap (λ (xs : List Item). items_in turns ++ xs) none ∙ append-nil (items_in turns)))
                (sym (left_all ∙ ap (λ (m : ℕ). made ++ take m tried) (none-yet none) ∙ append-nil made)) (legal-whole rules (entry ledger) AtDiskFault turns whole)
            | x ∷ xs ↦ λ some.
                let end : TakenTurn = cut_off (record taken { changes = tried }) k n in
                left-with (turns ++ end ∷ []) [] (append-nil (given_to (turns ++ end ∷ [])) ∙ given-push turns end ∙ sym (given-push turns taken)) (items-push turns end ∙ sym by_all) (changes-push turns end ∙ sym left_all)
                (legal-cut rules (entry ledger) AtDiskFault turns end refl whole
                (cut-cut rules (after_turns (entry ledger) turns) (record taken { changes = tried }) k n cut at rising (λ none. let both = sym some ∙ none in cc)))
          ]) refl

  -- ---- the moments of one turn more

  module _ (ending : Ending) (turns : List TakenTurn) (taken : TakenTurn) (tried : List Change) (sure : ℕ)
      (legal : LegalTurns rules (entry ledger) AtLimit turns) (cut : CutTurn rules (after_turns (entry ledger) turns) (record taken { changes = tried }))
      (numbered : AreNumbered (past_after [] (items_in (turns ++ taken ∷ [])))) (unfailed : AllByRecursion (λ item. item.faults ≡ faults) (items_in (turns ++ taken ∷ []))) where
    module _ (p q r : ℕ → Areas → Type 0) (x y z : Told) (before : AddsItems (items_in turns) x y) (here : AddsItems taken.items y z)
        (first : Moments (HoldsCrash (run_at AtLimit turns) (changes_in turns)) (length (changes_in turns)) p q x y)
        (second : Moments (HoldsFront taken.items (after ledger (changes_in turns)) tried) (sure) q r y z) where
      items-both : AddsItems (items_in (turns ++ taken ∷ [])) x z
      items-both = subst (λ (items : List Item). AddsItems items x z) (sym (items-push turns taken)) (items-then (items_in turns) taken.items x y z before first.later here second.later)

      holds-later : (least k : ℕ) (image : Areas) → y.moments ≤ k → HoldsFront taken.items (after ledger (changes_in turns)) tried least k image
          → HoldsCrash (run_at ending (turns ++ taken ∷ [])) (changes_in turns ++ tried) (length (changes_in turns) + least) k image
      holds-later least k image low front = record {
        count = length (changes_in turns) + front.count;
        enough = let l = front.enough in omega (arith, l);
        left = crash-later ending ending turns taken tried k front.count legal
            (recursion-weaker (λ (item : Item). (x.moments < item.moments) × (item.moments ≤ y.moments)) (λ item. item.moments ≤ k) (λ item h. let u = h.1 in omega (arith, u, low)) (items_in turns) before.placed)
            cut front.cut here.rising items-both.rising unfailed numbered;
        holds = subst (λ (held : List Change). HoldsState held image)
            (sym (ap (after ledger) (take-append-add (changes_in turns) tried front.count) ∙ after-append ledger (changes_in turns) (take front.count tried))) front.holds;
      }

      holds-earlier : (k : ℕ) (image : Areas) → k ≤ y.moments → HoldsCrash (run_at AtLimit turns) (changes_in turns) 0 k image
          → HoldsCrash (run_at ending (turns ++ taken ∷ [])) (changes_in turns ++ tried) 0 k image
      holds-earlier k image low crash = record {
        count = min crash.count (length (changes_in turns));
        enough = omega arith;
        left = crash-earlier ending AtLimit turns taken tried k crash.count
            (recursion-weaker (λ (item : Item). (y.moments < item.moments) × (item.moments ≤ z.moments)) (λ item. k < item.moments) (λ item h. let u = h.0 in omega (arith, u, low)) taken.items here.placed) crash.left;
        holds = subst (λ (more : List Change). HoldsState (after ledger more) image) (sym (take-within crash.count (changes_in turns) tried)) crash.holds;
      }

      holds-weaker : (low high k : ℕ) (image : Areas) → low ≤ high → HoldsCrash (run_at ending (turns ++ taken ∷ [])) (changes_in turns ++ tried) high k image
          → HoldsCrash (run_at ending (turns ++ taken ∷ [])) (changes_in turns ++ tried) low k image
      holds-weaker low high k image l crash = record { count = crash.count; enough = let e = crash.enough in omega (arith, l, e); left = crash.left; holds = crash.holds }

      turns-then : (least : ℕ) → least ≤ length (changes_in turns) + sure → Moments (HoldsCrash (run_at ending (turns ++ taken ∷ [])) (changes_in turns ++ tried)) least p r x z
      turns-then least l = record {
        later = omega (arith, first.later, second.later);
        past = past_then x.moments y.moments p q r first.later first.past second.past;
        each = λ k image behind upto left.
            elim (cases_lt y.moments k) [
              | inl later ↦ holds-weaker 0 (length (changes_in turns) + 0) k image (omega arith) (holds-later 0 k image (omega (arith, later)) (second.each k image later upto left))
              | inr low ↦ holds-earlier k image low (first.each k image behind low ((second.past k image low).0 left))
            ];
        last = λ image left.
            holds-weaker least (length (changes_in turns) + sure) z.moments image l (holds-later (sure) z.moments image second.later (second.last image left));
      }

    turns-told : (least : ℕ) → least ≤ length (changes_in turns) + sure → (p q r : ℕ → Areas → Type 0) (s t u : Option Told)
        → IfTold s t (AddsItems (items_in turns)) → IfTold t u (AddsItems taken.items)
        → IfTold s t (Moments (HoldsCrash (run_at AtLimit turns) (changes_in turns)) (length (changes_in turns)) p q)
        → IfTold t u (Moments (HoldsFront taken.items (after ledger (changes_in turns)) tried) (sure) q r)
        → IfTold s u (AddsItems (items_in (turns ++ taken ∷ []))) × IfTold s u (Moments (HoldsCrash (run_at ending (turns ++ taken ∷ [])) (changes_in turns ++ tried)) least p r)
    turns-told least l p q r s t None before here first second = (tt, tt)
    turns-told least l p q r s None (Some z) before here first second = absurd here
    turns-told least l p q r None (Some y) (Some z) before here first second = absurd before
    turns-told least l p q r (Some x) (Some y) (Some z) before here first second =
        (items-both p q r x y z before here first second, turns-then p q r x y z before here first second least l)

  -- a turn is added, whole or cut
  pub adds-turn : (ending : Ending) (turns : List TakenTurn) (taken : TakenTurn) (made failing : List Change) → LegalTurns rules (entry ledger) AtLimit turns
      → CutTurn rules (after_turns (entry ledger) turns) (record taken { changes = made ++ failing }) → AreNumbered (past_after [] (items_in (turns ++ taken ∷ [])))
      → AllByRecursion (λ item. item.faults ≡ faults) (items_in (turns ++ taken ∷ [])) → (old mid new : View) → AddsTurns (run_at AtLimit turns) (changes_in turns) old mid
      → Adds taken.items (after ledger (changes_in turns)) made failing mid new → length (changes_in (turns ++ taken ∷ [])) ≤ length (changes_in turns) + length made
      → AddsTurns (run_at ending (turns ++ taken ∷ [])) (changes_in turns ++ (made ++ failing)) old new
  adds-turn ending turns taken made failing legal cut numbered unfailed old mid new so_far next l =
      let both = turns-told ending turns taken (made ++ failing) (length made) legal cut numbered unfailed (length (changes_in (turns ++ taken ∷ []))) l
      old.images mid.images new.images old.told mid.told new.told so_far.trace next.trace so_far.moments next.moments in
      record {
        trace = both.0;
        moments = both.1;
        others = λ none.
            let here : AreNoFloors (made ++ failing) = floors-right (changes_in turns) (made ++ failing) none in
            others-told (HoldsCrash (run_at AtLimit turns) (changes_in turns)) (HoldsFront taken.items (after ledger (changes_in turns)) (made ++ failing)) (length (changes_in turns)) (length made)
            old.images mid.images new.images old.told mid.told new.told so_far.moments next.moments (so_far.others (floors-left (changes_in turns) (made ++ failing) none)) (next.others here);
      }

  -- no turn was taken yet
  module _ (old new : ℕ → Areas → Type 0) (x y : Told) (quiet : Moments (HoldsFront [] ledger []) 0 old new x y) (ending : Ending) where
    held-quiet : (k : ℕ) (image : Areas) → HoldsFront [] ledger [] 0 k image → HoldsCrash (run_at ending []) [] 0 k image
    held-quiet k image front = record {
      count = 0;
      enough = omega arith;
      left = crash-none (run_at ending []) [] k tt;
      holds = subst (λ (cs : List Change). HoldsState (after ledger cs) image) (take_all front.count [] (omega arith)) front.holds;
    }

    quiet-crash : Moments (HoldsCrash (run_at ending []) []) 0 old new x y
    quiet-crash = record {
      later = quiet.later;
      past = quiet.past;
      each = λ k image behind upto here. held-quiet k image (quiet.each k image behind upto here);
      last = λ image here. held-quiet y.moments image (quiet.last image here);
    }

  pub adds-no_turn : (ending : Ending) (view : View) → KeepsLedger ledger view.told view.images → AddsTurns (run_at ending []) [] view view
  adds-no_turn ending view keeps =
      let none = adds-none ledger view keeps in
      record {
        trace = none.trace;
        others = λ floors. none.others tt;
        moments = if_told_map view.told view.told (Moments (HoldsFront [] ledger []) 0 view.images view.images) (Moments (HoldsCrash (run_at ending []) []) 0 view.images view.images)
            (λ x y quiet. quiet-crash view.images view.images x y quiet ending) none.moments;
      }

  -- how the run ends plays no part
  left-ending : (ending other : Ending) (turns : List TakenTurn) (tried : List Change) (k n : ℕ) → IsCrashed (run_at ending turns) tried k n → IsCrashed (run_at other turns) tried k n
  left-ending ending other turns tried k n c = record { over = c.over; turns = c.turns; untaken = c.untaken; of_feed = c.of_feed; items = c.items; changes = c.changes; legal = c.legal }

  module _ (ending other : Ending) (turns : List TakenTurn) (tried : List Change) (least : ℕ) where
    crash-ending : (low k : ℕ) (image : Areas) → HoldsCrash (run_at ending turns) tried low k image → HoldsCrash (run_at other turns) tried low k image
    crash-ending low k image crash = record { count = crash.count; enough = crash.enough; left = left-ending ending other turns tried k crash.count crash.left; holds = crash.holds }

    moments-ending : (old new : ℕ → Areas → Type 0) (x y : Told) → Moments (HoldsCrash (run_at ending turns) tried) least old new x y → Moments (HoldsCrash (run_at other turns) tried) least old new x y
    moments-ending old new x y m = record {
      later = m.later;
      past = m.past;
      each = λ k image behind upto here. crash-ending 0 k image (m.each k image behind upto here);
      last = λ image here. crash-ending least y.moments image (m.last image here);
    }

  pub adds-ending : (ending other : Ending) (turns : List TakenTurn) (tried : List Change) (old new : View) → AddsTurns (run_at ending turns) tried old new → AddsTurns (run_at other turns) tried old new
  adds-ending ending other turns tried old new adds = record {
    trace = adds.trace;
    others = adds.others;
    moments = if_told_map old.told new.told (Moments (HoldsCrash (run_at ending turns) tried) (length (changes_in turns)) old.images new.images)
        (Moments (HoldsCrash (run_at other turns) tried) (length (changes_in turns)) old.images new.images)
        (λ x y m. moments-ending ending other turns tried (length (changes_in turns)) old.images new.images x y m) adds.moments;
  }

-- nothing was called
pub adds-left : (run : Run) (tried : List Change) (old mid new : View) → AddsTurns run tried old mid → LeavesView mid new → AddsTurns run tried old new
adds-left run tried old mid new adds left = record {
  trace = subst (λ (told : Option Told). IfTold old.told told (AddsItems (trace_of run))) (sym left.told) adds.trace;
  moments = subst (λ (told : Option Told). IfTold old.told told (Moments (HoldsCrash run tried) (length (changes_of run)) old.images new.images)) (sym left.told)
      (if_told_map old.told mid.told (Moments (HoldsCrash run tried) (length (changes_of run)) old.images mid.images) (Moments (HoldsCrash run tried) (length (changes_of run)) old.images new.images)
      (λ x y m. record {
        later = m.later;
        past = λ k image low. (λ now. (m.past k image low).0 ((left.images k image).0 now), λ was. (left.images k image).1 ((m.past k image low).1 was));
        each = λ k image behind upto now. m.each k image behind upto ((left.images k image).0 now);
        last = λ image now. m.last image ((left.images y.moments image).0 now);
      }) adds.moments);
  others = λ none. subst (λ (told : Option Told). IfTold old.told told (LeavesOthers old.images new.images)) (sym left.told)
      (if_told_map old.told mid.told (LeavesOthers old.images mid.images) (LeavesOthers old.images new.images)
      (λ x y o. record { reads = o.reads; each = λ k image behind upto now. o.each k image behind upto ((left.images k image).0 now) }) (adds.others none));
}

-- ---- what follows of every legal run

abbrev pub SettlesCleanly : Type 0
SettlesCleanly = (run : Run) → Legal run → (id : ℕ) → Contains (dones (changes_of run)) id → EndedCleanly [] (trace_of run) id

abbrev pub AttemptsOnce : Type 0
AttemptsOnce = (run : Run) → Legal run → OpensOnce run

module _ (settles : SettlesCleanly) (once : AttemptsOnce) (run : Run) (tried : List Change) where
  is-left : (k n : ℕ) → IsCrashed run tried k n → IsLeft run tried k n
  is-left k n c =
      let one = once (crashed run c.turns) c.legal in
      record {
        over = c.over;
        opened = λ id m.
            subst (λ (cs : List Change). Contains (map (λ item. item.id) (opens cs)) id) c.changes
            (subst (λ (ids : List ℕ). Contains ids id) one.attempted
            (Contains-append_left (opens_attempted (trace_of (crashed run c.turns))) one.unattempted id (subst (λ (items : List Item). Contains (opens_attempted items) id) (sym c.items) m)));
        settled = λ id m.
            subst (λ (items : List Item). EndedCleanly [] items id) c.items
            (settles (crashed run c.turns) c.legal id (subst (λ (cs : List Change). Contains (dones cs) id) (sym c.changes) m));
        turns = c.turns;
        untaken = c.untaken;
        of_feed = c.of_feed;
        items = c.items;
        changes = c.changes;
        legal = c.legal;
      }

  holds-run : (least k : ℕ) (image : Areas) → HoldsCrash run tried least k image → HoldsRun run tried least k image
  holds-run least k image crash = record { count = crash.count; enough = crash.enough; left = is-left k crash.count crash.left; holds = crash.holds }

  -- the moments of an opening and those of a run behind it
  pub moments-join : (old mid new : ℕ → Areas → Type 0) (x y z : Told) → IsLedgerOpening run.ledger true old mid x y
      → AddsItems (trace_of run) y z × Moments (HoldsCrash run tried) (length (changes_of run)) mid new y z → RunMoments run tried old new x z
  moments-join old mid new x y z opening both =
      let items = both.0 in
      let moments = both.1 in
      let begun = opening.first.since in
      let synced = opening.then.later in
      let on = moments.later in
      record {
        past = past_then x.moments y.moments old mid new (omega (arith, begun, synced)) opening.past moments.past;
        unsynced = opening.unsynced;
        first = record {
          since = begun;
          soon = opening.first.soon;
          within = omega (arith, synced, on);
          stood = λ k image low high now. opening.first.stood k image low high ((moments.past k image (omega (arith, high, synced))).0 now);
        };
        before = recursion-weaker (λ (item : Item). (y.moments < item.moments) × (item.moments ≤ z.moments)) (λ item. opening.unsynced < item.moments)
            (λ item h. let u = h.0 in omega (arith, u, synced)) (trace_of run) items.placed;
        then = record {
          later = omega (arith, synced, on);
          past = λ k image low. (λ h. h, λ h. h);
          each = λ k image low high now. elim (cases_lt y.moments k) [
            | inl behind ↦ holds-run 0 k image (moments.each k image behind high now)
            | inr before ↦
                let front = opening.then.each k image low before ((moments.past k image before).0 now) in
                record {
                  count = 0;
                  enough = omega arith;
                  left = is-left k 0 (crash-none run tried k
                      (recursion-weaker (λ (item : Item). (y.moments < item.moments) × (item.moments ≤ z.moments)) (λ item. k < item.moments) (λ item h. let u = h.0 in omega (arith, u, before)) (trace_of run) items.placed));
                  holds = subst (λ (cs : List Change). HoldsState (after run.ledger cs) image) (take_all front.0 [] (omega arith)) front.1;
                }
          ];
          last = λ image now. holds-run (length (changes_of run)) z.moments image (moments.last image now);
        };
      }
