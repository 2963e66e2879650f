-- In a legal run a number means one child.
use Rattle.std.proofs.Common.{◌≡◌, ℕ, ◌<◌, true, false, ◌==◌, List, [], ◌∷◌, ◌++◌, Some, refl, sym, ap, ◌∙◌, subst, arith}
use Rattle.std.specs.List.{Contains}
use Rattle.std.proofs.lemmas.Bool.{eqb-true, eq-eqb, false_from_ne_true}
use Rattle.std.proofs.lemmas.List.Elements.{Contains-append_left, Contains-append_right}
use Rattle.fk_trace.specs.Trace.{Event, Item, Child, children, begun_by, past_after}
use Rattle.fk_trace.specs.Trace.Event.{Turn, Began, StartFailed, Ended, Runs, PollFailed}
use Rattle.fk_trace.specs.Idle.{child_numbered, begins, is_clean}
use Rattle.fk_trace.proofs.Lists.{Contains-head, find-only, same_by_key}
use Rattle.fk_trace.proofs.Splits.{pair-before}
use Rattle.fk_trace.proofs.Settled.{past_after-append}
use Rattle.fk_run.specs.Run.{Run, trace_of}
use Rattle.fk_run.specs.Legal.{Legal, BeganBehind, MeansChild}
use Rattle.fk_run.proofs.Keeping.{IsNumbered}
use Rattle.fk_run.proofs.Leaves.{children-after, numbered-before}

-- behind a child none of its number begins
none_again : (past : List Item) (event : Event) (child : Child) → Contains (children past) child → IsNumbered (children past ++ begun_by event) → begins child.number event ≡ true → ⊥
none_again past (Turn number) child m numbered t = absurd cc
none_again past (Began number purpose words) child m numbered t =
    let lt = pair-before (λ (a b : Child). a.number < b.number) (children past) (record { number = number; purpose = purpose }) [] child numbered m in
    let same = eqb-true number child.number t in
    absurd (omega arith)
none_again past (StartFailed purpose words) child m numbered t = absurd cc
none_again past (Ended number good) child m numbered t = absurd cc
none_again past (Runs number) child m numbered t = absurd cc
none_again past (PollFailed number) child m numbered t = absurd cc

clean-kept : (past between : List Item) (child : Child) (id : ℕ) → Contains (children past) child → IsNumbered (children (past_after past between)) → is_clean (past_after past between) child.number id ≡ is_clean past child.number id
clean-kept past [] child id m numbered = refl
clean-kept past (item ∷ between) child id m numbered =
    let none : begins child.number item.event ≡ false =
    false_from_ne_true (begins child.number item.event) (none_again past item.event child m (numbered-before (item ∷ past) between numbered)) in
    let here : is_clean (item ∷ past) child.number id ≡ is_clean past child.number id = rw none refl in
    clean-kept (item ∷ past) between child id (Contains-append_left (children past) (begun_by item.event) child m) numbered ∙ here

begun-found : (past : List Item) (child : Child) → IsNumbered (children past) → Contains (children past) child → child_numbered child.number past ≡ Some child
begun-found past child numbered m =
    find-only (λ (c : Child). c.number == child.number) (children past) child m (eq-eqb child.number child.number refl)
    (λ x n t. same_by_key (λ (c : Child). c.number) (children past) (λ i j d l k. let lt = numbered i j d l k in λ same. absurd (omega arith)) x child n m (eqb-true x.number child.number t))

pub means-one : (run : Run) → Legal run → (before : List Item) (child : Child) (past : List Item) → BeganBehind run before child past → MeansChild before child past
means-one run legal before child past from =
    let start : List Item = past_after [] before in
    let place : List Item = past_after (from.item ∷ start) from.between in
    let same : past ≡ place = from.since ∙ past_after-append [] before (from.item ∷ from.between) in
    let all : past_after [] (trace_of run) ≡ past_after place from.later =
    ap (past_after []) from.placed ∙ past_after-append [] before (from.item ∷ (from.between ++ from.later)) ∙ past_after-append (from.item ∷ start) from.between from.later in
    let numbered : IsNumbered (children place) = numbered-before place from.later (subst (λ (looking : List Item). IsNumbered (children looking)) all legal.numbered) in
    let begun : Contains (children (from.item ∷ start)) child =
    subst (λ (event : Event). Contains (children start ++ begun_by event) child) (sym from.began) (Contains-append_right (children start) (child ∷ []) child (Contains-head child [])) in
    let more = children-after (from.item ∷ start) from.between in
    let there : Contains (children place) child = subst (λ (cs : List Child). Contains cs child) (sym more.1) (Contains-append_left (children (from.item ∷ start)) more.0 child begun) in
    let first : begins child.number from.item.event ≡ true = ap (begins child.number) from.began ∙ eq-eqb child.number child.number refl in
    subst (λ (looking : List Item). MeansChild before child looking) (sym same)
    (record {
      found = begun-found place child numbered there;
      clean = λ id. clean-kept (from.item ∷ start) from.between child id begun numbered ∙ rw first refl;
    })
