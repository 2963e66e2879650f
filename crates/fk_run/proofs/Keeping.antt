-- What holds at each place of a legal run over a ledger: its changes are a ledger, each close that runs is of a live record, and
-- at most one close of a record runs.
use Rattle.std.proofs.Common.{◌≡◌, ◌≢◌, ◌⊎◌, ℕ, suc, ◌<◌, true, false, not, ◌==◌, List, [], ◌∷◌, ◌++◌, map, Option, Some, None, refl, sym, ap, ◌∙◌, subst, arith, inl, inr, append-nil}
use Rattle.std.specs.List.{filter, cons_option, AllZip, AllPairs, Contains}
use Rattle.std.proofs.lemmas.List.Elements.{Contains-push_cases, Contains-append_left, filter_passes, All-contains}
use Rattle.std.proofs.lemmas.Bool.{eqb-true, eq-eqb, false_from_ne_true}
use Rattle.fk_base.specs.declared.purpose.Purpose.{Purpose}
use Rattle.fk_base.specs.declared.purpose.Purpose.TheVariants.{Open, Close}
use Rattle.fk_trace.specs.declared.change.OpenRecord.{OpenRecord}
use Rattle.fk_trace.specs.declared.change.Change.{Change}
use Rattle.fk_trace.specs.declared.change.Change.TheVariants.{Done}
use Rattle.fk_trace.specs.Trace.{Event, Item, Child, children, running, still_running, begun_by, past_after}
use Rattle.fk_trace.specs.Trace.Event.{Turn, Began, StartFailed, Ended, Runs, PollFailed}
use Rattle.fk_trace.specs.Ledger.{dones, live, after, IsLedger}
use Rattle.fk_trace.specs.Idle.{child_numbered}
use Rattle.fk_trace.specs.Decision.{Answer}
use Rattle.fk_trace.specs.Decision.Answer.{Nothing, Refuses, Opens}
use Rattle.fk_trace.specs.Settled.{settled_at, settled_in, settlements}
use Rattle.fk_trace.specs.Attempts.{IsPollOf, IsAttempt, AttemptsThatOpen, Precedes}
use Rattle.fk_trace.proofs.Lists.{Contains-head, Contains-tail, Contains-filter, Contains-map, Contains-unmap, find-only, same_by_key}
use Rattle.fk_trace.proofs.Running.{running-children}
use Rattle.fk_trace.proofs.Settled.{settled-event}
use Rattle.fk_trace.proofs.Ledgers.{after-append, after-dones}
use Rattle.fk_trace.proofs.Made.{AreMade, IsLive, made-joined}
use Rattle.fk_run.proofs.Ledgers.{Contains-kept, ledger-push, ledger-made, live-made, live-one, live-kept_done}

abbrev ids_of : List OpenRecord → List ℕ
ids_of items = map (λ item. item.id) items

-- the children that run at a place, and the ledger there
pub record Keeps (cs : List Child) (ledger : List Change) : Type 0 where
  pub is_ledger : IsLedger ledger
  pub held : (child : Child) (id : ℕ) → Contains cs child → child.purpose ≡ Close id → Contains (map (λ item. item.id) (live ledger)) id
  pub one : (a b : Child) (id : ℕ) → Contains cs a → Contains cs b → a.purpose ≡ Close id → b.purpose ≡ Close id → a ≡ b

-- children are told apart by their numbers
abbrev pub IsNumbered : List Child → Type 0
IsNumbered cs = AllPairs (λ a b. a.number < b.number) cs

numbered_one : (past : List Item) → IsNumbered (children past) → (child : Child) → Contains (running past) child → child_numbered child.number past ≡ Some child
numbered_one past numbered child m =
    let began = running-children past child m in
    find-only (λ (c : Child). c.number == child.number) (children past) child began (eq-eqb child.number child.number refl)
    (λ x n t. same_by_key (λ (c : Child). c.number) (children past) (λ i j d l k. let lt = numbered i j d l k in λ same. absurd (omega arith)) x child n began (eqb-true x.number child.number t))

keeps-ended : (cs : List Child) (ledger : List Change) (child : Child) (number : ℕ) (settled : Option ℕ) → Keeps cs ledger → Contains cs child → number ≡ child.number
    → ((id : ℕ) → settled ≡ Some id → child.purpose ≡ Close id) → Keeps (filter (λ c. not (c.number == number)) cs) (ledger ++ map Done (cons_option settled []))
keeps-ended cs ledger child number None keeps m same closes =
    let among : (c : Child) → Contains (filter (λ c. not (c.number == number)) cs) c → Contains cs c = λ c k. Contains-filter (λ (x : Child). not (x.number == number)) cs c k in
    subst (λ (all : List Change). Keeps (filter (λ (c : Child). not (c.number == number)) cs) all) (sym (append-nil ledger))
    (record {
      is_ledger = keeps.is_ledger;
      held = λ c id k p. keeps.held c id (among c k) p;
      one = λ a b id k l p q. keeps.one a b id (among a k) (among b l) p q;
    })
keeps-ended cs ledger child number (Some settled) keeps m same closes =
    let rest : List Child = filter (λ (c : Child). not (c.number == number)) cs in
    let among : (c : Child) → Contains rest c → Contains cs c = λ c k. Contains-filter (λ (x : Child). not (x.number == number)) cs c k in
    let apart : (c : Child) → Contains rest c → c.number ≢ number =
    λ c k e.
    let passes = All-contains (λ (x : Child). not (x.number == number) ≡ true) rest c (filter_passes (λ (x : Child). not (x.number == number)) cs) k in
    let is = eq-eqb c.number number e in
    absurd cc in
    let ends : child.purpose ≡ Close settled = closes settled refl in
    record {
      is_ledger = ledger-push ledger (Done settled) keeps.is_ledger (keeps.held child settled m ends);
      held = λ c id k p. live-kept_done ledger settled id
          (λ e. apart c k (ap (λ (x : Child). x.number) (keeps.one c child settled (among c k) m (p ∙ ap Close e) ends) ∙ sym same)) (keeps.held c id (among c k) p);
      one = λ a b id k l p q. keeps.one a b id (among a k) (among b l) p q;
    }

keeps-same : (cs : List Child) (ledger : List Change) → Keeps cs ledger → Keeps (cs ++ []) (ledger ++ [])
keeps-same cs ledger keeps = subst (λ (xs : List Child). Keeps xs (ledger ++ [])) (sym (append-nil cs)) (subst (λ (all : List Change). Keeps cs all) (sym (append-nil ledger)) keeps)

-- what a poll settles is live
poll-closes : (past : List Item) (child : Child) (event : Event) → IsNumbered (children past) → Contains (running past) child → IsPollOf child event → (id : ℕ) → settled_at past event ≡ Some id → child.purpose ≡ Close id
poll-closes past child (Turn number) numbered m h id e = absurd h
poll-closes past child (Began number purpose words) numbered m h id e = absurd h
poll-closes past child (StartFailed purpose words) numbered m h id e = absurd h
poll-closes past child (Ended number good) numbered m h id e =
    let found : child_numbered number past ≡ Some child = ap (λ (n : ℕ). child_numbered n past) h ∙ numbered_one past numbered child m in
    let at = settled-event past (Ended number good) id e in
    let n : at.0 ≡ number = let is = at.1 in cc in
    let same : Some child ≡ Some (record { number = at.0; purpose = Close id }) = sym found ∙ ap (λ (k : ℕ). child_numbered k past) (sym n) ∙ at.2 in
    let is : child ≡ record { number = at.0; purpose = Close id } = cc in
    ap (λ (c : Child). c.purpose) is
poll-closes past child (Runs number) numbered m h id e = absurd cc
poll-closes past child (PollFailed number) numbered m h id e = absurd cc

-- a poll settles at most the record of the close that it ends
keeps-poll : (past : List Item) (ledger : List Change) (child : Child) (event : Event) → IsNumbered (children past) → Keeps (running past) ledger → Contains (running past) child → IsPollOf child event
    → Keeps (still_running event (running past) ++ begun_by event) (ledger ++ map Done (cons_option (settled_at past event) []))
keeps-poll past ledger child (Turn number) numbered keeps m h = absurd h
keeps-poll past ledger child (Began number purpose words) numbered keeps m h = absurd h
keeps-poll past ledger child (StartFailed purpose words) numbered keeps m h = absurd h
keeps-poll past ledger child (Ended number good) numbered keeps m h =
    let closes = poll-closes past child (Ended number good) numbered m h in
    subst (λ (cs : List Child). Keeps cs (ledger ++ map Done (cons_option (settled_at past (Ended number good)) []))) (sym (append-nil (filter (λ (c : Child). not (c.number == number)) (running past))))
    (keeps-ended (running past) ledger child number (settled_at past (Ended number good)) keeps m h closes)
keeps-poll past ledger child (Runs number) numbered keeps m h = keeps-same (running past) ledger keeps
keeps-poll past ledger child (PollFailed number) numbered keeps m h = keeps-same (running past) ledger keeps

settled-made : (ledger : List Change) (settled : Option ℕ) → ((id : ℕ) → settled ≡ Some id → IsLive ledger id) → AreMade IsLive ledger (map Done (cons_option settled []))
settled-made ledger None lives = tt
settled-made ledger (Some id) lives = (lives id refl, tt)

poll-begins_none : (child : Child) (event : Event) → IsPollOf child event → begun_by event ≡ []
poll-begins_none child (Turn number) h = refl
poll-begins_none child (Began number purpose words) h = absurd h
poll-begins_none child (StartFailed purpose words) h = refl
poll-begins_none child (Ended number good) h = refl
poll-begins_none child (Runs number) h = refl
poll-begins_none child (PollFailed number) h = refl

-- a poll leaves the children of other numbers running
poll-leaves : (child other : Child) (event : Event) (cs : List Child) → IsPollOf child event → child.number < other.number → Contains cs other → Contains (still_running event cs ++ begun_by event) other
poll-leaves child other (Turn number) cs h lt m = absurd h
poll-leaves child other (Began number purpose words) cs h lt m = absurd h
poll-leaves child other (StartFailed purpose words) cs h lt m = absurd h
poll-leaves child other (Ended number good) cs h lt m =
    let differs : (other.number == number) ≡ false = false_from_ne_true (other.number == number) (λ t. let same = eqb-true other.number number t in absurd (omega arith)) in
    Contains-append_left (filter (λ (c : Child). not (c.number == number)) cs) [] other (Contains-kept (λ (c : Child). not (c.number == number)) cs other (ap not differs) m)
poll-leaves child other (Runs number) cs h lt m = Contains-append_left cs [] other m
poll-leaves child other (PollFailed number) cs h lt m = Contains-append_left cs [] other m

map_cons : (o : Option ℕ) (ids : List ℕ) → map Done (cons_option o ids) ≡ map Done (cons_option o []) ++ map Done ids
map_cons None ids = refl
map_cons (Some id) ids = refl

-- the first of a list is below the others, which are below each other
rising-head : (child : Child) (order : List Child) → IsNumbered (child ∷ order) → (other : Child) → Contains order other → child.number < other.number
rising-head child order rising other m =
    let lt = rising 0 (suc m.0) other (omega arith) (let l = m.1 in omega arith) in
    let is = ap (λ (c : Child). c.number) m.2 in
    omega arith

rising-tail : (child : Child) (order : List Child) → IsNumbered (child ∷ order) → IsNumbered order
rising-tail child order rising = λ i j d l k. rising (suc i) (suc j) d (omega arith) (omega arith)

-- what is made over a ledger, and the children that run behind it
pub record KeepsOver (cs : List Child) (ledger changes : List Change) : Type 0 where
  pub made : AreMade IsLive ledger changes
  pub keeps : Keeps cs (after ledger changes)

pub keeps-polls : (past : List Item) (ledger : List Change) (order : List Child) (polled : List Item) → IsNumbered (children past) → Keeps (running past) ledger
    → AllZip (λ child item. IsPollOf child item.event) order polled → IsNumbered order → ((child : Child) → Contains order child → Contains (running past) child)
    → KeepsOver (running (past_after past polled)) ledger (settlements past polled)
keeps-polls past ledger [] [] numbered keeps polls rising each = record { made = tt; keeps = keeps }
keeps-polls past ledger [] (item ∷ polled) numbered keeps polls rising each = absurd polls
keeps-polls past ledger (child ∷ order) [] numbered keeps polls rising each = absurd polls
keeps-polls past ledger (child ∷ order) (item ∷ polled) numbered keeps polls rising each =
    let settled : Option ℕ = settled_at past item.event in
    let first : List Change = map Done (cons_option settled []) in
    let behind : after ledger first ≡ ledger ++ first = after-dones ledger (cons_option settled []) in
    let here : Contains (running past) child = each child (Contains-head child order) in
    let still : IsNumbered (children (item ∷ past)) =
    subst IsNumbered (sym (ap (λ (begun : List Child). children past ++ begun) (poll-begins_none child item.event polls.0) ∙ append-nil (children past))) numbered in
    let made : AreMade IsLive ledger first =
    settled-made ledger settled (λ id e. keeps.held child id here (poll-closes past child item.event numbered here polls.0 id e)) in
    let rest = keeps-polls (item ∷ past) (after ledger first) order polled still
    (subst (λ (all : List Change). Keeps (running (item ∷ past)) all) (sym behind) (keeps-poll past ledger child item.event numbered keeps here polls.0)) polls.1 (rising-tail child order rising)
    (λ other m. poll-leaves child other item.event (running past) polls.0 (rising-head child order rising other m) (each other (Contains-tail child order other m))) in
    let later : List Change = settlements (item ∷ past) polled in
    let all : first ++ later ≡ settlements past (item ∷ polled) = sym (map_cons settled (settled_in (item ∷ past) polled)) in
    subst (λ (changes : List Change). KeepsOver (running (past_after (item ∷ past) polled)) ledger changes) all
    (record {
      made = made-joined IsLive ledger first later made rest.made;
      keeps = subst (λ (there : List Change). Keeps (running (past_after (item ∷ past) polled)) there) (sym (after-append ledger first later)) rest.keeps;
    })

-- what is recorded settles nothing, so the closes that run are of live records still
pub keeps-recorded : (cs : List Child) (ledger changes : List Change) → AreMade IsLive ledger changes → dones changes ≡ [] → Keeps cs ledger → Keeps cs (after ledger changes)
keeps-recorded cs ledger changes made none keeps = record {
  is_ledger = ledger-made ledger changes keeps.is_ledger made;
  held = λ child id m p.
      let at = Contains-unmap (λ (r : OpenRecord). r.id) (live ledger) id (keeps.held child id m p) in
      elim (live-made IsLive ledger changes made at.0 at.1) [
        | inl lives ↦ subst (λ (n : ℕ). Contains (ids_of (live (after ledger changes))) n) at.2 (Contains-map (λ (r : OpenRecord). r.id) (live (after ledger changes)) at.0 lives)
        | inr settled ↦ absurd (let some = subst (λ (ids : List ℕ). Contains ids at.0.id) none settled in omega (arith, some.1))
      ];
  one = keeps.one;
}

-- a close may begin of a live record of which none runs
keeps-attempt : (cs : List Child) (ledger : List Change) (purpose : Purpose) (words : List (List ℕ)) (event : Event) → IsAttempt purpose words event → Keeps cs ledger
    → ((id : ℕ) → purpose ≡ Close id → Contains (ids_of (live ledger)) id) → ((id : ℕ) (child : Child) → purpose ≡ Close id → Contains cs child → child.purpose ≡ Close id → ⊥)
    → Keeps (still_running event cs ++ begun_by event) ledger
keeps-attempt cs ledger purpose words (Turn number) h keeps lives none = absurd h
keeps-attempt cs ledger purpose words (Began number other others) h keeps lives none =
    let begun : Child = record { number = number; purpose = other } in
    let closes : (id : ℕ) → other ≡ Close id → purpose ≡ Close id = λ id e. sym h.0 ∙ e in
    record {
      is_ledger = keeps.is_ledger;
      held = λ child id m p. elim (Contains-push_cases cs begun child m) [
        | inl k ↦ keeps.held child id k p
        | inr e ↦ lives id (closes id (ap (λ (c : Child). c.purpose) e ∙ p))
      ];
      one = λ a b id m n p q. elim (Contains-push_cases cs begun a m) [
        | inl k ↦ elim (Contains-push_cases cs begun b n) [
          | inl l ↦ keeps.one a b id k l p q
          | inr e ↦ absurd (none id a (closes id (ap (λ (c : Child). c.purpose) e ∙ q)) k p)
        ]
        | inr e ↦ elim (Contains-push_cases cs begun b n) [
          | inl l ↦ absurd (none id b (closes id (ap (λ (c : Child). c.purpose) e ∙ p)) l q)
          | inr f ↦ sym e ∙ f
        ]
      ];
    }
keeps-attempt cs ledger purpose words (StartFailed other others) h keeps lives none = subst (λ (xs : List Child). Keeps xs ledger) (sym (append-nil cs)) keeps
keeps-attempt cs ledger purpose words (Ended number good) h keeps lives none = absurd h
keeps-attempt cs ledger purpose words (Runs number) h keeps lives none = absurd h
keeps-attempt cs ledger purpose words (PollFailed number) h keeps lives none = absurd h

pub keeps-opened : (past : List Item) (ledger : List Change) (a : Answer) (opened : List Item) → AttemptsThatOpen a opened → Keeps (running past) ledger → Keeps (running (past_after past opened)) ledger
keeps-opened past ledger Nothing opened h keeps = rw h keeps
keeps-opened past ledger (Refuses why) opened h keeps = rw h keeps
keeps-opened past ledger (Opens item permit making) [] h keeps = absurd h
keeps-opened past ledger (Opens item permit making) (x ∷ []) h keeps =
    keeps-attempt (running past) ledger (Open item.id) permit.opening x.event h keeps (λ id e. absurd cc) (λ id child e m p. absurd cc)
keeps-opened past ledger (Opens item permit making) (x ∷ y ∷ opened) h keeps = absurd h

-- what runs beside a child that has begun ran before it, or is that one
attempt-runs : (purpose : Purpose) (words : List (List ℕ)) (event : Event) (cs : List Child) (child : Child) → IsAttempt purpose words event → Contains (still_running event cs ++ begun_by event) child
    → Contains cs child ⊎ (child.purpose ≡ purpose)
attempt-runs purpose words (Turn number) cs child h m = absurd h
attempt-runs purpose words (Began number other others) cs child h m =
    elim (Contains-push_cases cs (record { number = number; purpose = other }) child m) [ inl k ↦ inl k | inr e ↦ inr (sym (ap (λ (c : Child). c.purpose) e) ∙ h.0) ]
attempt-runs purpose words (StartFailed other others) cs child h m = inl (subst (λ (xs : List Child). Contains xs child) (append-nil cs) m)
attempt-runs purpose words (Ended number good) cs child h m = absurd h
attempt-runs purpose words (Runs number) cs child h m = absurd h
attempt-runs purpose words (PollFailed number) cs child h m = absurd h

pub keeps-closed : (past : List Item) (ledger : List Change) (order : List OpenRecord) (closed : List Item) → Keeps (running past) ledger
    → AllZip (λ closing item. IsAttempt (Close closing.id) closing.close item.event) order closed → AllPairs Precedes order
    → ((closing : OpenRecord) → Contains order closing → Contains (live ledger) closing)
    → ((closing : OpenRecord) (child : Child) → Contains order closing → Contains (running past) child → child.purpose ≡ Close closing.id → ⊥)
    → Keeps (running (past_after past closed)) ledger
keeps-closed past ledger [] [] keeps closes rising lives none = keeps
keeps-closed past ledger [] (item ∷ closed) keeps closes rising lives none = absurd closes
keeps-closed past ledger (closing ∷ order) [] keeps closes rising lives none = absurd closes
keeps-closed past ledger (closing ∷ order) (item ∷ closed) keeps closes rising lives none =
    let here = Contains-head closing order in
    let first = keeps-attempt (running past) ledger (Close closing.id) closing.close item.event closes.0 keeps
    (λ id e. let same : closing.id ≡ id = cc in subst (λ (n : ℕ). Contains (ids_of (live ledger)) n) same (Contains-map (λ (r : OpenRecord). r.id) (live ledger) closing (lives closing here)))
    (λ id child e m p. none closing child here m (p ∙ sym e)) in
    let apart : (other : OpenRecord) → Contains order other → closing.id ≢ other.id =
    λ other m same.
    let one = live-one ledger keeps.is_ledger closing other (lives closing here) (lives other (Contains-tail closing order other m)) same in
    let precedes : Precedes closing other = subst (λ (r : OpenRecord). Precedes closing r) m.2 (rising 0 (suc m.0) other (omega arith) (let l = m.1 in omega arith)) in
    let dues = ap (λ (r : OpenRecord). r.due) one in
    elim precedes [ inl lt ↦ absurd (omega arith) | inr lt ↦ absurd (let l = lt.1 in omega arith) ] in
    keeps-closed (item ∷ past) ledger order closed first closes.1 (λ i j d l k. rising (suc i) (suc j) d (omega arith) (omega arith))
    (λ other m. lives other (Contains-tail closing order other m))
    (λ other child m n p. elim (attempt-runs (Close closing.id) closing.close item.event (running past) child closes.0 n) [
      | inl ran ↦ none other child (Contains-tail closing order other m) ran p
      | inr is ↦ apart other m (let e = sym is ∙ p in cc)
    ])
