-- The closes that are due are attempted, one after another.
use Rattle.std.proofs.Common.{◌≡◌, ℕ, suc, ◌+◌, ◌≤◌, ◌==◌, ◌||◌, Bool, true, false, not, cond, List, [], ◌∷◌, ◌++◌, map, length, Some, Result, Ok, Err, inl, inr, refl, sym, ap, subst, ◌∙◌, append-nil, length-append, arith, eq-eqb}
use Rattle.std.specs.Prelude.{IsErr}
use Rattle.std.specs.List.{Contains, cons_option, find}
use Rattle.std.proofs.lemmas.Bool.{eqb-true}
use Rattle.std.proofs.lemmas.List.Elements.{filter_map-append}
use Rattle.fk_base.specs.declared.memory.NoMemory.{NoMemory}
use Rattle.fk_base.specs.declared.purpose.Purpose.{Purpose}
use Rattle.fk_base.specs.declared.purpose.Purpose.TheVariants.{Close}
use Rattle.fk_trace.specs.declared.change.OpenRecord.{OpenRecord}
use Rattle.fk_trace.specs.declared.change.Change.{Change}
use Rattle.fk_trace.specs.Trace.{Event, Item, attempt_of, is_turn, is_close_attempt_of, close_tried}
use Rattle.fk_trace.specs.Trace.Event.{Turn, Began, StartFailed, Ended, Runs, PollFailed}
use Rattle.fk_trace.specs.Ledger.{live, IsLedger}
use Rattle.fk_trace.specs.Attempts.{IsAttempt}
use Rattle.fk_trace.proofs.Lists.{Contains-head, Contains-tail, Contains-cases}
use Rattle.fk_run.specs.Place.{Place, behind}
use Rattle.fk_run.proofs.Ledgers.{live-one}
use Rattle.fk_log.specs.Line.{Line}
use Rattle.fk_log.specs.Line.Line.{ClosedLine}
use Rattle.fk_log.specs.Log.{attempt_line, attempt_lines}
use Rattle.fk_log.specs.Writing.{Output, Logs}
use Rattle.fk_conf.specs.declared.conf.Conf.{Conf}
use Rattle.fk_ledger.specs.Book.{Book}
use Rattle.fk_host.specs.Disk.{Above}
use Rattle.fk_cycle.specs.Kept.{Kept}
use Rattle.fk_cycle.specs.Stands.{Obligation, kept_of}
use Rattle.fk_child.specs.declared.items.Tried.{Tried}
use Rattle.fk_child.specs.View.{View, Adds}
use Rattle.fk_child.specs.Crew.{CrewState, IsTied, StandsAt, obligations_but}
use Rattle.fk_child.specs.Calls.{Goes, TriesNext, IsNextClose, is_begun}
use Rattle.fk_turn.specs.Daemon.{Scene, DaemonStands, AtRest, RestsSomehow, scene}
use Rattle.fk_turn.specs.Parts.{AttemptsNext, closing_part, AttemptsCloses, Closes, Part, joined, reached, ServesPart}
use Rattle.fk_child.proofs.Images.{calls-none, calls-then, calls-same}
use Rattle.fk_turn.proofs.Logging.{logs-nothing}
use Rattle.fk_turn.proofs.Places.{place-same, serves-join}
use Rattle.fk_child.proofs.Others.{area-kept}
use Rattle.fk_turn.proofs.Finishing.{passing, count-lt}
use Rattle.fk_turn.proofs.Assembly.{part-same, next-untried}
use Rattle.fk_turn.proofs.Parting.{crew_host, serves-nothing}

-- the record that is found by its number
found-first : (p : OpenRecord → Bool) (xs : List OpenRecord) (x : OpenRecord) → Contains xs x → p x ≡ true → (y : OpenRecord) × (find p xs ≡ Some y) × Contains xs y × (p y ≡ true)
found-first p [] x m e = absurd (let l = m.1 in omega arith)
found-first p (y ∷ ys) x m e =
    (elim (p y) as (λ b. p y ≡ b → (z : OpenRecord) × (cond b (Some y) (find p ys) ≡ Some z) × Contains (y ∷ ys) z × (p z ≡ true)) [
      | true ↦ λ t. (y, refl, Contains-head y ys, t)
      | false ↦ λ t. elim (Contains-cases y ys x m) [
        | inl same ↦ absurd (let u = ap p same in cc)
        | inr within ↦ let rest = found-first p ys x within e in (rest.0, rest.1, Contains-tail y ys rest.0 rest.2, rest.3)
      ]
    ]) refl

pub found-live : (ledger : List Change) (closing : OpenRecord) (id : ℕ) → IsLedger ledger → Contains (live ledger) closing → id ≡ closing.id → find (λ item. item.id == id) (live ledger) ≡ Some closing
found-live ledger closing id l m same =
    let found = found-first (λ (item : OpenRecord). item.id == id) (live ledger) closing m (eq-eqb closing.id id (sym same)) in
    let is : found.0 ≡ closing = live-one ledger l found.0 closing found.2 m (eqb-true found.0.id id found.3 ∙ same) in
    found.1 ∙ ap (λ (item : OpenRecord). Some item) is

-- the line of an attempt of a close
close-line : (moment id : ℕ) (words : List (List ℕ)) (event : Event) → IsAttempt (Close id) words event
    → cons_option (attempt_line moment (attempt_of event)) [] ≡ ClosedLine moment id words (is_begun event) ∷ []
close-line moment id words (Turn number) h = absurd h
close-line moment id words (Began number purpose others) h =
    ap (λ (p : Purpose). cons_option (attempt_line moment (attempt_of (Began number p others))) []) h.0 ∙ ap (λ (ws : List (List ℕ)). ClosedLine moment id ws true ∷ []) h.1
close-line moment id words (StartFailed purpose others) h =
    ap (λ (p : Purpose). cons_option (attempt_line moment (attempt_of (StartFailed p others))) []) h.0 ∙ ap (λ (ws : List (List ℕ)). ClosedLine moment id ws false ∷ []) h.1
close-line moment id words (Ended number good) h = absurd h
close-line moment id words (Runs number) h = absurd h
close-line moment id words (PollFailed number) h = absurd h

-- whether a close of a record was tried, behind an attempt
tried-behind : (id other : ℕ) (words : List (List ℕ)) (item : Item) (past : List Item) → IsAttempt (Close id) words item.event → close_tried (item ∷ past) other ≡ (id == other) || close_tried past other
tried-behind id other words item past = behind item.event
  where
    behind : (event : Event) → IsAttempt (Close id) words event → (cond (is_turn event) false (is_close_attempt_of other event || close_tried past other)) ≡ (id == other) || close_tried past other
    behind (Turn number) h = absurd h
    behind (Began number purpose others) h = ap (λ (p : Purpose). is_close_attempt_of other (Began number p others) || close_tried past other) h.0
    behind (StartFailed purpose others) h = ap (λ (p : Purpose). is_close_attempt_of other (StartFailed p others) || close_tried past other) h.0
    behind (Ended number good) h = absurd h
    behind (Runs number) h = absurd h
    behind (PollFailed number) h = absurd h

passing-map : {X Y : Type 0} (p : Y → Bool) (f : X → Y) (xs : List X) → passing p (map f xs) ≡ passing (λ x. p (f x)) xs
passing-map p f [] = refl
passing-map p f (x ∷ xs) = ap (λ (n : ℕ). cond (p (f x)) 1 0 + n) (passing-map p f xs)

abbrev pub untried : Kept → Bool
untried kept = not kept.tried

-- after an attempt fewer records are untried
pub fewer-untried : (moment : ℕ) (at : Place) (c1 c2 : CrewState) (a1 a2 : Above) (closing : OpenRecord) (attempt : Item) → IsTied c1 a1 at → c1.unsettled ≡ [] → IsTied c2 a2 (behind moment at (attempt ∷ [])) → c2.unsettled ≡ []
    → IsLedger at.ledger → IsNextClose moment at closing → IsAttempt (Close closing.id) closing.close attempt.event → suc (passing untried c2.kept) ≤ passing untried c1.kept
fewer-untried moment at c1 c2 a1 a2 closing attempt t1 u1 t2 u2 l next tried =
    let p : Obligation → Bool = λ o. not (close_tried at.past o.id) in
    let q : Obligation → Bool = λ o. not (close_tried (attempt ∷ at.past) o.id) in
    let obligations : List Obligation = obligations_but [] at.ledger in
    let before : passing untried c1.kept ≡ passing p obligations =
    ap (passing untried) (t1.stands.kept ∙ ap (λ (us : List ℕ). map (kept_of at.past at.ends) (obligations_but us at.ledger)) u1) ∙ passing-map untried (kept_of at.past at.ends) obligations in
    let later : passing untried c2.kept ≡ passing q obligations =
    ap (passing untried) (t2.stands.kept ∙ ap (λ (us : List ℕ). map (kept_of (attempt ∷ at.past) (behind moment at (attempt ∷ [])).ends) (obligations_but us at.ledger)) u2)
    ∙ passing-map untried (kept_of (attempt ∷ at.past) (behind moment at (attempt ∷ [])).ends) obligations in
    let harder : (o : Obligation) → q o ≡ true → p o ≡ true = λ o e. weaker (closing.id == o.id) (close_tried at.past o.id) (sym (ap not (tried-behind closing.id o.id closing.close attempt at.past tried)) ∙ e) in
    let fails : q next.next.0 ≡ false =
    ap not (tried-behind closing.id next.next.0.id closing.close attempt at.past tried
    ∙ ap (λ (b : Bool). b || close_tried at.past next.next.0.id) (eq-eqb closing.id next.next.0.id (sym next.next.2))) in
    let passes : p next.next.0 ≡ true =
    ap (λ (id : ℕ). not (close_tried at.past id)) next.next.2 ∙ ap not (next-untried moment at closing l next) in
    let fewer = count-lt p q harder obligations next.next.0 next.next.1 passes fails in
    omega (arith, fewer, before, later)
  where
    weaker : (b t : Bool) → not (b || t) ≡ true → not t ≡ true
    weaker true t e = absurd cc
    weaker false t e = e

-- one more attempt behind those before it
next-more : (moment : ℕ) (place : Place) (xs : List Item) (x : Item) → AttemptsNext moment place xs
    → (closing : OpenRecord) × IsNextClose moment (behind moment place xs) closing × IsAttempt (Close closing.id) closing.close x.event → AttemptsNext moment place (xs ++ x ∷ [])
next-more moment place [] x a n = (n, tt)
next-more moment place (y ∷ ys) x a n = (a.0, next-more moment (behind moment place (y ∷ [])) ys x a.1 n)

behind-reached : (moment : ℕ) (place : Place) (xs : List Item) → behind moment place xs ≡ reached moment place (closing_part moment xs)
behind-reached moment place xs = place-same (behind moment place xs) (reached moment place (closing_part moment xs)) refl refl refl refl

pub closes-none : (conf : Conf) (moment : ℕ) (place : Place) (at : Scene) → AtRest conf at place → Adds [] place.ledger [] [] at.host at.host → AttemptsCloses 0 conf moment place at at
closes-none conf moment place at rest adds = record { closed = []; calls = calls-none at.host; attempts = tt; serves = serves-nothing conf moment place at rest.stands adds; settled = rest.settled }

-- where the closes so far have led
pub closes-stands : (conf : Conf) (moment : ℕ) (place : Place) (s0 s1 : Scene) → (done : AttemptsCloses 0 conf moment place s0 s1) → DaemonStands conf s1 (behind moment place done.closed)
closes-stands conf moment place s0 s1 done = subst (DaemonStands conf s1) (sym (behind-reached moment place done.closed)) done.serves.stands

module _ (conf : Conf) (moment : ℕ) (place : Place) (s0 : Scene) (book : Book) (turns : ℕ) (c1 c2 : CrewState) (h1 h2 : View) (o1 : Output)
    (done : AttemptsCloses 0 conf moment place s0 (scene (record { book = book; crew = c1; turns = turns }) h1 o1)) where
  abbrev s1 : Scene
  s1 = scene (record { book = book; crew = c1; turns = turns }) h1 o1

  abbrev at : Place
  at = behind moment place done.closed

  -- further items are attempts
  module _ (further : ℕ) (items : List Item) (o2 : Output) (goes : Goes (length items + further) moment at items (crew_host c1 h1) (crew_host c2 h2)) (lines : Logs (attempt_lines moment items) o1 o2) (settled : c2.unsettled ≡ [])
      (attempts : AttemptsNext moment place (done.closed ++ items)) where
    abbrev s2 : Scene
    s2 = scene (record { book = book; crew = c2; turns = turns }) h2 o2

    step : ServesPart conf moment at (closing_part moment items) s1 s2
    step =
        let before = closes-stands conf moment place s0 s1 done in
        let stands : DaemonStands conf s2 (behind moment at items) = record {
          changes = before.changes;
          limit = before.limit;
          room = before.room;
          keep = before.keep;
          unspent = before.unspent;
          area = area-kept book book h1 h2 refl goes.selects before.area;
          stands = goes.stands;
          number = before.number;
        } in
        record {
          adds = goes.adds;
          disk = goes.disk;
          logs = lines;
          stands = subst (DaemonStands conf s2) (behind-reached moment at items) stands;
        }

    pub closes-joined : AttemptsCloses further conf moment place s0 s2
    closes-joined = record {
      closed = done.closed ++ items;
      calls = calls-same ((length done.closed + 0) + (length items + further)) (length (done.closed ++ items) + further) s0.host h2
          (let both = length-append done.closed items in omega (arith, both))
          (calls-then (length done.closed + 0) (length items + further) s0.host h1 h2 done.calls goes.calls);
      attempts = attempts;
      serves = subst (λ (part : Part). ServesPart conf moment place part s0 s2)
          (part-same (joined (closing_part moment done.closed) (closing_part moment items)) (closing_part moment (done.closed ++ items)) refl refl
          (sym (filter_map-append (λ (item : Item). attempt_line moment (attempt_of item.event)) done.closed items)))
          (serves-join conf moment place (closing_part moment done.closed) (closing_part moment items) s0 s1 s2 (record { attempts = inl refl; others = inl refl }) done.serves
          (subst (λ (p : Place). ServesPart conf moment p (closing_part moment items) s1 s2) (behind-reached moment place done.closed) step));
      settled = settled;
    }

-- what a loop over the closes keeps
pub record KeepsClosing (moment : ℕ) (old new : Scene) : Type 0 where
  pub rests : RestsSomehow old
  pub front : (conf : Conf) (place : Place) → AtRest conf old place → AttemptsCloses 0 conf moment place old new

-- where it stands
pub closing-rests : (moment : ℕ) (old new : Scene) (keeps : KeepsClosing moment old new) → RestsSomehow new
closing-rests moment old new keeps =
    let done = keeps.front keeps.rests.0 keeps.rests.1.0 keeps.rests.1.1 in
    (keeps.rests.0, (behind moment keeps.rests.1.0 done.closed, record { stands = closes-stands keeps.rests.0 moment keeps.rests.1.0 old new done; settled = done.settled }))

-- one more close was attempted
pub closes-next : (moment : ℕ) (s0 : Scene) (book : Book) (turns : ℕ) (c1 c2 : CrewState) (h1 h2 : View) (o1 o2 : Output) (tried : Tried)
    → KeepsClosing moment s0 (scene (record { book = book; crew = c1; turns = turns }) h1 o1)
    → ((at : Place) → at.ledger ≡ book.changes → StandsAt (crew_host c1 h1) at → TriesNext moment tried at (crew_host c1 h1) (crew_host c2 h2))
    → c2.unsettled ≡ c1.unsettled
    → ((closing : OpenRecord) → find (λ item. item.id == tried.id) (live book.changes) ≡ Some closing → Logs (ClosedLine moment tried.id closing.close tried.begun ∷ []) o1 o2)
    → KeepsClosing moment s0 (scene (record { book = book; crew = c2; turns = turns }) h2 o2)
closes-next moment s0 book turns c1 c2 h1 h2 o1 o2 tried keeps tries same line = record {
  rests = keeps.rests;
  front = λ conf place rest.
      let done = keeps.front conf place rest in
      let s1 : Scene = scene (record { book = book; crew = c1; turns = turns }) h1 o1 in
      let at : Place = behind moment place done.closed in
      let stands : DaemonStands conf s1 at = closes-stands conf moment place s0 s1 done in
      let next = tries at (sym stands.changes) stands.stands in
      let attempt : Item = next.attempts.0 in
      let l : IsLedger at.ledger = stands.stands.keeps.follow in
      let found : find (λ (item : OpenRecord). item.id == tried.id) (live book.changes) ≡ Some next.closing =
      ap (λ (cs : List Change). find (λ (item : OpenRecord). item.id == tried.id) (live cs)) stands.changes ∙ found-live at.ledger next.closing tried.id l next.next.lives next.numbered in
      let lines : ClosedLine moment tried.id next.closing.close tried.begun ∷ [] ≡ attempt_lines moment (attempt ∷ []) =
      ap (λ (id : ℕ). ClosedLine moment id next.closing.close tried.begun ∷ []) next.numbered
      ∙ ap (λ (b : Bool). ClosedLine moment next.closing.id next.closing.close b ∷ []) next.attempts.2
      ∙ sym (close-line moment next.closing.id next.closing.close attempt.event next.attempts.1) in
      closes-joined conf moment place s0 book turns c1 c2 h1 h2 o1 done 0 (attempt ∷ []) o2 (next.attempts.3 moment)
      (subst (λ (xs : List Line). Logs xs o1 o2) lines (line next.closing found)) (same ∙ done.settled)
      (next-more moment place done.closed attempt done.attempts (next.closing, next.next, next.attempts.1));
}

pub closes-fewer : (moment : ℕ) (s0 : Scene) (book : Book) (turns : ℕ) (c1 c2 : CrewState) (h1 h2 : View) (o1 : Output) (tried : Tried)
    → KeepsClosing moment s0 (scene (record { book = book; crew = c1; turns = turns }) h1 o1)
    → ((at : Place) → at.ledger ≡ book.changes → StandsAt (crew_host c1 h1) at → TriesNext moment tried at (crew_host c1 h1) (crew_host c2 h2))
    → c2.unsettled ≡ c1.unsettled → suc (passing untried c2.kept) ≤ passing untried c1.kept
closes-fewer moment s0 book turns c1 c2 h1 h2 o1 tried keeps tries same =
    let s1 : Scene = scene (record { book = book; crew = c1; turns = turns }) h1 o1 in
    let rests = closing-rests moment s0 s1 keeps in
    let at : Place = rests.1.0 in
    let stands = rests.1.1.stands in
    let next = tries at (sym stands.changes) stands.stands in
    let goes = next.attempts.3 moment in
    fewer-untried moment at c1 c2 h1.above h2.above next.closing next.attempts.0 stands.stands.tied rests.1.1.settled goes.stands.tied (same ∙ rests.1.1.settled) stands.stands.keeps.follow next.next next.attempts.1

-- memory was wanting for another one
pub closes-short : {T : Type 0} (conf : Conf) (moment : ℕ) (place : Place) (s0 : Scene) (book : Book) (turns : ℕ) (c1 c2 : CrewState) (h1 h2 : View) (o1 : Output) (r : Result T NoMemory)
    → IsErr r → (done : AttemptsCloses 0 conf moment place s0 (scene (record { book = book; crew = c1; turns = turns }) h1 o1))
    → (closing : OpenRecord) × IsNextClose moment (behind moment place done.closed) closing → Goes 1 moment (behind moment place done.closed) [] (crew_host c1 h1) (crew_host c2 h2) → c2.unsettled ≡ c1.unsettled
    → Closes conf moment place s0 (scene (record { book = book; crew = c2; turns = turns }) h2 o1) r
unfolding closes-joined
closes-short conf moment place s0 book turns c1 c2 h1 h2 o1 (Ok x) e done next goes same = absurd cc
closes-short conf moment place s0 book turns c1 c2 h1 h2 o1 (Err x) e done next goes same =
    let joined = closes-joined conf moment place s0 book turns c1 c2 h1 h2 o1 done 1 [] o1 goes (logs-nothing o1) (same ∙ done.settled)
    (subst (AttemptsNext moment place) (sym (append-nil done.closed)) done.attempts) in
    (joined, (next.0, subst (λ (xs : List Item). IsNextClose moment (behind moment place xs) next.0) (sym (append-nil done.closed)) next.1))
