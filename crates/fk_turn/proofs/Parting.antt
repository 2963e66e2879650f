-- The steps of each part of a turn.
use Rattle.std.proofs.Common.{◌≡◌, ℕ, suc, ◌+◌, ◌≤◌, true, false, List, [], ◌∷◌, ◌++◌, map, length, Result, Ok, Err, inl, inr, refl, sym, ap, subst, ◌∙◌, append_assoc, append-nil, arith}
use Rattle.std.specs.Prelude.{IsErr}
use Rattle.fk_base.specs.declared.memory.Failed.{Failed}
use Rattle.std.proofs.lemmas.List.{map-append, length-map, length_push}
use Rattle.fk_trace.specs.declared.change.Change.{Change}
use Rattle.fk_trace.specs.declared.change.Change.TheVariants.{Done}
use Rattle.fk_trace.specs.Trace.{Item}
use Rattle.fk_trace.specs.Trace.Event.{Turn}
use Rattle.fk_run.specs.Place.{Place, behind}
use Rattle.fk_host.specs.Count.{counted}
use Rattle.fk_log.specs.Line.{Line}
use Rattle.fk_log.specs.Line.Line.{TurnLine, SettledLine}
use Rattle.fk_log.specs.Log.{poll_lines}
use Rattle.fk_log.specs.Writing.{Output, Logs}
use Rattle.fk_conf.specs.declared.conf.Conf.{Conf}
use Rattle.fk_ledger.specs.Book.{Book, calls_of, live_ids}
use Rattle.fk_child.specs.declared.items.EndItem.{EndItem}
use Rattle.fk_child.specs.View.{View, MakesCalls, Adds}
use Rattle.fk_child.specs.Crew.{CrewState, CrewHost, StandsAt}
use Rattle.fk_child.specs.Calls.{MarksTurn, PollsAll, SettlesFirst, FailsToSettle as FailsToSettleOne}
use Rattle.fk_turn.specs.Daemon.{Scene, DaemonStands, StandsSomehow, AtRest, scene}
use Rattle.fk_turn.specs.Serving.{calls_for}
use Rattle.fk_turn.specs.Parts.{end_line, beginning, BeginsTurn, settlement, SettlesWhole, FailsToSettle, Settles, Part, joined, reached, ServesPart}
use Rattle.fk_child.proofs.Images.{adds-append, calls-none, calls-then, calls-same}
use Rattle.fk_turn.proofs.Places.{place-same, serves-join}
use Rattle.fk_child.proofs.Others.{area-kept}
use Rattle.fk_turn.proofs.Lines.{ends-lines}
use Rattle.fk_log.proofs.Logged.{Logs-append}
use Rattle.fk_turn.proofs.Logging.{logs-nothing}
use Rattle.fk_turn.proofs.Making.{calls_of-append}
use Rattle.fk_turn.proofs.Assembly.{adds-onto, part-same, owes-live}

abbrev pub crew_host : CrewState → View → CrewHost
crew_host crew host = record { crew = crew; host = host }

-- a turn begins
pub begins : (conf : Conf) (moment number : ℕ) (place : Place) (book : Book) (turns : ℕ) (c0 c1 c2 : CrewState) (h0 h1 h2 : View) (o0 o1 o2 : Output)
    → AtRest conf (scene (record { book = book; crew = c0; turns = turns }) h0 o0) place → number ≡ turns + 1
    → Logs (TurnLine moment number ∷ []) o0 o1
    → (marks : MarksTurn number place (crew_host c0 h0) (crew_host c1 h1))
    → PollsAll moment (behind moment place (marks.item ∷ [])) (crew_host c1 h1) (crew_host c2 h2)
    → Logs (map (end_line moment) c2.ends) o1 o2
    → BeginsTurn conf moment place (scene (record { book = book; crew = c0; turns = turns }) h0 o0) (scene (record { book = book; crew = c2; turns = turns }) h2 o2)
begins conf moment number place book turns c0 c1 c2 h0 h1 h2 o0 o1 o2 rest is line marks polls ends =
    let same : number ≡ place.number = is ∙ sym rest.stands.number in
    let goes = marks.goes moment in
    let start : Item = marks.item in
    let at : Place = behind moment place (start ∷ polls.items) in
    let lines : TurnLine moment number ∷ map (end_line moment) c2.ends ≡ TurnLine moment place.number ∷ poll_lines moment (start ∷ place.past) polls.items =
    ap (λ (n : ℕ). TurnLine moment n ∷ map (end_line moment) c2.ends) same
    ∙ ap (λ (xs : List EndItem). TurnLine moment place.number ∷ map (end_line moment) xs) polls.ends
    ∙ ap (λ (xs : List Line). TurnLine moment place.number ∷ xs) (ends-lines moment (start ∷ place.past) polls.items) in
    let s2 : Scene = scene (record { book = book; crew = c2; turns = turns }) h2 o2 in
    let stands : DaemonStands conf s2 at = record {
      changes = rest.stands.changes;
      limit = rest.stands.limit;
      room = rest.stands.room;
      keep = rest.stands.keep;
      unspent = rest.stands.unspent;
      area = area-kept book book h1 h2 refl polls.goes.selects (area-kept book book h0 h1 refl goes.selects rest.stands.area);
      stands = polls.goes.stands;
      number = rest.stands.number;
    } in
    record {
      start = start;
      polled = polls.items;
      begins = marks.event ∙ ap Turn same;
      polls = polls.polled;
      calls = calls-same (1 + length polls.items) (calls_for (start ∷ polls.items) place.ledger []) h0 h2 (omega arith)
          (calls-then 1 (length polls.items) h0 h1 h2 goes.calls polls.goes.calls);
      serves = record {
        adds = adds-onto (start ∷ []) polls.items place.ledger [] [] h0 h1 h2 (inl refl) goes.adds goes.disk polls.goes.adds;
        disk = polls.goes.disk ∙ goes.disk;
        logs = subst (λ (xs : List Line). Logs xs o0 o2) lines (Logs-append (TurnLine moment number ∷ []) (map (end_line moment) c2.ends) o0 o1 o2 line ends);
        stands = subst (DaemonStands conf s2) (place-same at (reached moment place (beginning moment place start polls.items)) refl refl refl refl) stands;
      };
      unsettled = polls.unsettled;
    }

-- no part
abbrev pub nothing : Part
nothing = record { items = []; changes = []; lines = [] }

pub reached-nothing : (moment : ℕ) (place : Place) → place ≡ reached moment place nothing
reached-nothing moment place = place-same place (reached moment place nothing) refl refl refl refl

pub serves-nothing : (conf : Conf) (moment : ℕ) (place : Place) (at : Scene) → DaemonStands conf at place → Adds [] place.ledger [] [] at.host at.host → ServesPart conf moment place nothing at at
serves-nothing conf moment place at h adds = record { adds = adds; disk = refl; logs = logs-nothing at.output; stands = subst (DaemonStands conf at) (reached-nothing moment place) h }

-- the first of the records that are to be settled are, and the others are yet to be
pub record SettlesFront (conf : Conf) (moment : ℕ) (place : Place) (old new : Scene) : Type 0 where
  pub made : List ℕ
  pub order : old.daemon.crew.unsettled ≡ made ++ new.daemon.crew.unsettled
  pub calls : MakesCalls (calls_for [] place.ledger (map Done made)) old.host new.host
  pub serves : ServesPart conf moment place (settlement moment made) old new

pub settles-none : (conf : Conf) (moment : ℕ) (place : Place) (at : Scene) → DaemonStands conf at place → Adds [] place.ledger [] [] at.host at.host → SettlesFront conf moment place at at
settles-none conf moment place at h adds = record { made = []; order = refl; calls = calls-none at.host; serves = serves-nothing conf moment place at h adds }

-- one more record is settled
pub settles-more : (conf : Conf) (moment : ℕ) (place : Place) (s0 : Scene) (id turns : ℕ) (book1 book2 : Book) (c1 c2 : CrewState) (h1 h2 : View) (o1 o2 : Output)
    → (front : SettlesFront conf moment place s0 (scene (record { book = book1; crew = c1; turns = turns }) h1 o1))
    → SettlesFirst id book1 book2 (reached moment place (settlement moment front.made)) (crew_host c1 h1) (crew_host c2 h2)
    → Logs (SettledLine moment id ∷ []) o1 o2
    → SettlesFront conf moment place s0 (scene (record { book = book2; crew = c2; turns = turns }) h2 o2)
settles-more conf moment place s0 id turns book1 book2 c1 c2 h1 h2 o1 o2 front first line =
    let s1 : Scene = scene (record { book = book1; crew = c1; turns = turns }) h1 o1 in
    let s2 : Scene = scene (record { book = book2; crew = c2; turns = turns }) h2 o2 in
    let at : Place = reached moment place (settlement moment front.made) in
    let stands1 : DaemonStands conf s1 at = front.serves.stands in
    let step : ServesPart conf moment at (settlement moment (id ∷ [])) s1 s2 = record {
      adds = first.adds;
      disk = first.disk;
      logs = line;
      stands = record {
        changes = ap (λ (b : Book). b.changes) first.book ∙ ap (λ (cs : List Change). cs ++ Done id ∷ []) stands1.changes;
        limit = ap (λ (b : Book). b.limit) first.book ∙ stands1.limit;
        room = ap (λ (b : Book). b.room) first.book ∙ stands1.room;
        keep = ap (λ (b : Book). b.keep) first.book ∙ stands1.keep;
        unspent = ap (λ (b : Book). b.is_spent) first.book ∙ stands1.unspent;
        area = area-kept book1 book2 h1 h2 (ap (λ (b : Book). b.area) first.book) first.selects stands1.area;
        stands = first.stands;
        number = stands1.number;
      };
    } in
    record {
      made = front.made ++ id ∷ [];
      order = front.order ∙ ap (λ (ids : List ℕ). front.made ++ ids) first.first ∙ sym (append_assoc front.made (id ∷ []) c2.unsettled);
      calls = calls-same (calls_for [] place.ledger (map Done front.made) + 4) (calls_for [] place.ledger (map Done (front.made ++ id ∷ []))) s0.host h2
          (let both = ap (calls_of place.ledger) (map-append Done front.made (id ∷ [])) ∙ calls_of-append place.ledger (map Done front.made) (Done id ∷ []) in omega arith)
          (calls-then (calls_for [] place.ledger (map Done front.made)) 4 s0.host h1 h2 front.calls first.calls);
      serves = subst (λ (part : Part). ServesPart conf moment place part s0 s2)
          (part-same (joined (settlement moment front.made) (settlement moment (id ∷ []))) (settlement moment (front.made ++ id ∷ [])) refl
          (sym (map-append Done front.made (id ∷ []))) (sym (map-append (SettledLine moment) front.made (id ∷ []))))
          (serves-join conf moment place (settlement moment front.made) (settlement moment (id ∷ [])) s0 s1 s2 (record { attempts = inr tt; others = inr tt }) front.serves step);
    }

-- none is left
pub settles-all : (conf : Conf) (moment : ℕ) (place : Place) (s0 s1 : Scene) → SettlesFront conf moment place s0 s1 → s1.daemon.crew.unsettled ≡ [] → SettlesWhole conf moment place s0 s1
settles-all conf moment place s0 s1 front none =
    let made : front.made ≡ s0.daemon.crew.unsettled = sym (front.order ∙ ap (λ (ids : List ℕ). front.made ++ ids) none ∙ append-nil front.made) in
    record {
      calls = subst (λ (ids : List ℕ). MakesCalls (calls_for [] place.ledger (map Done ids)) s0.host s1.host) made front.calls;
      serves = subst (λ (ids : List ℕ). ServesPart conf moment place (settlement moment ids) s0 s1) made front.serves;
      settled = none;
    }

-- the disk failed while the next record was settled
pub fails-settle : (conf : Conf) (moment : ℕ) (place : Place) (s0 : Scene) (turns : ℕ) (book1 book2 : Book) (c1 c2 : CrewState) (h1 h2 : View) (o1 : Output)
    → (front : SettlesFront conf moment place s0 (scene (record { book = book1; crew = c1; turns = turns }) h1 o1))
    → FailsToSettleOne book1 book2 (reached moment place (settlement moment front.made)) (crew_host c1 h1) (crew_host c2 h2)
    → FailsToSettle moment place s0 (scene (record { book = book2; crew = c2; turns = turns }) h2 o1)
fails-settle conf moment place s0 turns book1 book2 c1 c2 h1 h2 o1 front f =
    let s1 : Scene = scene (record { book = book1; crew = c1; turns = turns }) h1 o1 in
    record {
      made = front.made;
      failed = f.id;
      later = c2.unsettled;
      order = front.order ∙ ap (λ (ids : List ℕ). front.made ++ ids) f.first;
      adds = subst (λ (cs : List Change). Adds [] place.ledger cs (Done f.id ∷ []) s0.host h2) (append-nil (map Done front.made))
          (adds-append [] [] place.ledger (map Done front.made) [] (Done f.id ∷ []) (record { attempts = inr tt; others = inr tt }) s0.host h1 h2 front.serves.adds front.serves.disk f.adds);
      disk = f.disk ∙ ap counted front.serves.disk;
      logs = front.serves.logs;
      book = ap (λ (b : Book). b.changes) f.book ∙ front.serves.stands.changes;
      parks = ap (λ (c : CrewState). c.owed) f.crew ∙ owes-live conf s1 (reached moment place (settlement moment front.made)) front.serves.stands
          ∙ ap (λ (b : Book). live_ids b.changes) (sym f.book);
    }

-- what a loop over the records that are to be settled keeps
pub record KeepsSettling (moment : ℕ) (old new : Scene) : Type 0 where
  pub stands : StandsSomehow old
  pub front : (conf : Conf) (place : Place) → DaemonStands conf old place → SettlesFront conf moment place old new

-- it stands somewhere
pub settling-stands : (moment : ℕ) (old new : Scene) (keeps : KeepsSettling moment old new) → StandsSomehow new
settling-stands moment old new keeps =
    let front = keeps.front keeps.stands.0 keeps.stands.1 keeps.stands.2 in
    (keeps.stands.0, reached moment keeps.stands.1 (settlement moment front.made), front.serves.stands)

pub failing : {T : Type 0} (conf : Conf) (moment : ℕ) (place : Place) (old new : Scene) (r : Result T Failed) → IsErr r → FailsToSettle moment place old new → Settles conf moment place old new r
failing conf moment place old new (Ok x) e f = absurd cc
failing conf moment place old new (Err x) e f = f

-- what the next settlement found, over the records that were settled before it
pub settles-next : (moment : ℕ) (s0 : Scene) (turns : ℕ) (book1 book2 : Book) (c1 c2 : CrewState) (h1 h2 : View) (o1 o2 : Output) (id : ℕ)
    → KeepsSettling moment s0 (scene (record { book = book1; crew = c1; turns = turns }) h1 o1)
    → ((at : Place) → at.ledger ≡ book1.changes → StandsAt (crew_host c1 h1) at → SettlesFirst id book1 book2 at (crew_host c1 h1) (crew_host c2 h2))
    → Logs (SettledLine moment id ∷ []) o1 o2
    → KeepsSettling moment s0 (scene (record { book = book2; crew = c2; turns = turns }) h2 o2)
settles-next moment s0 turns book1 book2 c1 c2 h1 h2 o1 o2 id keeps first line = record {
  stands = keeps.stands;
  front = λ conf place stands.
      let front = keeps.front conf place stands in
      settles-more conf moment place s0 id turns book1 book2 c1 c2 h1 h2 o1 o2 front
      (first (reached moment place (settlement moment front.made)) (sym front.serves.stands.changes) front.serves.stands.stands) line;
}

pub fewer-unsettled : (moment : ℕ) (s0 : Scene) (turns : ℕ) (book1 book2 : Book) (c1 c2 : CrewState) (h1 h2 : View) (o1 : Output) (id : ℕ)
    → KeepsSettling moment s0 (scene (record { book = book1; crew = c1; turns = turns }) h1 o1)
    → ((at : Place) → at.ledger ≡ book1.changes → StandsAt (crew_host c1 h1) at → SettlesFirst id book1 book2 at (crew_host c1 h1) (crew_host c2 h2))
    → suc (length c2.unsettled) ≤ length c1.unsettled
fewer-unsettled moment s0 turns book1 book2 c1 c2 h1 h2 o1 id keeps first =
    let front = keeps.front keeps.stands.0 keeps.stands.1 keeps.stands.2 in
    let f = first (reached moment keeps.stands.1 (settlement moment front.made)) (sym front.serves.stands.changes) front.serves.stands.stands in
    let len = ap (λ (ids : List ℕ). length ids) f.first in
    omega (arith, len)
