-- A run between two turns: what the turns so far have been.
use Rattle.std.proofs.Common.{◌≡◌, ℕ, ◌+◌, ◌≤◌, ◌||◌, nat_le, true, false, cond, List, [], ◌∷◌, ◌++◌, length, map, Option, Some, None, IsSomeAnd, refl, sym, ap, ◌∙◌, subst, ◌⊎◌, inl, inr, append_assoc, append-nil, length-append, arith}
use Rattle.std.specs.Option.{option_map_or}
use Rattle.std.specs.List.{AllByRecursion}
use Rattle.std.proofs.lemmas.Bool.Decides.{nat_tests}
use Rattle.std.proofs.lemmas.List.{map-append}
use Rattle.fk_trace.specs.declared.change.Change.{Change}
use Rattle.fk_trace.specs.Trace.{Item, past_after}
use Rattle.fk_trace.specs.Ledger.{after, live, IsLedger}
use Rattle.fk_trace.proofs.Settled.{past_after-append}
use Rattle.fk_trace.specs.Decision.{FeedTurn}
use Rattle.fk_run.specs.declared.limits.Limits.{Limits}
use Rattle.fk_run.specs.Place.{Place, entry}
use Rattle.fk_run.specs.Turn.{TakenTurn, CutTurn, after_turns}
use Rattle.fk_run.specs.Run.{Ending}
use Rattle.fk_run.specs.Run.Ending.{AtLimit}
use Rattle.fk_run.proofs.Cutting.{recursion-joined, whole-cut}
use Rattle.fk_run.proofs.Fronts.{past-after_turns}
use Rattle.fk_run.specs.Legal.{LegalTurns}
use Rattle.fk_run.specs.Ending.{packets_in, is_datagram, turn_limit, ReachesLimit}
use Rattle.fk_host.specs.Feed.{Given, OpensAt}
use Rattle.fk_log.specs.Line.{Line}
use Rattle.fk_log.specs.Line.Line.{ReadyLine}
use Rattle.fk_log.specs.Log.{opening_lines, lines_of_turns, turn_lines}
use Rattle.fk_log.specs.Log.Opening.{Opened}
use Rattle.fk_log.specs.Log.RefusalLine.{Told}
use Rattle.fk_log.specs.Writing.{LogState, Output, Logs, output}
use Rattle.fk_log.proofs.Logged.{Logs-append}
use Rattle.fk_log.proofs.Turns.{lines_of_turns-append}
use Rattle.fk_conf.specs.declared.conf.Conf.{Conf}
use Rattle.fk_child.specs.View.{Adds}
use Rattle.fk_child.proofs.Pieces.{recursion-weaker}
use Rattle.fk_turn.specs.Daemon.{Scene, AtRest}
use Rattle.fk_turn.specs.Rules.{rules_by}
use Rattle.fk_daemon.specs.declared.task.Task.{Task}
use Rattle.fk_daemon.specs.declared.session.Session.{Session}
use Rattle.fk_log.specs.Printing.{SinkView}
use Rattle.fk_daemon.specs.Outside.{FeedView, Feeds}
use Rattle.fk_daemon.specs.Sessions.{AddsTurns, Standing, Begins, Takes, TakesNone, ServesNext, is_over, output_of, scene_of}
use Rattle.fk_daemon.proofs.Behind.{items_in, changes_in, items-push, changes-push, place-push, ledger-behind, packets-push, legal-push, feeds-then, cases-push}
use Rattle.fk_daemon.proofs.Crashing.{AreNumbered, run_at, adds-left, adds-no_turn, adds-turn}

-- the lines of the turns so far, the first line of the run among them
abbrev pub lines_so_far : Task → List Change → List TakenTurn → List Line
lines_so_far task ledger turns = opening_lines Opened ledger ++ lines_of_turns (rules_by task.policy) (entry ledger) Told turns

-- These turns were served, whole and one after another, since the feed was opened.
pub record Going (task : Task) (ledger : List Change) (turns : List TakenTurn) (old now : Standing) : Type 0 where
  pub whole : LegalTurns (rules_by task.policy) (entry ledger) AtLimit turns
  pub is_ledger : IsLedger ledger
  pub adds : AddsTurns (run_at (rules_by task.policy) ledger old.outside.host.faults AtLimit turns) (changes_in turns) old.outside.host now.outside.host
  pub unfailed : AllByRecursion (λ item. item.faults ≡ old.outside.host.faults) (items_in turns)
  pub disk : now.outside.host.faults ≡ old.outside.host.faults
  pub given : Feeds Opened task.policy.conf.now.port (map (λ taken. taken.turn) turns) old.outside.feed.given now.outside.feed.given
  pub logs : Logs (lines_so_far task ledger turns) (output_of old) (output_of now)
  pub rests : AtRest task.policy.conf.now (scene_of now) (after_turns (entry ledger) turns)
  pub turns_are : now.session.turns ≡ length turns
  pub packets_are : now.session.packets ≡ packets_in turns
  pub before : (front : List TakenTurn) (taken : TakenTurn) (later : List TakenTurn) → turns ≡ front ++ taken ∷ later → ReachesLimit task.limits front → ⊥

-- where a daemon rests its output plays no part
pub rests-output : (conf : Conf) (at : Scene) (place : Place) (out : Output) → AtRest conf at place → AtRest conf (record at { output = out }) place
rests-output conf at place out rests = record {
  stands = record {
    changes = rests.stands.changes;
    limit = rests.stands.limit;
    room = rests.stands.room;
    keep = rests.stands.keep;
    unspent = rests.stands.unspent;
    area = rests.stands.area;
    stands = rests.stands.stands;
    number = rests.stands.number;
  };
  settled = rests.settled;
}

pub no_turn_before : (front : List TakenTurn) (taken : TakenTurn) (later : List TakenTurn) → [] ≡ front ++ taken ∷ later → ⊥
no_turn_before [] taken later e = cc
no_turn_before (first ∷ front) taken later e = cc

-- a session whose feed was opened and whose first line was written
abbrev pub ready : Standing → LogState → FeedView → SinkView → Standing
ready old log feed sink = record { session = record old.session { log = log }; outside = record { feed = feed; host = old.outside.host; sink = sink } }

feeds-first : (port : ℕ) (old new : Option Given) → OpensAt port old new → Feeds Opened port [] old new
feeds-first port None new opens = tt
feeds-first port (Some given) new opens = opens ∙ ap (λ (turns : List FeedTurn). Some (record { turns = turns; port = Some port })) (sym (append-nil given.turns))

pub going-first : (task : Task) (ledger : List Change) (old : Standing) (log : LogState) (feed : FeedView) (sink : SinkView) (live_count : ℕ)
    → Begins task ledger old → OpensAt task.policy.conf.now.port old.outside.feed.given feed.given
    → live_count ≡ length (live old.session.daemon.book.changes)
    → Logs (ReadyLine live_count ∷ []) (output_of old) (output_of (ready old log feed sink))
    → Going task ledger [] old (ready old log feed sink)
going-first task ledger old log feed sink live_count begins opens counts logs =
    let same : live_count ≡ length (live ledger) = counts ∙ ap (λ (changes : List Change). length (live changes)) begins.rests.stands.changes in
    record {
      whole = tt;
      is_ledger = begins.rests.stands.stands.keeps.follow;
      adds = adds-no_turn (rules_by task.policy) ledger old.outside.host.faults AtLimit old.outside.host begins.rests.stands.stands.keeps;
      unfailed = tt;
      disk = refl;
      given = feeds-first task.policy.conf.now.port old.outside.feed.given feed.given opens;
      logs = subst (λ (n : ℕ). Logs (ReadyLine n ∷ []) (output_of old) (output_of (ready old log feed sink))) same logs;
      rests = rests-output task.policy.conf.now (scene_of old) (entry ledger) (output_of (ready old log feed sink)) begins.rests;
      turns_are = begins.turns;
      packets_are = begins.packets;
      before = λ front taken later e reached. absurd (no_turn_before front taken later e);
    }

-- behind turns that were served the items of a last one carry the same count of faults, and no two children have one number
pub unfailed-behind : (task : Task) (ledger : List Change) (turns : List TakenTurn) (old mid new : Standing) (taken : TakenTurn) (failing : List Change) → Going task ledger turns old mid
    → Adds taken.items (after_turns (entry ledger) turns).ledger taken.changes failing mid.outside.host new.outside.host
    → AllByRecursion (λ item. item.faults ≡ old.outside.host.faults) (items_in (turns ++ taken ∷ []))
unfailed-behind task ledger turns old mid new taken failing going adds =
    subst (AllByRecursion (λ (item : Item). item.faults ≡ old.outside.host.faults)) (sym (items-push turns taken))
    (recursion-joined (λ (item : Item). item.faults ≡ old.outside.host.faults) (items_in turns) taken.items going.unfailed
    (recursion-weaker (λ (item : Item). item.faults ≡ mid.outside.host.faults) (λ item. item.faults ≡ old.outside.host.faults) (λ item e. e ∙ going.disk) taken.items adds.faults))

pub numbered-cut : (ledger : List Change) (turns : List TakenTurn) (taken : TakenTurn)
    → AreNumbered (past_after (after_turns (entry ledger) turns).past taken.items) → AreNumbered (past_after [] (items_in (turns ++ taken ∷ [])))
numbered-cut ledger turns taken numbered =
    subst AreNumbered
    (ap (λ (past : List Item). past_after past taken.items) (past-after_turns (entry ledger) turns)
    ∙ sym (past_after-append [] (items_in turns) taken.items) ∙ ap (λ (items : List Item). past_after [] items) (sym (items-push turns taken)))
    numbered

-- behind turns that were served one more is added, whole or cut
pub adds-behind : (task : Task) (ledger : List Change) (ending : Ending) (turns : List TakenTurn) (old mid new : Standing) (taken : TakenTurn) (failing : List Change) → Going task ledger turns old mid
    → CutTurn (rules_by task.policy) (after_turns (entry ledger) turns) (record taken { changes = taken.changes ++ failing })
    → AreNumbered (past_after (after_turns (entry ledger) turns).past taken.items)
    → Adds taken.items (after_turns (entry ledger) turns).ledger taken.changes failing mid.outside.host new.outside.host
    → AddsTurns (run_at (rules_by task.policy) ledger old.outside.host.faults ending (turns ++ taken ∷ [])) (changes_in turns ++ (taken.changes ++ failing)) old.outside.host new.outside.host
adds-behind task ledger ending turns old mid new taken failing going cut numbered adds =
    let here : Adds taken.items (after ledger (changes_in turns)) taken.changes failing mid.outside.host new.outside.host =
    subst (λ (held : List Change). Adds taken.items held taken.changes failing mid.outside.host new.outside.host) (ledger-behind (entry ledger) turns) adds in
    adds-turn (rules_by task.policy) ledger old.outside.host.faults ending turns taken taken.changes failing going.whole cut (numbered-cut ledger turns taken numbered)
    (unfailed-behind task ledger turns old mid new taken failing going adds) old.outside.host mid.outside.host new.outside.host going.adds here
    (let both = ap length (changes-push turns taken) in let sum = length-append (changes_in turns) taken.changes in omega (arith, both, sum))

-- behind turns that were served a last one is logged
pub logs-behind : (task : Task) (ledger : List Change) (turns : List TakenTurn) (old mid : Standing) (out : Output) → Going task ledger turns old mid
    → (lines : List Line) → Logs lines (output_of mid) out
    → Logs (opening_lines Opened ledger ++ (lines_of_turns (rules_by task.policy) (entry ledger) Told turns ++ lines)) (output_of old) out
logs-behind task ledger turns old mid out going lines logs =
    subst (λ (all : List Line). Logs all (output_of old) out)
    (append_assoc (opening_lines Opened ledger) (lines_of_turns (rules_by task.policy) (entry ledger) Told turns) lines)
    (Logs-append (lines_so_far task ledger turns) lines (output_of old) (output_of mid) out going.logs logs)

-- the feed was asked and gave no turn
pub going-none : (task : Task) (ledger : List Change) (turns : List TakenTurn) (old mid new : Standing) → Going task ledger turns old mid
    → TakesNone task.policy.conf.now (after_turns (entry ledger) turns) mid new → Going task ledger turns old new
going-none task ledger turns old mid new going none =
    let quiet : output_of mid ≡ output_of new =
    sym (ap (λ (session : Session). output session.log new.outside.sink.written new.outside.sink.faults) none.session
    ∙ ap (λ (sink : SinkView). output mid.session.log sink.written sink.faults) none.sink) in
    let feed = feeds-then task.policy.conf.now.port (map (λ (taken : TakenTurn). taken.turn) turns) [] old.outside.feed.given mid.outside.feed.given new.outside.feed.given going.given none.given in
    record {
      whole = going.whole;
      is_ledger = going.is_ledger;
      adds = adds-left (run_at (rules_by task.policy) ledger old.outside.host.faults AtLimit turns) (changes_in turns) old.outside.host mid.outside.host new.outside.host going.adds none.host;
      unfailed = going.unfailed;
      disk = none.host.faults ∙ going.disk;
      given = subst (λ (all : List FeedTurn). Feeds Opened task.policy.conf.now.port all old.outside.feed.given new.outside.feed.given) (append-nil (map (λ (taken : TakenTurn). taken.turn) turns)) feed;
      logs = subst (λ (out : Output). Logs (lines_so_far task ledger turns) (output_of old) out) quiet going.logs;
      rests = none.rests;
      turns_are = ap (λ (session : Session). session.turns) none.session ∙ going.turns_are;
      packets_are = ap (λ (session : Session). session.packets) none.session ∙ going.packets_are;
      before = going.before;
    }

module _ (task : Task) (ledger : List Change) (turns : List TakenTurn) (old mid new : Standing) (turn : FeedTurn) where
  abbrev pub here : Place
  here = after_turns (entry ledger) turns

  -- a turn was taken and served whole, where no limit was reached
  pub going-push : (going : Going task ledger turns old mid) → (ReachesLimit task.limits turns → ⊥) → Takes turn mid.outside new.outside
      → (next : ServesNext task turn here mid new) → Going task ledger (turns ++ next.serves.taken ∷ []) old new
  going-push going under takes next =
      let taken : TakenTurn = next.serves.taken in
      let cut : CutTurn (rules_by task.policy) here (record taken { changes = taken.changes ++ [] }) =
      subst (λ (changes : List Change). CutTurn (rules_by task.policy) here (record taken { changes = changes })) (sym (append-nil taken.changes)) (whole-cut (rules_by task.policy) here taken next.serves.whole) in
      let more = adds-behind task ledger AtLimit turns old mid new taken [] going cut
      next.serves.rests.stands.stands.tied.stands.orderly.numbered next.serves.adds in
      let feed = feeds-then task.policy.conf.now.port (map (λ (t : TakenTurn). t.turn) turns) (turn ∷ []) old.outside.feed.given mid.outside.feed.given new.outside.feed.given going.given takes.given in
      let fed : map (λ (t : TakenTurn). t.turn) turns ++ turn ∷ [] ≡ map (λ (t : TakenTurn). t.turn) (turns ++ taken ∷ []) =
      ap (λ (t : FeedTurn). map (λ (t : TakenTurn). t.turn) turns ++ t ∷ []) (sym next.serves.of_turn) ∙ sym (map-append (λ (t : TakenTurn). t.turn) turns (taken ∷ [])) in
      let lines = logs-behind task ledger turns old mid (output_of new) going (turn_lines (rules_by task.policy) here Told taken) next.serves.logs in
      record {
        whole = legal-push (rules_by task.policy) (entry ledger) turns taken going.whole next.serves.whole;
        is_ledger = going.is_ledger;
        adds = subst (λ (tried : List Change). AddsTurns (run_at (rules_by task.policy) ledger old.outside.host.faults AtLimit (turns ++ taken ∷ [])) tried old.outside.host new.outside.host)
            (ap (λ (changes : List Change). changes_in turns ++ changes) (append-nil taken.changes) ∙ sym (changes-push turns taken)) more;
        unfailed = unfailed-behind task ledger turns old mid new taken [] going next.serves.adds;
        disk = next.serves.disk ∙ going.disk;
        given = subst (λ (all : List FeedTurn). Feeds Opened task.policy.conf.now.port all old.outside.feed.given new.outside.feed.given) fed feed;
        logs = subst (λ (all : List Line). Logs (opening_lines Opened ledger ++ all) (output_of old) (output_of new)) (sym (lines_of_turns-append (rules_by task.policy) (entry ledger) Told turns taken)) lines;
        rests = subst (AtRest task.policy.conf.now (scene_of new)) (sym (place-push (entry ledger) turns taken)) next.serves.rests;
        turns_are = let a = going.turns_are in let b = next.turns in let c = length-append turns (taken ∷ []) in omega (arith, a, b, c);
        packets_are = next.packets ∙ ap (λ (n : ℕ). n + cond (is_datagram turn.input) 1 0) going.packets_are
            ∙ ap (λ (t : FeedTurn). packets_in turns + cond (is_datagram t.input) 1 0) (sym next.serves.of_turn) ∙ sym (packets-push turns taken);
        before = λ front other later e reached. elim (cases-push turns taken front other later e) [
          | inl within ↦ going.before front other within.0 within.1 reached
          | inr last ↦ under (subst (ReachesLimit task.limits) last.0 reached)
        ];
      }

-- the test of the limits
pub limit-reached : (limits : Limits) (turns : List TakenTurn) → is_over limits (length turns) (packets_in turns) ≡ true → ReachesLimit limits turns
limit-reached limits turns over = reached limits.packets (turn_limit limits) (length turns) (packets_in turns) over
  where
    reached : (packets : Option ℕ) (most turns count : ℕ) → (nat_le most turns || option_map_or (λ (p : ℕ). nat_le p count) packets false) ≡ true
        → IsSomeAnd packets (λ p. p ≤ count) ⊎ (most ≤ turns)
    reached None most turns count over = inr (grind (arith, nat_tests))
    reached (Some packets) most turns count over = grind (arith, nat_tests)

pub limit-ahead : (limits : Limits) (turns : List TakenTurn) → is_over limits (length turns) (packets_in turns) ≡ false → ReachesLimit limits turns → ⊥
limit-ahead limits turns over reached = ahead limits.packets (turn_limit limits) (length turns) (packets_in turns) over reached
  where
    ahead : (packets : Option ℕ) (most turns count : ℕ) → (nat_le most turns || option_map_or (λ (p : ℕ). nat_le p count) packets false) ≡ false
        → IsSomeAnd packets (λ p. p ≤ count) ⊎ (most ≤ turns) → ⊥
    ahead None most turns count over (inl some) = some
    ahead None most turns count over (inr high) = grind (arith, nat_tests)
    ahead (Some packets) most turns count over (inl high) = grind (arith, nat_tests)
    ahead (Some packets) most turns count over (inr high) = grind (arith, nat_tests)
