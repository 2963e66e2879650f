-- A run from its beginning to its stop.
use Rattle.std.proofs.Common.{◌≡◌, ℕ, ◌+◌, true, false, IsTrue, List, [], ◌∷◌, ◌++◌, length, map, refl, sym, ap, ◌∙◌, subst, inl, inr, append_assoc, append-nil, arith}
use Rattle.std.proofs.lemmas.List.{map-append}
use Rattle.fk_trace.specs.declared.change.Change.{Change}
use Rattle.fk_trace.specs.Trace.{Item, past_after}
use Rattle.fk_trace.specs.declared.change.Change.TheVariants.{Done}
use Rattle.fk_trace.specs.Ledger.{live, dones, ends_with_floor}
use Rattle.fk_trace.specs.Settled.{settlements}
use Rattle.fk_trace.specs.Decision.{FeedTurn, Rules}
use Rattle.fk_trace.proofs.Splits.{none_before}
use Rattle.fk_run.specs.Place.{Place, entry}
use Rattle.fk_run.specs.Turn.{TakenTurn, CutTurn, after_turns}
use Rattle.fk_run.specs.Run.{Run, Ending, cuts_turn}
use Rattle.fk_run.specs.Run.Ending.{AtLimit, AtEnd, AtFeedFault, AtDiskFault, AtWantOfMemory}
use Rattle.fk_run.specs.Planned.{planned}
use Rattle.fk_run.specs.Ending.{ReachesLimit, FitsLimits}
use Rattle.fk_run.proofs.Fronts.{past-after_turns}
use Rattle.fk_host.specs.Count.{counted}
use Rattle.fk_host.specs.Disk.{Told as TellsOf, IfTold}
use Rattle.fk_ledger.specs.Book.{live_ids}
use Rattle.fk_log.specs.Line.{Line}
use Rattle.fk_log.specs.Log.{RefusalLine, MayTell, MayTellAt, opening_lines, lines_of_turns, turn_lines}
use Rattle.fk_log.specs.Log.Opening.{Opened}
use Rattle.fk_log.specs.Log.RefusalLine.{Told, Untold}
use Rattle.fk_log.specs.Writing.{Logs}
use Rattle.fk_log.proofs.Turns.{lines_of_turns-append}
use Rattle.fk_child.specs.View.{MakesCalls, AddsItems, Adds}
use Rattle.fk_turn.specs.Rules.{rules_by}
use Rattle.fk_turn.specs.declared.policy.Policy.{Policy}
use Rattle.fk_turn.specs.Wanting.{WantsMemoryAt}
use Rattle.fk_turn.specs.Serving.{BeginsAt, FailsAtDisk, WantsMemory, OwesItsLive, calls_for}
use Rattle.fk_daemon.specs.declared.task.Task.{Task}
use Rattle.fk_daemon.specs.declared.session.Session.{Session}
use Rattle.fk_daemon.specs.declared.session.Stop.{Stop}
use Rattle.fk_daemon.specs.declared.session.Stop.TheVariants as stop
use Rattle.fk_daemon.specs.Outside.{Feeds}
use Rattle.fk_daemon.specs.Account.{Account, FailsNext, IsServing}
use Rattle.fk_daemon.specs.Serving.{CallsBehind, HasCauses}
use Rattle.fk_daemon.specs.Sessions.{AddsTurns, Standing, Takes, TakesNone, SumsUp, MaySumUp, Finishes, ending_of, run_of, output_of, scene_of}
use Rattle.fk_daemon.proofs.Behind.{items_in, changes_in, changes-push, ledger-behind, last-push, legal-whole, legal-cut, planned-push, feeds-then, cases-push, last-one}
use Rattle.fk_daemon.proofs.Crashing.{AreNumbered, adds-ending}
use Rattle.fk_daemon.proofs.Floors.{ends-turns}
use Rattle.fk_turn.proofs.Making.{ends-joined}
use Rattle.fk_daemon.proofs.Telling.{told-join, told-both}
use Rattle.fk_daemon.proofs.Going.{Going, numbered-cut, unfailed-behind, adds-behind, logs-behind, going-none}

-- no two children of the turns that were served have one number
numbered-behind : (task : Task) (ledger : List Change) (turns : List TakenTurn) (old now : Standing) → Going task ledger turns old now
    → AreNumbered (past_after [] (items_in turns))
numbered-behind task ledger turns old now going =
    subst AreNumbered (past-after_turns (entry ledger) turns) going.rests.stands.stands.tied.stands.orderly.numbered

parks-behind : (task : Task) (ledger : List Change) (turns : List TakenTurn) (old now : Standing) → Going task ledger turns old now → OwesItsLive now.session.daemon
parks-behind task ledger turns old now going =
    going.rests.stands.stands.tied.owes ∙ ap live_ids (sym going.rests.stands.changes)

sums-behind : (task : Task) (ledger : List Change) (faults : ℕ) (ending : Ending) (turns : List TakenTurn) (old now : Standing) → Going task ledger turns old now
    → SumsUp now.session (run_of task ledger faults ending turns)
sums-behind task ledger faults ending turns old now going = record {
  turns = going.turns_are;
  live = ap (λ (changes : List Change). length (live changes)) (going.rests.stands.changes ∙ ledger-behind (entry ledger) turns);
}

may_sum : (how : Stop) (session : Session) (run : Run) → SumsUp session run → MaySumUp how session run
may_sum stop.Limit session run sums = sums
may_sum stop.End session run sums = sums
may_sum stop.FeedFault session run sums = tt
may_sum stop.DiskFault session run sums = tt
may_sum stop.NoMemory session run sums = tt

-- the account of a run in which no turn was cut
abbrev pub uncut : Task → List Change → ℕ → Ending → List TakenTurn → Account
uncut task ledger faults ending turns = record { run = run_of task ledger faults ending turns; opening = Opened; refusal = Told; failing = [] }

serving-uncut : (task : Task) (ledger : List Change) (ending : Ending) (turns : List TakenTurn) (old now : Standing) → Going task ledger turns old now
    → cuts_turn ending ≡ false → FitsLimits task.limits turns ending → MayTell (run_of task ledger old.outside.host.faults ending turns) Told
    → FailsNext ending [] (run_of task ledger old.outside.host.faults ending turns)
    → IsServing task (uncut task ledger old.outside.host.faults ending turns)
serving-uncut task ledger ending turns old now going whole fits tells fails = record {
  rules = refl;
  ledger = going.is_ledger;
  legal = record {
    turns = legal-whole (rules_by task.policy) (entry ledger) ending turns going.whole;
    no_fault_before = going.unfailed;
    numbered = numbered-behind task ledger turns old now going;
  };
  limits = record { fits = fits; before = going.before };
  settled = λ wants front last placed. absurd (let never : true ≡ false = ap cuts_turn (sym wants) ∙ whole in cc);
  wants = λ wants none. let never : true ≡ false = ap cuts_turn (sym wants) ∙ whole in cc;
  opens = tt;
  tells = tells;
  fails = fails;
  whole = ends-turns (rules_by task.policy) (entry ledger) turns going.whole;
}

finish-uncut : (task : Task) (ledger : List Change) (how : Stop) (turns : List TakenTurn) (old now : Standing) → Going task ledger turns old now
    → cuts_turn (ending_of how) ≡ false → IsServing task (uncut task ledger old.outside.host.faults (ending_of how) turns)
    → HasCauses (ending_of how) old.outside now.outside → Finishes task ledger how old now
finish-uncut task ledger how turns old now going whole serving caused = record {
  account = uncut task ledger old.outside.host.faults (ending_of how) turns;
  turns = turns;
  is = refl;
  serving = serving;
  given = going.given;
  adds = subst (λ (tried : List Change). AddsTurns (run_of task ledger old.outside.host.faults (ending_of how) turns) tried old.outside.host now.outside.host) (sym (append-nil (changes_in turns)))
      (adds-ending (rules_by task.policy) ledger old.outside.host.faults AtLimit (ending_of how) turns (changes_in turns) old.outside.host now.outside.host going.adds);
  memory = λ wants front last placed. absurd (let never : true ≡ false = ap cuts_turn (sym wants) ∙ whole in cc);
  caused = caused;
  logs = going.logs;
  parks = parks-behind task ledger turns old now going;
  sums = may_sum how now.session (run_of task ledger old.outside.host.faults (ending_of how) turns) (sums-behind task ledger old.outside.host.faults (ending_of how) turns old now going);
}

-- a limit was reached
pub finish-limit : (task : Task) (ledger : List Change) (turns : List TakenTurn) (old now : Standing) → Going task ledger turns old now
    → now.outside.feed.faults ≡ old.outside.feed.faults → ReachesLimit task.limits turns → Finishes task ledger stop.Limit old now
finish-limit task ledger turns old now going calm reached =
    finish-uncut task ledger stop.Limit turns old now going refl (serving-uncut task ledger AtLimit turns old now going refl reached refl refl)
    (record { feed = calm; disk = going.disk; end = tt })

-- the feed has ended
pub finish-end : (task : Task) (ledger : List Change) (turns : List TakenTurn) (old mid new : Standing) → Going task ledger turns old mid
    → mid.outside.feed.faults ≡ old.outside.feed.faults → (ReachesLimit task.limits turns → ⊥)
    → TakesNone task.policy.conf.now (after_turns (entry ledger) turns) mid new → new.outside.feed.faults ≡ mid.outside.feed.faults
    → new.outside.feed.has_ended ≡ true → Finishes task ledger stop.End old new
finish-end task ledger turns old mid new going calm under none same ended =
    let there = going-none task ledger turns old mid new going none in
    finish-uncut task ledger stop.End turns old new there refl (serving-uncut task ledger AtEnd turns old new there refl under refl refl)
    (record { feed = same ∙ calm; disk = there.disk; end = ended })

-- the feed failed
pub finish-feed : (task : Task) (ledger : List Change) (turns : List TakenTurn) (old mid new : Standing) → Going task ledger turns old mid
    → mid.outside.feed.faults ≡ old.outside.feed.faults → (ReachesLimit task.limits turns → ⊥)
    → TakesNone task.policy.conf.now (after_turns (entry ledger) turns) mid new → new.outside.feed.faults ≡ counted mid.outside.feed.faults
    → Finishes task ledger stop.FeedFault old new
finish-feed task ledger turns old mid new going calm under none fails =
    let there = going-none task ledger turns old mid new going none in
    finish-uncut task ledger stop.FeedFault turns old new there refl (serving-uncut task ledger AtFeedFault turns old new there refl under refl refl)
    (record { feed = fails ∙ ap counted calm; disk = there.disk; end = tt })

-- the account of a run whose last turn was cut
abbrev pub cut_short : Task → List Change → ℕ → Ending → List TakenTurn → RefusalLine → List Change → Account
cut_short task ledger faults ending turns refusal failing =
    record { run = run_of task ledger faults ending turns; opening = Opened; refusal = refusal; failing = failing }

module _ (task : Task) (ledger : List Change) (turns : List TakenTurn) (old mid new : Standing) (taken : TakenTurn) (going : Going task ledger turns old mid) where
  abbrev place : Place
  place = after_turns (entry ledger) turns

  abbrev all : List TakenTurn
  all = turns ++ taken ∷ []

  abbrev Settles : List TakenTurn → TakenTurn → Type 0
  Settles front last = map Done (dones last.changes) ≡ settlements (after_turns (entry ledger) front).past last.items

  -- what is said of the turn that was cut
  record Cuts (ending : Ending) (refusal : RefusalLine) (failing : List Change) : Type 0 where
    may : IsTrue (cuts_turn ending)
    fits : FitsLimits task.limits all ending
    cut : CutTurn (rules_by task.policy) place taken
    meant : CutTurn (rules_by task.policy) place (record taken { changes = taken.changes ++ failing })
    whole : ends_with_floor taken.changes ≡ false
    numbered : AreNumbered (past_after place.past taken.items)
    adds : Adds taken.items place.ledger taken.changes failing mid.outside.host new.outside.host
    settled : ending ≡ AtWantOfMemory → Settles turns taken
    tells : MayTellAt ending taken.items refusal
    fails : FailsNext ending failing (run_of task ledger old.outside.host.faults ending all)
    logs : Logs (turn_lines (rules_by task.policy) place refusal taken) (output_of mid) (output_of new)

  cut-adds : (ending : Ending) (refusal : RefusalLine) (failing : List Change) → Cuts ending refusal failing
      → AddsTurns (run_of task ledger old.outside.host.faults ending all) (changes_in all ++ failing) old.outside.host new.outside.host
  cut-adds ending refusal failing cuts =
      subst (λ (tried : List Change). AddsTurns (run_of task ledger old.outside.host.faults ending all) tried old.outside.host new.outside.host)
      (sym (append_assoc (changes_in turns) taken.changes failing) ∙ ap (λ (changes : List Change). changes ++ failing) (sym (changes-push turns taken)))
      (adds-behind task ledger ending turns old mid new taken failing going cuts.meant cuts.numbered cuts.adds)

  serving-cut : (ending : Ending) (refusal : RefusalLine) (failing : List Change) → Cuts ending refusal failing → (ReachesLimit task.limits turns → ⊥)
      → IsServing task (cut_short task ledger old.outside.host.faults ending all refusal failing)
  serving-cut ending refusal failing cuts under = record {
    rules = refl;
    ledger = going.is_ledger;
    legal = record {
      turns = legal-cut (rules_by task.policy) (entry ledger) ending turns taken cuts.may going.whole cuts.cut;
      no_fault_before = unfailed-behind task ledger turns old mid new taken failing going cuts.adds;
      numbered = numbered-cut ledger turns taken cuts.numbered;
    };
    limits = record {
      fits = cuts.fits;
      before = λ front other later e reached. elim (cases-push turns taken front other later e) [
        | inl within ↦ going.before front other within.0 within.1 reached
        | inr last ↦ under (subst (ReachesLimit task.limits) last.0 reached)
      ];
    };
    wants = λ wants none. none_before turns taken [] (sym none);
    settled = λ wants front last placed.
        let one = last-one turns front taken last placed in
        subst (λ (t : TakenTurn). Settles front t) (sym one.1) (subst (λ (f : List TakenTurn). Settles f taken) (sym one.0) (cuts.settled wants));
    opens = tt;
    tells = subst (λ (items : List Item). MayTellAt ending items refusal) (sym (last-push [] turns taken)) cuts.tells;
    fails = cuts.fails;
    whole = ap ends_with_floor (changes-push turns taken)
        ∙ ends-joined (changes_in turns) taken.changes (ends-turns (rules_by task.policy) (entry ledger) turns going.whole) cuts.whole;
  }

  cut-logs : (ending : Ending) (refusal : RefusalLine) (failing : List Change) → Cuts ending refusal failing
      → Logs (opening_lines Opened ledger ++ lines_of_turns (rules_by task.policy) (entry ledger) refusal all) (output_of old) (output_of new)
  cut-logs ending refusal failing cuts =
      subst (λ (lines : List Line). Logs (opening_lines Opened ledger ++ lines) (output_of old) (output_of new))
      (sym (lines_of_turns-append (rules_by task.policy) (entry ledger) refusal turns taken))
      (logs-behind task ledger turns old mid (output_of new) going (turn_lines (rules_by task.policy) place refusal taken) cuts.logs)

  cut-given : (turn : FeedTurn) → taken.turn ≡ turn → Takes turn mid.outside new.outside
      → Feeds Opened task.policy.conf.now.port (map (λ t. t.turn) all) old.outside.feed.given new.outside.feed.given
  cut-given turn is takes =
      let feed = feeds-then task.policy.conf.now.port (map (λ (t : TakenTurn). t.turn) turns) (turn ∷ []) old.outside.feed.given mid.outside.feed.given new.outside.feed.given going.given takes.given in
      subst (λ (given : List FeedTurn). Feeds Opened task.policy.conf.now.port given old.outside.feed.given new.outside.feed.given)
      (ap (λ (t : FeedTurn). map (λ (t : TakenTurn). t.turn) turns ++ t ∷ []) (sym is) ∙ sym (map-append (λ (t : TakenTurn). t.turn) turns (taken ∷ []))) feed

-- what the turn's own calls say of the moments behind its first item
calls-from : (more : ℕ) (ledger : List Change) (last : TakenTurn) (items : List Item) → last.items ≡ items → (x y : TellsOf) → BeginsAt (x.moments + 1) items
    → y.moments ≡ x.moments + (calls_for items ledger last.changes + more) → CallsBehind more ledger last y
calls-from more ledger last [] e x y begun calls = absurd begun
calls-from more ledger last (start ∷ further) e x y begun calls = record { start = start; further = further; items = e; calls = omega (arith, begun, calls) }

-- in the turn that wanted memory, behind the turns before it
calls-behind : (task : Task) (ledger : List Change) (turns : List TakenTurn) (old mid new : Standing) → Going task ledger turns old mid → (taken : TakenTurn)
    → IfTold mid.outside.host.told new.outside.host.told (λ before later. BeginsAt (before.moments + 1) taken.items)
    → (more : ℕ) → MakesCalls (calls_for taken.items (after_turns (entry ledger) turns).ledger taken.changes + more) mid.outside.host new.outside.host
    → IfTold old.outside.host.told new.outside.host.told (λ before later. CallsBehind more (after_turns (entry ledger) turns).ledger taken later)
calls-behind task ledger turns old mid new going taken begun more calls =
    let held : List Change = (after_turns (entry ledger) turns).ledger in
    let here : IfTold mid.outside.host.told new.outside.host.told (λ before later. CallsBehind more held taken later) =
    told-both mid.outside.host.told new.outside.host.told (λ x y. BeginsAt (x.moments + 1) taken.items) (λ x y. y.moments ≡ x.moments + (calls_for taken.items held taken.changes + more))
    (λ x y. CallsBehind more held taken y) (λ x y b c. calls-from more held taken taken.items refl x y b c) begun calls in
    told-join old.outside.host.told mid.outside.host.told new.outside.host.told (AddsItems (items_in turns)) (λ x y. CallsBehind more held taken y) (λ x y. CallsBehind more held taken y)
    (λ x y z f g. g) going.adds.trace here

-- where memory is wanting is told whatever is said of the calls
pub wants-calls : (policy : Policy) (place : Place) (taken : TakenTurn) (Called Others : ℕ → Type 0) → ((more : ℕ) → Called more → Others more)
    → WantsMemoryAt policy place taken Called → WantsMemoryAt policy place taken Others
wants-calls policy place taken Called Others f wants = elim wants [
  | inl before ↦ inl (record { cause = before.cause; unrecorded = before.unrecorded; calls = f 0 before.calls })
  | inr start ↦ inr (record { cause = start.cause; calls = f 1 start.calls })
]

-- the disk failed in a turn
pub finish-disk : (task : Task) (ledger : List Change) (turns : List TakenTurn) (old mid new : Standing) (turn : FeedTurn) → Going task ledger turns old mid
    → mid.outside.feed.faults ≡ old.outside.feed.faults → (ReachesLimit task.limits turns → ⊥) → Takes turn mid.outside new.outside
    → FailsAtDisk task.policy (after_turns (entry ledger) turns) turn (scene_of mid) (scene_of new) → Finishes task ledger stop.DiskFault old new
finish-disk task ledger turns old mid new turn going calm under takes fails =
    let taken : TakenTurn = fails.taken in
    let rules : Rules = rules_by task.policy in
    let next : List Change = fails.failing in
    let planned_is : (changes_in (turns ++ taken ∷ []) ++ next) ++ fails.later ≡ planned (run_of task ledger old.outside.host.faults AtDiskFault (turns ++ taken ∷ [])) =
    ap (λ (changes : List Change). (changes ++ next) ++ fails.later) (changes-push turns taken)
    ∙ ap (λ (changes : List Change). changes ++ fails.later) (append_assoc (changes_in turns) taken.changes next)
    ∙ append_assoc (changes_in turns) (taken.changes ++ next) fails.later
    ∙ ap (λ (made : List Change). changes_in turns ++ made) fails.planned ∙ sym (planned-push rules (entry ledger) turns taken going.whole) in
    let cuts : Cuts task ledger turns old mid new taken going AtDiskFault Untold next =
    record {
      may = refl;
      fits = tt;
      cut = fails.cut;
      meant = fails.meant;
      whole = fails.whole;
      numbered = fails.numbered;
      adds = fails.adds;
      settled = λ wants. absurd cc;
      tells = refl;
      fails = (fails.one, (fails.later, planned_is));
      logs = fails.logs;
    } in
    record {
      account = cut_short task ledger old.outside.host.faults AtDiskFault (turns ++ taken ∷ []) Untold next;
      turns = turns ++ taken ∷ [];
      is = refl;
      serving = serving-cut task ledger turns old mid new taken going AtDiskFault Untold next cuts under;
      given = cut-given task ledger turns old mid new taken going turn fails.of_turn takes;
      adds = cut-adds task ledger turns old mid new taken going AtDiskFault Untold next cuts;
      memory = λ wants. absurd cc;
      caused = record { feed = takes.faults ∙ calm; disk = fails.disk ∙ ap counted going.disk; end = tt };
      logs = cut-logs task ledger turns old mid new taken going AtDiskFault Untold next cuts;
      parks = fails.parks;
      sums = tt;
    }

-- memory was wanting in a turn
pub finish-memory : (task : Task) (ledger : List Change) (turns : List TakenTurn) (old mid new : Standing) (turn : FeedTurn) → Going task ledger turns old mid
    → mid.outside.feed.faults ≡ old.outside.feed.faults → (ReachesLimit task.limits turns → ⊥) → Takes turn mid.outside new.outside
    → WantsMemory task.policy (after_turns (entry ledger) turns) turn (scene_of mid) (scene_of new) → Finishes task ledger stop.NoMemory old new
finish-memory task ledger turns old mid new turn going calm under takes wants =
    let taken : TakenTurn = wants.taken in
    let cuts : Cuts task ledger turns old mid new taken going AtWantOfMemory wants.told [] =
    record {
      may = refl;
      fits = tt;
      cut = wants.cut;
      meant = subst (λ (changes : List Change). CutTurn (rules_by task.policy) (after_turns (entry ledger) turns) (record taken { changes = changes })) (sym (append-nil taken.changes)) wants.cut;
      whole = wants.whole;
      numbered = wants.numbered;
      adds = wants.adds;
      settled = λ e. wants.settled;
      tells = wants.may;
      fails = refl;
      logs = wants.logs;
    } in
    record {
      account = cut_short task ledger old.outside.host.faults AtWantOfMemory (turns ++ taken ∷ []) wants.told [];
      turns = turns ++ taken ∷ [];
      is = refl;
      serving = serving-cut task ledger turns old mid new taken going AtWantOfMemory wants.told [] cuts under;
      given = cut-given task ledger turns old mid new taken going turn wants.of_turn takes;
      adds = cut-adds task ledger turns old mid new taken going AtWantOfMemory wants.told [] cuts;
      memory = λ ending front last placed.
          let one = last-one turns front taken last placed in
          subst (λ (t : TakenTurn). WantsMemoryAt task.policy (after_turns (entry ledger) front) t (λ more. IfTold old.outside.host.told new.outside.host.told (λ x y. CallsBehind more (after_turns (entry ledger) front).ledger t y))) (sym one.1)
          (subst (λ (f : List TakenTurn). WantsMemoryAt task.policy (after_turns (entry ledger) f) taken (λ more. IfTold old.outside.host.told new.outside.host.told (λ x y. CallsBehind more (after_turns (entry ledger) f).ledger taken y))) (sym one.0)
          (wants-calls task.policy (after_turns (entry ledger) turns) taken (λ more. MakesCalls (calls_for taken.items (after_turns (entry ledger) turns).ledger taken.changes + more) mid.outside.host new.outside.host)
          (λ more. IfTold old.outside.host.told new.outside.host.told (λ x y. CallsBehind more (after_turns (entry ledger) turns).ledger taken y)) (calls-behind task ledger turns old mid new going taken wants.begun) wants.wants));
      caused = record { feed = takes.faults ∙ calm; disk = wants.disk ∙ going.disk; end = tt };
      logs = cut-logs task ledger turns old mid new taken going AtWantOfMemory wants.told [] cuts;
      parks = wants.parks;
      sums = tt;
    }
