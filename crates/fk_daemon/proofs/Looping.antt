-- What one round of the loop over the feed's turns makes of a run.
use Rattle.std.proofs.Common.{◌≡◌, ℕ, ◌<◌, ◌≤◌, ◌||◌, nat_le, Bool, false, List, [], ◌∷◌, ◌++◌, length, Option, Some, None, IfSome, IsSomeAnd, refl, sym, ap, ◌∙◌, ◌⊎◌, inl, inr, arith}
use Rattle.std.specs.Option.{option_map_or}
use Rattle.std.proofs.lemmas.Grind.{common_steps}
use Rattle.std.proofs.lemmas.Bool.Decides.{nat_tests}
use Rattle.fk_trace.specs.declared.change.Change.{Change}
use Rattle.fk_run.specs.declared.limits.Limits.{Limits}
use Rattle.fk_run.specs.Place.{entry}
use Rattle.fk_run.specs.Turn.{TakenTurn, after_turns}
use Rattle.fk_run.specs.Run.Ending.{AtFeedFault}
use Rattle.fk_run.specs.Ending.{packets_in, ReachesLimit}
use Rattle.fk_host.specs.Count.{counted}
use Rattle.fk_log.specs.Log.Opening.{Unopened}
use Rattle.fk_log.specs.Log.RefusalLine.{Told}
use Rattle.fk_log.specs.Writing.{Logs}
use Rattle.fk_daemon.proofs.Crashing.{adds-no_turn}
use Rattle.fk_ledger.specs.Book.{live_ids}
use Rattle.fk_turn.specs.Rules.{rules_by}
use Rattle.fk_daemon.specs.declared.task.Task.{Task}
use Rattle.fk_daemon.specs.declared.session.Stop.{Stop}
use Rattle.fk_daemon.specs.declared.session.Stop.TheVariants as stop
use Rattle.fk_daemon.specs.Outside.{FeedView}
use Rattle.fk_daemon.specs.Account.{AreLimits}
use Rattle.fk_daemon.specs.Sessions.{Standing, Begins, MayServe, AsksNext, Finishes, run_of, is_over, output_of}
use Rattle.fk_daemon.proofs.Behind.{number-behind}
use Rattle.fk_daemon.proofs.Going.{Going, going-push, no_turn_before}
use Rattle.fk_daemon.proofs.Stopping.{finish-end, finish-feed, finish-disk, finish-memory}

-- the counts of a session are those of its turns
pub over-behind : (task : Task) (ledger : List Change) (turns : List TakenTurn) (old now : Standing) (b : Bool) → Going task ledger turns old now
    → is_over task.limits now.session.turns now.session.packets ≡ b → is_over task.limits (length turns) (packets_in turns) ≡ b
over-behind task ledger turns old now b going over =
    ap (λ (n : ℕ). is_over task.limits n (packets_in turns)) (sym going.turns_are) ∙ ap (λ (n : ℕ). is_over task.limits now.session.turns n) (sym going.packets_are) ∙ over

under-limit : (most : Option ℕ) (turns : ℕ) (other : Bool) → IfSome most (λ most. (1 ≤ most) × (most ≤ 9223372036854775807))
    → (nat_le (option_map_or (λ (most : ℕ). most) most 9223372036854775807) turns || other) ≡ false → turns < 9223372036854775808
under-limit None turns other few over = grind (arith, nat_tests)
under-limit (Some most) turns other few over = let high = few.1 in grind (arith, nat_tests)

packets_are_few : (turns : List TakenTurn) → packets_in turns ≤ length turns
packets_are_few turns = search (common_steps)

-- where no limit is reached a turn may be served
pub may-serve : (task : Task) (ledger : List Change) (turns : List TakenTurn) (old now : Standing) → AreLimits task.limits → Going task ledger turns old now
    → is_over task.limits now.session.turns now.session.packets ≡ false → MayServe task now
may-serve task ledger turns old now limits going over =
    let low : now.session.turns < 9223372036854775808 =
    under-limit task.limits.turns now.session.turns (option_map_or (λ (most : ℕ). nat_le most now.session.packets) task.limits.packets false) limits.turns over in
    record {
      rests = (after_turns (entry ledger) turns, going.rests);
      few = let a = going.rests.stands.number in let b = number-behind (entry ledger) turns in let e = going.turns_are in omega (arith, low, a, b, e);
      turns = low;
      packets = let a = going.packets_are in let b = going.turns_are in let e = packets_are_few turns in omega (arith, a, b, e);
    }

-- a round that stopped the run
pub round-stops : (task : Task) (ledger : List Change) (turns : List TakenTurn) (old mid new : Standing) (how : Stop) → Going task ledger turns old mid
    → mid.outside.feed.faults ≡ old.outside.feed.faults → (ReachesLimit task.limits turns → ⊥)
    → AsksNext task (Some how) (after_turns (entry ledger) turns) mid new → Finishes task ledger how old new
round-stops task ledger turns old mid new stop.Limit going calm under asks = absurd asks
round-stops task ledger turns old mid new stop.End going calm under asks = finish-end task ledger turns old mid new going calm under asks.0 asks.1 asks.2
round-stops task ledger turns old mid new stop.FeedFault going calm under asks = finish-feed task ledger turns old mid new going calm under asks.0 asks.1
round-stops task ledger turns old mid new stop.DiskFault going calm under asks = finish-disk task ledger turns old mid new asks.0 going calm under asks.1 asks.2
round-stops task ledger turns old mid new stop.NoMemory going calm under asks = finish-memory task ledger turns old mid new asks.0 going calm under asks.1 asks.2

-- a round that served a turn
pub round-goes_on : (task : Task) (ledger : List Change) (turns : List TakenTurn) (old mid new : Standing) → Going task ledger turns old mid
    → mid.outside.feed.faults ≡ old.outside.feed.faults → (ReachesLimit task.limits turns → ⊥)
    → AsksNext task None (after_turns (entry ledger) turns) mid new
    → (all : List TakenTurn) × Going task ledger all old new × (new.outside.feed.faults ≡ old.outside.feed.faults)
round-goes_on task ledger turns old mid new going calm under asks =
    (turns ++ asks.2.serves.taken ∷ [], going-push task ledger turns old mid new asks.0 going under asks.1 asks.2, asks.1.faults ∙ calm)

none_reached : (limits : Limits) → AreLimits limits → ReachesLimit limits [] → ⊥
none_reached limits are reached = none limits.packets limits.turns are.packets are.turns reached
  where
    none : (packets turns : Option ℕ) → IfSome packets (λ most. 1 ≤ most) → IfSome turns (λ most. (1 ≤ most) × (most ≤ 9223372036854775807))
        → IsSomeAnd packets (λ most. most ≤ 0) ⊎ (option_map_or (λ (most : ℕ). most) turns 9223372036854775807 ≤ 0) → ⊥
    none None turns p t (inl some) = some
    none (Some packets) turns p t (inl some) = omega arith
    none packets None p t (inr low) = omega arith
    none packets (Some turns) p t (inr low) = let high = t.0 in omega arith

-- the feed could not be opened
pub finish-unopened : (task : Task) (ledger : List Change) (old : Standing) (feed : FeedView) → AreLimits task.limits → Begins task ledger old
    → feed.given ≡ old.outside.feed.given → feed.faults ≡ counted old.outside.feed.faults → Logs [] (output_of old) (output_of old)
    → Finishes task ledger stop.FeedFault old (record { session = old.session; outside = record { feed = feed; host = old.outside.host; sink = old.outside.sink } })
finish-unopened task ledger old feed limits begins given fails logs = record {
  account = record { run = run_of task ledger old.outside.host.faults AtFeedFault []; opening = Unopened; refusal = Told; failing = [] };
  turns = [];
  is = refl;
  serving = record {
    rules = refl;
    ledger = begins.rests.stands.stands.keeps.follow;
    legal = record { turns = tt; no_fault_before = tt; numbered = begins.rests.stands.stands.tied.stands.orderly.numbered };
    limits = record { fits = none_reached task.limits limits; before = λ front taken later e reached. no_turn_before front taken later e };
    settled = λ wants front last placed. absurd cc;
    wants = λ wants none. cc;
    opens = (refl, refl);
    tells = refl;
    fails = refl;
    whole = refl;
  };
  given = given;
  adds = adds-no_turn (rules_by task.policy) ledger old.outside.host.faults AtFeedFault old.outside.host begins.rests.stands.stands.keeps;
  memory = λ wants front last placed. absurd cc;
  caused = record { feed = fails; disk = refl; end = tt };
  logs = logs;
  parks = begins.rests.stands.stands.tied.owes ∙ ap live_ids (sym begins.rests.stands.changes);
  sums = tt;
}
