-- A daemon that was resumed over a new host stands at the entry of a run.
use Rattle.std.proofs.Common.{sym, ◌≡◌, false, List, [], refl, ap, ◌∙◌, subst, inl, arith}
use Rattle.fk_trace.specs.declared.change.Change.{Change}
use Rattle.fk_run.specs.Place.{entry}
use Rattle.fk_host.specs.Disk.{Areas, Above, IfTold}
use Rattle.fk_memory.specs.Area.{areas_after}
use Rattle.fk_memory.specs.Host.{HostState, told_of, leaves_of, above_of}
use Rattle.fk_conf.specs.declared.conf.Conf.{Conf}
use Rattle.fk_ledger.specs.Book.{Book}
use Rattle.fk_ledger.specs.Holds.{HoldsLedger, KeepsLedger}
use Rattle.fk_host.specs.declared.disk.Area.{Area}
use Rattle.fk_child.specs.View.{StandsOnArea}
use Rattle.fk_child.specs.Crew.{IsTied}
use Rattle.fk_turn.specs.Daemon.{DaemonState}
use Rattle.fk_trial.specs.Replay.{IsNewHost, IsTrialHost}
use Rattle.fk_trial.specs.Sessions.{OpensDaemon, view}
use Rattle.fk_trial.proofs.Serving.{told-hosts}

-- what the opening of a ledger over a new host says
pub record Opened (conf : Conf) (ledger : Book) (old new : HostState) : Type 0 where
  pub held : IfTold (told_of old) (told_of new) (λ before later. HoldsLedger before.areas ledger.changes)
  pub fresh : (ledger.room ≡ conf.room) × (ledger.limit ≡ conf.live) × (ledger.keep ≡ conf.keep) × (ledger.is_spent ≡ false)
  pub keeps : KeepsLedger ledger.changes (told_of new) (leaves_of new)
  pub area : StandsOnArea ledger.area (view new)
  pub trace : IfTold (told_of old) (told_of new) (λ before later. later.trace ≡ before.trace)
  pub disk : new.faults ≡ old.faults

abbrev empty_areas : Areas
empty_areas = record { head = []; one = []; two = [] }

holds-none : HoldsLedger empty_areas []
holds-none = inl (record { entries = inl (omega arith, refl); each = tt; follow = tt })

pub opened : (conf : Conf) (ledger : Book) (daemon : DaemonState) (old new : HostState) → IsNewHost old → Opened conf ledger old new
    → ((image : Areas) (a b : List Change) → HoldsLedger image a → HoldsLedger image b → a ≡ b)
    → (daemon.book ≡ ledger) × (daemon.turns ≡ 0) → ((above : Above) → IsTied daemon.crew above (entry ledger.changes)) → daemon.crew.unsettled ≡ []
    → new.is_short ≡ false → IsTrialHost new → OpensDaemon conf daemon new
opened conf ledger daemon old new fresh opens one is tied settled told replay =
    let areas : areas_after old.first old.calls ≡ empty_areas = ap (λ (host : HostState). areas_after host.first host.calls) fresh in
    let held : HoldsLedger (areas_after old.first old.calls) ledger.changes =
    told-hosts old new (λ before later. HoldsLedger before.areas ledger.changes) told opens.held in
    let none : ledger.changes ≡ [] = one empty_areas ledger.changes [] (subst (λ (image : Areas). HoldsLedger image ledger.changes) areas held) holds-none in
    let trace : new.trace ≡ old.trace = told-hosts old new (λ before later. later.trace ≡ before.trace) told opens.trace in
    record {
      rests = λ out. record {
        stands = record {
          changes = ap (λ (book : Book). book.changes) is.0 ∙ none;
          limit = ap (λ (book : Book). book.limit) is.0 ∙ opens.fresh.1;
          room = ap (λ (book : Book). book.room) is.0 ∙ opens.fresh.0;
          keep = ap (λ (book : Book). book.keep) is.0 ∙ opens.fresh.2;
          unspent = ap (λ (book : Book). book.is_spent) is.0 ∙ opens.fresh.3;
          area = subst (λ (area : Area). StandsOnArea area (view new)) (sym (ap (λ (book : Book). book.area) is.0)) opens.area;
          stands = record {
            tied = subst (λ (changes : List Change). IsTied daemon.crew (above_of new) (entry changes)) none (tied (above_of new));
            keeps = subst (λ (changes : List Change). KeepsLedger changes (told_of new) (leaves_of new)) none opens.keeps;
          };
          number = let first = is.1 in omega arith;
        };
        settled = settled;
      };
      told = told;
      replay = replay told;
      trace = trace ∙ ap (λ (host : HostState). host.trace) fresh;
      faults = opens.disk ∙ ap (λ (host : HostState). host.faults) fresh;
    }
