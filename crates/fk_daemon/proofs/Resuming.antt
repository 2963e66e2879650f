-- A daemon that was resumed over a ledger stands at its entry.
use Rattle.std.proofs.Common.{◌≡◌, true, false, List, [], refl, sym, ap, ◌∙◌, subst, arith}
use Rattle.fk_trace.specs.declared.change.Change.{Change}
use Rattle.fk_run.specs.Place.{entry}
use Rattle.fk_host.specs.Disk.{Above, IfTold}
use Rattle.fk_conf.specs.declared.conf.Conf.{Conf}
use Rattle.fk_host.specs.declared.disk.Area.{Area}
use Rattle.fk_journal.specs.Keeps.{StandsOn, IsOpening}
use Rattle.fk_ledger.specs.Book.{Book}
use Rattle.fk_ledger.specs.Holds.{HoldsLedger, KeepsLedger}
use Rattle.fk_ledger.specs.Stretch.{IsLedgerOpening, IsKeptOpening, UnlessOlder}
use Rattle.fk_child.specs.View.{View}
use Rattle.fk_child.specs.Crew.{IsTied}
use Rattle.fk_turn.specs.Daemon.{DaemonState}
use Rattle.fk_daemon.specs.Moments.{SparesUnlessOlder}
use Rattle.fk_daemon.specs.Serving.{OpensInVain}
use Rattle.fk_daemon.specs.Sessions.{OpensDaemon}
use Rattle.fk_daemon.proofs.Telling.{told-both, told-weaker, opening-weaker}

-- what the opening of a ledger says
pub record Opened (conf : Conf) (ledger : Book) (old new : View) : Type 0 where
  pub held : IfTold old.told new.told (λ before later. HoldsLedger before.areas ledger.changes)
  pub fresh : (ledger.room ≡ conf.room) × (ledger.limit ≡ conf.live) × (ledger.keep ≡ conf.keep) × (ledger.is_spent ≡ false)
  pub keeps : KeepsLedger ledger.changes new.told new.images
  pub area : StandsOn ledger.area new.told
  pub moments : (held : List Change) → IfTold old.told new.told (λ before later. HoldsLedger before.areas held → IsLedgerOpening held true old.images new.images before later)
  pub trace : IfTold old.told new.told (λ before later. later.trace ≡ before.trace)
  pub kept : IfTold old.told new.told (IsKeptOpening old.images new.images)
  pub entries : IfTold old.told new.told (UnlessOlder (IsOpening old.images new.images))
  pub others : SparesUnlessOlder old new
  pub disk : new.faults ≡ old.faults

pub resumed : (conf : Conf) (ledger : Book) (daemon : DaemonState) (old new : View) → Opened conf ledger old new
    → (daemon.book ≡ ledger) × (daemon.turns ≡ 0) → ((above : Above) → IsTied daemon.crew above (entry ledger.changes)) → daemon.crew.unsettled ≡ []
    → OpensDaemon conf old new daemon
resumed conf ledger daemon old new opened is tied settled =
    let same : ledger.changes ≡ daemon.book.changes = ap (λ (book : Book). book.changes) (sym is.0) in
    let held : IfTold old.told new.told (λ before later. HoldsLedger before.areas daemon.book.changes) =
    subst (λ (changes : List Change). IfTold old.told new.told (λ before later. HoldsLedger before.areas changes)) same opened.held in
    record {
      rests = λ out. record {
        stands = record {
          changes = refl;
          limit = ap (λ (book : Book). book.limit) is.0 ∙ opened.fresh.1;
          room = ap (λ (book : Book). book.room) is.0 ∙ opened.fresh.0;
          keep = ap (λ (book : Book). book.keep) is.0 ∙ opened.fresh.2;
          unspent = ap (λ (book : Book). book.is_spent) is.0 ∙ opened.fresh.3;
          area = subst (λ (area : Area). StandsOn area new.told) (sym (ap (λ (book : Book). book.area) is.0)) opened.area;
          stands = record {
            tied = subst (λ (changes : List Change). IsTied daemon.crew new.above (entry changes)) same (tied new.above);
            keeps = subst (λ (changes : List Change). KeepsLedger changes new.told new.images) same opened.keeps;
          };
          number = let none = is.1 in omega arith;
        };
        settled = settled;
      };
      found = held;
      moments = told-both old.told new.told (λ before later. HoldsLedger before.areas daemon.book.changes)
          (λ before later. HoldsLedger before.areas daemon.book.changes → IsLedgerOpening daemon.book.changes true old.images new.images before later)
          (IsLedgerOpening daemon.book.changes true old.images new.images) (λ x y h g. g h) held (opened.moments daemon.book.changes);
      others = opened.others;
      trace = opened.trace;
      disk = opened.disk;
    }

pub opened_in_vain : (conf : Conf) (ledger : Book) (old new : View) → Opened conf ledger old new → OpensInVain old new
opened_in_vain conf ledger old new opened = record {
  trace = opened.trace;
  moments = λ held. told-weaker old.told new.told (λ before later. HoldsLedger before.areas held → IsLedgerOpening held true old.images new.images before later)
      (λ before later. HoldsLedger before.areas held → IsLedgerOpening held false old.images new.images before later)
      (λ x y h g. opening-weaker held old.images new.images x y (h g)) (opened.moments held);
  kept = opened.kept;
  entries = opened.entries;
  others = opened.others;
}
