-- A daemon that has just resumed rests where its run begins.
use Rattle.std.proofs.Common.{◌≡◌, ◌+◌, ℕ, false, [], sym, ap, subst, ◌∙◌}
use Rattle.fk_run.specs.Place.{entry}
use Rattle.fk_host.specs.Disk.{Above}
use Rattle.fk_log.specs.Writing.{Output}
use Rattle.fk_conf.specs.declared.conf.Conf.{Conf}
use Rattle.fk_host.specs.declared.disk.Area.{Area}
use Rattle.fk_ledger.specs.Book.{Book}
use Rattle.fk_ledger.specs.Holds.{KeepsLedger}
use Rattle.fk_child.specs.Crew.{IsTied}
use Rattle.fk_child.specs.View.{View, StandsOnArea}
use Rattle.fk_turn.specs.Daemon.{DaemonState, scene, Rests}

pub rests-first : (conf : Conf) (ledger : Book) (daemon : DaemonState) (host : View) (out : Output) → (ledger.room ≡ conf.room) × (ledger.limit ≡ conf.live) × (ledger.keep ≡ conf.keep) × (ledger.is_spent ≡ false)
    → StandsOnArea ledger.area host → KeepsLedger ledger.changes host.told host.images → (daemon.book ≡ ledger) × (daemon.turns ≡ 0) → ((above : Above) → IsTied daemon.crew above (entry ledger.changes)) → daemon.crew.unsettled ≡ []
    → Rests conf (scene daemon host out)
rests-first conf ledger daemon host out fresh area keeps begun tied settled = (
  entry ledger.changes,
  record {
    stands = record {
      changes = ap (λ (b : Book). b.changes) begun.0;
      limit = ap (λ (b : Book). b.limit) begun.0 ∙ fresh.1;
      room = ap (λ (b : Book). b.room) begun.0 ∙ fresh.0;
      keep = ap (λ (b : Book). b.keep) begun.0 ∙ fresh.2;
      unspent = ap (λ (b : Book). b.is_spent) begun.0 ∙ fresh.3;
      area = subst (λ (area : Area). StandsOnArea area host) (sym (ap (λ (b : Book). b.area) begun.0)) area;
      stands = record { tied = tied host.above; keeps = keeps };
      number = sym (ap (λ (n : ℕ). n + 1) begun.1);
    };
    settled = settled;
  },
)
