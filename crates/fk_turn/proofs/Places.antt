-- The places behind the parts of a turn, and parts that adjoin.
use Rattle.std.proofs.Common.{◌≡◌, ℕ, ◌+◌, List, [], refl, sym, ap, subst, ◌∙◌, append-nil}
use Rattle.fk_trace.specs.declared.change.Change.{Change}
use Rattle.fk_trace.proofs.Ledgers.{after-append}
use Rattle.fk_trace.proofs.Settled.{past_after-append}
use Rattle.fk_run.specs.Left.{MayStandBefore}
use Rattle.fk_run.specs.Place.{Place}
use Rattle.fk_conf.specs.declared.conf.Conf.{Conf}
use Rattle.fk_child.specs.Crew.{CrewHost, StandsAt}
use Rattle.fk_turn.specs.Parts.{Part, joined, reached, ServesPart}
use Rattle.fk_turn.specs.Daemon.{DaemonState, Scene, DaemonStands}
use Rattle.fk_turn.proofs.Items.{ends_after-append}
use Rattle.fk_child.proofs.Images.{adds-append}
use Rattle.fk_log.proofs.Logged.{Logs-append}

pub place-same : (a b : Place) → a.past ≡ b.past → a.ends ≡ b.ends → a.ledger ≡ b.ledger → a.number ≡ b.number → a ≡ b
place-same a b p e l n =
    let same : record { past = a.past; ends = a.ends; ledger = a.ledger; number = a.number } ≡ record { past = b.past; ends = b.ends; ledger = b.ledger; number = b.number } = cc in
    same

pub reached-join : (moment : ℕ) (place : Place) (a b : Part) → reached moment (reached moment place a) b ≡ reached moment place (joined a b)
reached-join moment place a b =
    place-same (reached moment (reached moment place a) b) (reached moment place (joined a b))
    (sym (past_after-append place.past a.items b.items)) (sym (ends_after-append moment place.ends a.items b.items)) (sym (after-append place.ledger a.changes b.changes)) refl

-- parts that adjoin are one
pub serves-join : (conf : Conf) (moment : ℕ) (place : Place) (a b : Part) (u v w : Scene)
    → MayStandBefore a.items a.changes b.items b.changes
    → ServesPart conf moment place a u v → ServesPart conf moment (reached moment place a) b v w → ServesPart conf moment place (joined a b) u w
serves-join conf moment place a b u v w order first second = record {
  adds = adds-append a.items b.items place.ledger a.changes b.changes []
      (subst (λ (cs : List Change). MayStandBefore a.items a.changes b.items cs) (sym (append-nil b.changes)) order) u.host v.host w.host first.adds first.disk second.adds;
  disk = second.disk ∙ first.disk;
  logs = Logs-append a.lines b.lines u.output v.output w.output first.logs second.logs;
  stands = subst (DaemonStands conf w) (reached-join moment place a b) second.stands;
}

-- the number of a place plays no part where a crew stands
pub stands-numbered : (both : CrewHost) (place : Place) (n : ℕ) → StandsAt both place → StandsAt both (record place { number = n })
stands-numbered both place n h = record {
  tied = record {
    owes = h.tied.owes;
    runs = h.tied.runs;
    stands = h.tied.stands;
    waits = h.tied.waits;
    once = h.tied.once;
    unused = h.tied.unused;
    known = h.tied.known;
    below = h.tied.below;
  };
  keeps = h.keeps;
}

abbrev pub daemon_next : DaemonState → DaemonState
daemon_next daemon = record daemon { turns = daemon.turns + 1 }

abbrev pub scene_next : Scene → Scene
scene_next at = record at { daemon = daemon_next at.daemon }

-- a turn is counted as served
pub next-stands : (conf : Conf) (at : Scene) (place : Place) → DaemonStands conf at place → DaemonStands conf (scene_next at) (record place { number = place.number + 1 })
next-stands conf at place h = record {
  changes = h.changes;
  limit = h.limit;
  room = h.room;
  keep = h.keep;
  unspent = h.unspent;
  area = h.area;
  stands = stands-numbered (record { crew = at.daemon.crew; host = at.host }) place (place.number + 1) h.stands;
  number = ap (λ (n : ℕ). n + 1) h.number;
}
