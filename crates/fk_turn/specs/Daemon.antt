-- A daemon between two calls: what it keeps, its host and its log; and what ties the three to a place of a run.
use Rattle.std.specs.Prelude.{◌≡◌, ℕ, ◌+◌, false, []}
use Rattle.fk_run.specs.Place.{Place}
use Rattle.fk_host.specs.declared.disk.Disk.{Ghosts as DiskMeaning}
use Rattle.fk_host.specs.declared.stream.Sink.{Ghosts as SinkMeaning}
use Rattle.fk_conf.specs.declared.conf.Conf.{Conf}
use Rattle.fk_ledger.specs.Book.{Book}
use Rattle.fk_child.specs.Crew.{CrewState, StandsAt}
use Rattle.fk_child.specs.View.{View, view_of, StandsOnArea}
use Rattle.fk_log.specs.Writing.{LogState, Output, output}

-- a daemon as contracts see it
pub record DaemonState : Type 0 where
  pub book : Book
  pub crew : CrewState
  -- how many turns it has served
  pub turns : ℕ

-- a daemon with its host and its log
pub record Scene : Type 1 where
  pub daemon : DaemonState
  pub host : View
  pub output : Output

abbrev pub scene : DaemonState → View → Output → Scene
scene daemon host output = record { daemon = daemon; host = host; output = output }

-- the same, of the objects by what they mean
abbrev pub output_by : {K : Type 0} → SinkMeaning K → LogState → K → Output
output_by means log sink = output log (means.written sink) (means.faults sink)

abbrev pub scene_by : {H K : Type 0} → DiskMeaning H → SinkMeaning K → DaemonState → H → LogState → K → Scene
scene_by disk out daemon host log sink = scene daemon (view_of disk host) (output_by out log sink)

-- The daemon stands at the place: its ledger is the one of the place, within the configuration's bounds, and stands on the area that
-- Head selects; its crew stands there; the turn that is served, or else the next one, has the number of the place. It does so in the midst of a turn too.
pub record DaemonStands (conf : Conf) (at : Scene) (place : Place) : Type 0 where
  pub changes : at.daemon.book.changes ≡ place.ledger
  pub limit : at.daemon.book.limit ≡ conf.live
  pub room : at.daemon.book.room ≡ conf.room
  pub keep : at.daemon.book.keep ≡ conf.keep
  pub unspent : at.daemon.book.is_spent ≡ false
  pub area : StandsOnArea at.daemon.book.area at.host
  pub stands : StandsAt (record { crew = at.daemon.crew; host = at.host }) place
  pub number : place.number ≡ at.daemon.turns + 1

-- it stands at the place, and nothing is yet to be settled, as it is between two turns
pub record AtRest (conf : Conf) (at : Scene) (place : Place) : Type 0 where
  pub stands : DaemonStands conf at place
  pub settled : at.daemon.crew.unsettled ≡ []

-- it is at rest at some place
abbrev pub Rests : Conf → Scene → Type 0
Rests conf at = (place : Place) × AtRest conf at place

-- under some configuration it stands at some place, or is at rest there
abbrev pub StandsSomehow : Scene → Type 0
StandsSomehow at = (conf : Conf) × (place : Place) × DaemonStands conf at place

abbrev pub RestsSomehow : Scene → Type 0
RestsSomehow at = (conf : Conf) × Rests conf at
