use Rattle.std.proofs.Common.{◌+◌, List, [], ◌∷◌, map, refl, sym, subst}
use Rattle.fk_run.specs.Place.{Place, behind}
use Rattle.fk_conf.specs.declared.conf.Conf.{Conf}
use Rattle.fk_log.specs.Writing.{Logs}
use Rattle.fk_child.specs.declared.items.EndItem.{EndItem}
use Rattle.fk_child.specs.View.{view_of}
use Rattle.fk_turn.specs.Daemon.{DaemonState, Scene, scene, AtRest, RestsSomehow, scene_by, output_by}
use Rattle.fk_turn.specs.Parts.{BeginsTurn, end_line}
use Rattle.fk_turn.specs.contracts.daemon.Daemon.{the_view}
use Rattle.fk_turn.proofs.Parting.{begins}
use Rattle.fk_turn.proofs.daemon.Daemon.begin.Goals as goal

pub poll_all-requires-clause-stands : goal.poll_all-requires-clause-stands
poll_all-requires-clause-stands g c =
    let view = view_of g.H.Disk in
    let out = output_by g.K.Sink in
    let rests : RestsSomehow (scene_by g.H.Disk g.K.Sink (the_view c.self.inside) c.args.host.now c.args.log.now c.args.out.now) =
    subst (λ (d : DaemonState). RestsSomehow (scene_by g.H.Disk g.K.Sink d c.args.host.now c.args.log.now c.args.out.now)) (sym c.self.view_is) c.requires.rests in
    let marks = c.turn.ensures.marks rests.1.0 rests.1.1.stands.stands in
    (behind 0 rests.1.0 (marks.item ∷ []), (marks.goes 0).stands)

pub returns : goal.returns
returns g c =
    let view = view_of g.H.Disk in
    let out = output_by g.K.Sink in
    let ends : Logs (map (end_line c.args.moment) c.poll_all.new.self.ends) (out c.add.new.self c.add.new.out) (out c.tell_ends.new.log c.tell_ends.new.out) =
    subst (λ (xs : List EndItem). Logs (map (end_line c.args.moment) xs) (out c.add.new.self c.add.new.out) (out c.tell_ends.new.log c.tell_ends.new.out)) c.ends.ensures c.tell_ends.ensures in
    let new : Scene = scene (record { book = c.self.inside.ledger; crew = c.poll_all.new.self; turns = c.self.inside.turns }) (view c.poll_all.new.host) (out c.tell_ends.new.log c.tell_ends.new.out) in
    subst
    (λ (d : DaemonState). (conf : Conf) (place : Place) → AtRest conf (scene_by g.H.Disk g.K.Sink d c.args.host.now c.args.log.now c.args.out.now) place
    → BeginsTurn conf c.args.moment place (scene_by g.H.Disk g.K.Sink d c.args.host.now c.args.log.now c.args.out.now) new)
    c.self.view_is
    (λ conf place rest.
    let marks = c.turn.ensures.marks place rest.stands.stands in
    begins conf c.args.moment (c.self.inside.turns + 1) place c.self.inside.ledger c.self.inside.turns c.self.inside.crew c.turn.new.self c.poll_all.new.self
    (view c.args.host.now) (view c.turn.new.host) (view c.poll_all.new.host)
    (out c.args.log.now c.args.out.now) (out c.add.new.self c.add.new.out) (out c.tell_ends.new.log c.tell_ends.new.out)
    rest refl c.add.ensures marks
    (c.poll_all.ensures.polls (behind c.args.moment place (marks.item ∷ [])) (marks.goes c.args.moment).stands) ends)
