use Rattle.std.proofs.Common.{refl, sym, subst}
use Rattle.fk_child.specs.View.{view_of}
use Rattle.fk_words.specs.declared.command.Command.{Command}
use Rattle.fk_words.specs.DaemonCommands.{IsForDaemon}
use Rattle.fk_daemon.specs.Outside.{feed_by}
use Rattle.fk_serve.specs.declared.help.TheConstants.{HELP, VERSION}
use Rattle.fk_serve.specs.Running.{PrintsOnly, Runs}
use Rattle.fk_trial.specs.Streams.{source_by, streams_by}
use Rattle.fk_program.specs.Files.{files_by}
use Rattle.fk_serve.specs.World.{world_by}
use Rattle.fk_view.proofs.Viewed.{same-host}
use Rattle.fk_serve.proofs.Counting.{printed-counts}
use Rattle.fk_serve.specs.Private.{bench, names_of}
use Rattle.fk_serve.proofs.Served.{asked-serve, limits-are}
use Rattle.fk_serve.proofs.Tried.{asked-trial, tried-counts, tried_in}
use Rattle.fk_serve.proofs.running.run_command.Goals as goal

pub returns-in-List : goal.returns-in-List
returns-in-List g c =
    let file = files_by g.F.Files c.args.files.now in
    let feed = feed_by g.E.Feed c.args.feed.now in
    let input = source_by g.I.Source c.args.input.now in
    let at = world_by g.F.Files g.E.Feed g.H.Disk g.I.Source g.K.Sink in
    let before = at c.args.files.now c.args.feed.now c.args.host.now c.args.input.now c.args.out.now in
    let after = at c.args.files.now c.args.feed.now c.list_records.new.host c.args.input.now c.list_records.new.out in
    record {
      runs = subst (λ (asked : Command). Runs asked before after c.list_records.result) (sym c.in-List.is) (c.list_records.ensures.lists file feed input);
      counts = c.list_records.ensures.counts file feed input;
    }

pub returns-in-Help : goal.returns-in-Help
returns-in-Help g c =
    let at = world_by g.F.Files g.E.Feed g.H.Disk g.I.Source g.K.Sink in
    let view = view_of g.H.Disk in
    let before = at c.args.files.now c.args.feed.now c.args.host.now c.args.input.now c.args.out.now in
    let after = at c.args.files.now c.args.feed.now c.args.host.now c.args.input.now c.show_text.new.out in
    let prints : PrintsOnly HELP.now before after c.show_text.result =
    record {
      files = refl;
      rest = record { feed = refl; host = same-host (view c.args.host.now); input = refl };
      shows = c.show_text.ensures;
    } in
    record {
      runs = subst (λ (asked : Command). Runs asked before after c.show_text.result) (sym c.in-Help.is) prints;
      counts = printed-counts HELP.now before after c.show_text.result prints;
    }

pub returns-in-Version : goal.returns-in-Version
returns-in-Version g c =
    let at = world_by g.F.Files g.E.Feed g.H.Disk g.I.Source g.K.Sink in
    let view = view_of g.H.Disk in
    let before = at c.args.files.now c.args.feed.now c.args.host.now c.args.input.now c.args.out.now in
    let after = at c.args.files.now c.args.feed.now c.args.host.now c.args.input.now c.show_text-in-Version.new.out in
    let prints : PrintsOnly VERSION.now before after c.show_text-in-Version.result =
    record {
      files = refl;
      rest = record { feed = refl; host = same-host (view c.args.host.now); input = refl };
      shows = c.show_text-in-Version.ensures;
    } in
    record {
      runs = subst (λ (asked : Command). Runs asked before after c.show_text-in-Version.result) (sym c.in-Version.is) prints;
      counts = printed-counts VERSION.now before after c.show_text-in-Version.result prints;
    }

pub returns-in-Serve : goal.returns-in-Serve
returns-in-Serve g c =
    let input = source_by g.I.Source c.args.input.now in
    let at = world_by g.F.Files g.E.Feed g.H.Disk g.I.Source g.K.Sink in
    let before = at c.args.files.now c.args.feed.now c.args.host.now c.args.input.now c.args.out.now in
    let after = at c.serve_by_files.new.files c.serve_by_files.new.feed c.serve_by_files.new.host c.args.input.now c.serve_by_files.new.out in
    let names = names_of c.file_names-names.result in
    record {
      runs = subst (λ (asked : Command). Runs asked before after c.serve_by_files.result) (sym c.in-Serve.is)
          (asked-serve c.in-Serve.conf c.in-Serve.access c.in-Serve.packets c.in-Serve.turns c.in-Serve.verbose names c.verbosity_of.result before after
          c.serve_by_files.result c.file_names-names.ensures.conf c.file_names-names.ensures.access c.verbosity_of.ensures (c.serve_by_files.ensures.serves input));
      counts = c.serve_by_files.ensures.counts input;
    }

pub returns-in-Trial : goal.returns-in-Trial
returns-in-Trial g c =
    let feed = feed_by g.E.Feed c.args.feed.now in
    let host = view_of g.H.Disk c.args.host.now in
    let file = files_by g.F.Files in
    let at = streams_by g.I.Source g.K.Sink in
    let before = bench (file c.args.files.now) (at c.args.input.now c.args.out.now) in
    let after = bench (file c.try_by_files.new.files) (at c.try_by_files.new.input c.try_by_files.new.out) in
    let names = names_of c.file_names-names-in-Trial.result in
    let says = c.file_names-names-in-Trial.ensures in
    let came = c.try_by_files.ensures in
    record {
      runs = subst (λ (asked : Command). Runs asked (tried_in feed host before) (tried_in feed host after) c.try_by_files.result) (sym c.in-Trial.is)
          (asked-trial feed host c.in-Trial.conf c.in-Trial.access c.in-Trial.quiet c.in-Trial.verbose names c.trying_verbosity-verbosity.result before after
          c.try_by_files.result says.conf says.access c.trying_verbosity-verbosity.ensures came.tries);
      counts = tried-counts feed host before after c.try_by_files.result came.files came.input came.sink came.feed came.disk;
    }

pub serve_by_files-requires : goal.serve_by_files-requires
serve_by_files-requires g c = let own = subst IsForDaemon c.in-Serve.is c.requires in limits-are _ _ own.0 own.1
