use Rattle.std.proofs.Common.{inl, inr, subst, sym}
use Rattle.fk_log.specs.Printing.{sink_by}
use Rattle.fk_daemon.specs.Account.{AreLimits}
use Rattle.fk_serve.specs.Private.{names_of, served_in}
use Rattle.fk_serve.specs.Running.{RefusesFiles}
use Rattle.fk_trial.specs.Streams.{SourceView}
use Rattle.fk_program.specs.Faults.{fault_of}
use Rattle.fk_program.specs.Files.{files_by}
use Rattle.fk_daemon.specs.Outside.{outside_by}
use Rattle.fk_serve.proofs.Counting.{refused-counts, refused-files, served-counts}
use Rattle.fk_serve.proofs.Served.{served}
use Rattle.fk_serve.proofs.serving.serve_by_files.Goals as goal

pub returns-in-Err : goal.returns-in-Err
returns-in-Err g c =
    let file = files_by g.F.Files in
    let sink = sink_by g.K.Sink in
    let at = outside_by g.E.Feed g.H.Disk g.K.Sink in
    let names = names_of c.args.asked.now.names in
    let before = at c.args.feed.now c.args.host.now c.args.out.now in
    let after = at c.args.feed.now c.args.host.now c.refuse.new.out in
    let refuses : (input : SourceView) → RefusesFiles names (served_in input (file c.args.files.now) before) (served_in input (file c.read_files.new.files) after) c.refuse.result =
    λ input. refused-files names (fault_of c.in-Err.refusal) c.refuse.result input (file c.args.files.now) (file c.read_files.new.files) before (sink c.refuse.new.out)
    c.in-Err.ensures c.refuse.ensures in
    record {
      serves = λ input. inr (refuses input);
      counts = λ input. refused-counts names (served_in input (file c.args.files.now) before) (served_in input (file c.read_files.new.files) after) c.refuse.result (refuses input);
    }

pub returns : goal.returns
returns g c =
    let file = files_by g.F.Files in
    let at = outside_by g.E.Feed g.H.Disk g.K.Sink in
    let asked = c.args.asked.now in
    let before = at c.args.feed.now c.args.host.now c.args.out.now in
    let after = at c.serve.new.feed c.serve.new.host c.serve.new.out in
    let task = c.task_of-task.result in
    let says = c.task_of-task.ensures in
    record {
      serves = λ input. inl (served (names_of asked.names) asked.limits asked.verbosity input (file c.args.files.now) (file c.read_files.new.files) before after c.serve.result
          task c.in-Ok.settings.conf c.in-Ok.settings.access c.in-Ok.ensures says.conf says.access says.limits says.verbosity c.serve.ensures.serves);
      counts = λ input. served-counts task c.serve.result input (file c.args.files.now) (file c.read_files.new.files) before after c.in-Ok.ensures.kept c.serve.ensures.serves
          c.serve.ensures.feed c.serve.ensures.disk c.serve.ensures.sink;
    }

pub serve-requires : goal.serve-requires
serve-requires g c = subst AreLimits (sym c.task_of-task.ensures.limits) c.requires
