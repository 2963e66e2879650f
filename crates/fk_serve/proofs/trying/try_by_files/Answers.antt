use Rattle.std.proofs.Common.{refl, ap, subst, sym, inl, inr}
use Rattle.fk_base.specs.declared.status.Status.{Status}
use Rattle.fk_base.specs.declared.status.Status.TheVariants as status
use Rattle.fk_log.specs.Causes.{FailsOnlyAs}
use Rattle.fk_log.specs.Printing.{sink_by}
use Rattle.fk_trial.specs.Streams.{streams_by}
use Rattle.fk_serve.specs.Private.{names_of}
use Rattle.fk_program.specs.Faults.{fault_of}
use Rattle.fk_program.specs.Files.{FilesView, files_by}
use Rattle.fk_program.proofs.Counting.{Blames, fault-blames, tells-sink}
use Rattle.fk_serve.proofs.Counting.{files-count}
use Rattle.fk_serve.proofs.Tried.{tried, trying-spares}
use Rattle.fk_serve.proofs.trying.try_by_files.Goals as goal

pub returns-in-Err : goal.returns-in-Err
returns-in-Err g c =
    let file = files_by g.F.Files in
    let sink = sink_by g.K.Sink in
    let old = file c.args.files.now in
    let new = file c.read_files.new.files in
    let names = names_of c.args.names in
    let fault = fault_of c.in-Err.refusal in
    let tells = c.refuse.ensures in
    let blames = subst Blames (sym tells.answered) (fault-blames fault) in
    record {
      tries = inr (record { fault = fault; fails = c.in-Err.ensures; input = refl; tells = tells });
      files = subst (λ (a : Status). FailsOnlyAs status.FileFault a old.faults new.faults) (sym tells.answered) (files-count names fault old new c.in-Err.ensures);
      input = inr (blames.input, refl);
      sink = tells-sink fault (sink c.args.out.now) (sink c.refuse.new.out) c.refuse.result tells;
      feed = blames.feed;
      disk = blames.disk;
    }

pub returns : goal.returns
returns g c =
    let file = files_by g.F.Files in
    let at = streams_by g.I.Source g.K.Sink in
    let before = at c.args.input.now c.args.out.now in
    let after = at c.trial.new.input c.trial.new.out in
    let task = c.task_of-task.result in
    let says = c.task_of-task.ensures in
    let spares = trying-spares task before after c.trial.result c.trial.ensures.tries in
    record {
      tries = inl (tried (names_of c.args.names) c.args.verbosity (file c.args.files.now) (file c.read_files.new.files) before after c.trial.result
          task c.in-Ok.settings.conf c.in-Ok.settings.access c.in-Ok.ensures says.conf says.access says.verbosity c.trial.ensures.tries c.trial.ensures.bound);
      files = inr (spares.files, ap (λ (files : FilesView). files.faults) c.in-Ok.ensures.kept);
      input = c.trial.ensures.input;
      sink = c.trial.ensures.sink;
      feed = spares.feed;
      disk = spares.disk;
    }
