use Rattle.std.proofs.Common.{refl, subst, inl, inr}
use Rattle.fk_log.specs.Printing.{sink_by}
use Rattle.fk_child.specs.View.{view_of}
use Rattle.fk_program.specs.Faults.{Fault, Tells}
use Rattle.fk_serve.specs.Running.{RefusesWords, RunsWords}
use Rattle.fk_serve.specs.World.{world_by}
use Rattle.fk_view.proofs.Viewed.{same-host}
use Rattle.fk_serve.proofs.Counting.{words-counts}
use Rattle.fk_serve.proofs.Complete.{run-ends-well}
use Rattle.fk_serve.proofs.running.fwknopd_run.Goals as goal

pub run_command-requires : goal.run_command-requires
run_command-requires g c = c.daemon_words_ask_for_one_command.ensures.own c.args.words.now c.in-Ok.command c.in-Ok.ensures.command

pub returns-in-Ok : goal.returns-in-Ok
returns-in-Ok g c =
    let at = world_by g.F.Files g.E.Feed g.H.Disk g.I.Source g.K.Sink in
    let before = at c.args.files.now c.args.feed.now c.args.host.now c.args.input.now c.args.out.now in
    let after = at c.run_command.new.files c.run_command.new.feed c.run_command.new.host c.run_command.new.input c.run_command.new.out in
    let runs : RunsWords c.args.words.now before after c.run_command.result =
    inl (record { command = c.in-Ok.command; reads = c.in-Ok.ensures.command; runs = c.run_command.ensures.runs }) in
    record {
      runs = runs;
      counts = c.run_command.ensures.counts;
      complete = λ meets. run-ends-well c.args.words.now before after c.run_command.result runs c.run_command.ensures.counts c.no_area_holds_two_ledgers.ensures.damaged c.daemon_words_ask_for_one_command.ensures.one meets;
    }

pub returns-in-Err : goal.returns-in-Err
returns-in-Err g c =
    let at = world_by g.F.Files g.E.Feed g.H.Disk g.I.Source g.K.Sink in
    let before = at c.args.files.now c.args.feed.now c.args.host.now c.args.input.now c.args.out.now in
    let after = at c.args.files.now c.args.feed.now c.args.host.now c.args.input.now c.refuse.new.out in
    let view = view_of g.H.Disk in
    let sink = sink_by g.K.Sink in
    let refuses : RefusesWords c.args.words.now before after c.refuse.result =
    record {
      fault = c.in-Err.fault;
      why = c.in-Err.ensures.command;
      files = refl;
      rest = record { feed = refl; host = same-host (view c.args.host.now); input = refl };
      tells = subst (λ (fault : Fault). Tells fault (sink c.args.out.now) (sink c.refuse.new.out) c.refuse.result) c.refusal_of_words.ensures c.refuse.ensures;
    } in
    let runs : RunsWords c.args.words.now before after c.refuse.result = inr refuses in
    let counts = words-counts c.args.words.now before after c.refuse.result refuses in
    record {
      runs = runs;
      counts = counts;
      complete = λ meets. run-ends-well c.args.words.now before after c.refuse.result runs counts c.no_area_holds_two_ledgers.ensures.damaged c.daemon_words_ask_for_one_command.ensures.one meets;
    }
