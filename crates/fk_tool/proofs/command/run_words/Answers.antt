use Rattle.std.proofs.Common.{inl, inr, refl, subst}
use Rattle.fk_child.specs.View.{view_of}
use Rattle.fk_words.specs.declared.tool.Tool.TheVariants.{Fko}
use Rattle.fk_log.specs.Printing.{sink_by}
use Rattle.fk_program.specs.Faults.{Fault, Tells}
use Rattle.fk_view.proofs.Viewed.{same-host}
use Rattle.fk_tool.proofs.command.run_words.Goals as goal

pub run_command-requires-clause-own : goal.run_command-requires-clause-own
run_command-requires-clause-own g c = c.words_ask_for_their_program.ensures Fko c.args.words.now c.in-Ok.command c.in-Ok.ensures.command

pub returns-in-Ok : goal.returns-in-Ok
returns-in-Ok g c = inr (record { command = c.in-Ok.command; reads = c.in-Ok.ensures.command; runs = c.run_command.ensures })

pub returns-in-Err : goal.returns-in-Err
returns-in-Err g c =
    let sink = sink_by g.K.Sink in
    inl (record {
      fault = c.in-Err.fault;
      first = c.in-Err.ensures.command;
      only = record { reads = record { files = refl; input = refl }; entropy = refl; disk = same-host (view_of g.D.Disk c.args.disk.now) };
      told = subst (λ (fault : Fault). Tells fault (sink c.args.out.now) (sink c.refuse.new.out) c.refuse.result) c.refusal_of_words.ensures c.refuse.ensures;
    })
