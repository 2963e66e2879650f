use Rattle.std.proofs.Common.{sym, subst}
use Rattle.fk_child.specs.View.{view_of}
use Rattle.fk_words.specs.declared.command.Command.{Command}
use Rattle.fk_view.proofs.Viewed.{same-host}
use Rattle.fk_tool.specs.Outside.{Outside, outside_by, streams_of}
use Rattle.fk_tool.specs.Running.{Runs}
use Rattle.fk_tool.specs.declared.job.Job.TheVariants.{Decode, Encode}
use Rattle.fk_tool.proofs.Ended.{job-named}
use Rattle.fk_tool.proofs.command.run_command.Goals as goal

pub returns-in-Encode : goal.returns-in-Encode
returns-in-Encode g c =
    let at = outside_by g.F.Files g.N.Entropy g.D.Disk g.I.Source g.K.Sink in
    let before : Outside = at c.args.files.now c.args.entropy.now c.args.disk.now c.args.input.now c.args.out.now in
    let after : Outside = at c.encode_input.new.files c.encode_input.new.entropy c.args.disk.now c.encode_input.new.input c.encode_input.new.out in
    subst (λ (asked : Command). Runs asked before after c.encode_input.result) (sym c.in-Encode.is) (
      same-host (view_of g.D.Disk c.args.disk.now),
      job-named Encode _ _ _ _ before.files after.files (streams_of before) (streams_of after) c.encode_input.result c.as_slice-file.ensures c.as_slice-name.ensures
          c.encode_input.ensures,
    )

pub returns-in-Decode : goal.returns-in-Decode
returns-in-Decode g c =
    let at = outside_by g.F.Files g.N.Entropy g.D.Disk g.I.Source g.K.Sink in
    let before : Outside = at c.args.files.now c.args.entropy.now c.args.disk.now c.args.input.now c.args.out.now in
    let after : Outside = at c.decode_input.new.files c.decode_input.new.entropy c.args.disk.now c.decode_input.new.input c.decode_input.new.out in
    subst (λ (asked : Command). Runs asked before after c.decode_input.result) (sym c.in-Decode.is) (
      same-host (view_of g.D.Disk c.args.disk.now),
      job-named Decode _ _ _ _ before.files after.files (streams_of before) (streams_of after) c.decode_input.result c.as_slice-file-in-Decode.ensures c.as_slice-name-in-Decode.ensures
          c.decode_input.ensures,
    )
