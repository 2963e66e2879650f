use Rattle.std.proofs.Common.{Option, subst, sym}
use Rattle.fk_lines.specs.declared.lines.Line.{Line}
use Rattle.fk_values.specs.Stanzas.{before_head, stanzas_from, stanzas_in}
use Rattle.fk_conf.proofs.RcSteps.{IsRcReading, rc_goes_on}
use Rattle.fk_conf.specs.RcTable.{head_name}
use Rattle.fk_conf.proofs.reading_rc.read_rc.Goals as goal

pub loop-next-preserved : goal.loop-next-preserved
loop-next-preserved c =
    let left = c.loop-next.lines.left in
    let before =
    subst (λ (n : Option Line). IsRcReading c.args.text.now (stanzas_from head_name n left) c.loop-next.file) c.in-Some.is
    c.loop-next.invariant.stanzas in
    record {
      early = c.loop-next.invariant.early;
      stanzas = rc_goes_on c.args.text.now c.in-Some.head (before_head head_name left) (stanzas_in head_name left)
          (stanzas_from head_name c.in-Ok.read.1 c.read_stanza.new.lines.left) c.loop-next.file c.push.new.self c.in-Ok.read.0 before
          (sym c.in_default-name_fault.ensures.fault) c.in-Ok.ensures.faultless c.in-Ok.ensures.behind c.in-Ok.ensures.stanza c.in-Ok-push.ensures.ok;
      next = c.in-Ok.ensures.next;
    }
