use Rattle.std.proofs.Common.{◌<◌, Option, length, subst, arith}
use Rattle.fk_lines.specs.Lines.{lines_of}
use Rattle.fk_lines.specs.declared.lines.Line.{Line}
use Rattle.fk_values.specs.Stanzas.{stanza_from, stanzas_from, stanzas_in}
use Rattle.fk_access.specs.AccessTable.{source_name}
use Rattle.fk_access.proofs.StanzaSteps.{IsAccessReading, access_goes_on, access_has_front, access_is_wrong}
use Rattle.fk_access.proofs.reading.read_access.Goals as goal

pub returns-in-Err : goal.returns-in-Err
returns-in-Err c =
    let left = c.loop-next.lines.left in
    let before =
    subst (λ (n : Option Line). IsAccessReading (lines_of c.args.text.now) (stanzas_from source_name n left) c.loop-next.access) c.in-Some.is
    c.loop-next.invariant.stanzas in
    let few : length c.loop-next.access < 256 = omega arith in
    access_is_wrong c.args.text.now (stanza_from source_name c.in-Some.source left) (stanzas_in source_name left) c.loop-next.access c.in-Err.err
    c.loop-next.invariant.early before few c.in-Err.ensures.stanza

pub returns-in-Err-push : goal.returns-in-Err-push
returns-in-Err-push c =
    let left = c.loop-next.lines.left in
    let before =
    subst (λ (n : Option Line). IsAccessReading (lines_of c.args.text.now) (stanzas_from source_name n left) c.loop-next.access) c.in-Some.is
    c.loop-next.invariant.stanzas in
    let few : length c.loop-next.access < 256 = omega arith in
    access_has_front c.args.text.now (stanza_from source_name c.in-Some.source left) (stanzas_in source_name left) c.loop-next.access
    c.loop-next.invariant.early before few c.in-Ok.ensures.faultless

pub loop-next-preserved : goal.loop-next-preserved
loop-next-preserved c =
    let left = c.loop-next.lines.left in
    let before =
    subst (λ (n : Option Line). IsAccessReading (lines_of c.args.text.now) (stanzas_from source_name n left) c.loop-next.access) c.in-Some.is
    c.loop-next.invariant.stanzas in
    let few : length c.loop-next.access < 256 = omega arith in
    record {
      early = c.loop-next.invariant.early;
      stanzas = access_goes_on (lines_of c.args.text.now) (stanza_from source_name c.in-Some.source left) (stanzas_in source_name left)
          (stanzas_from source_name c.in-Ok.read.1 c.read_stanza.new.lines.left) c.loop-next.access c.push.new.self c.in-Ok.read.0 before few
          c.in-Ok.ensures.behind c.in-Ok.ensures.stanza c.in-Ok.ensures.faultless c.in-Ok-push.ensures.ok;
      next = c.in-Ok.ensures.next;
    }
