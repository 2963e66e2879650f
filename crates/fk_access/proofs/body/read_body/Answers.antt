use Rattle.std.proofs.Common.{◌≡◌, false, [], refl, sym, ◌∙◌}
use Rattle.std.specs.Str.{bytes_eq}
use Rattle.fk_values.specs.Given.{said_by}
use Rattle.fk_values.specs.Stanzas.{before_head, stanza_from}
use Rattle.fk_access.specs.AccessTable.{source_name}
use Rattle.fk_values.proofs.StanzaLines.{before-other, stanzas-other}
use Rattle.fk_access.proofs.BodyReading.{body_goes_on, body_is_refused, first_goes_on, first_is_refused}
use Rattle.fk_access.proofs.body.read_body.Goals as goal

pub returns-in-Err-clause-body : goal.returns-in-Err-clause-body
returns-in-Err-clause-body c =
    let stanza = stanza_from source_name c.args.source c.args.lines.now.left in
    first_is_refused stanza (before_head source_name c.args.lines.now.left) c.args.source.number (said_by c.args.source) c.in-Err.what refl
    (c.in-Err.ensures [] c.empty_body-body.ensures)

pub loop-next-init : goal.loop-next-init
loop-next-init c =
    let stanza = stanza_from source_name c.args.source c.args.lines.now.left in
    let kept = c.empty_body-body.ensures in
    record {
      body = first_goes_on stanza (before_head source_name c.args.lines.now.left) c.args.source.number (said_by c.args.source)
          c.empty_body-body.result c.add_line.new.body refl kept (c.in_default.ensures [] kept);
      behind = refl;
    }

pub returns-in-Err-add_line-clause-body : goal.returns-in-Err-add_line-clause-body
returns-in-Err-add_line-clause-body c =
    let line_is = rw c.in-Ok.is at c.in-Some.ensures.line in
    let other : false ≡ bytes_eq source_name c.in-Ok.line.name.now = sym c.if-is_source.false ∙ c.is_source.ensures in
    let before = before-other source_name c.loop-next.lines.left c.next.new.self.left c.in-Ok.line.number (said_by c.in-Ok.line) line_is other in
    let read = c.loop-next.invariant.body in
    body_is_refused (stanza_from source_name c.args.source c.args.lines.now.left) (before_head source_name c.loop-next.lines.left)
    (before_head source_name c.next.new.self.left) c.in-Ok.line.number (said_by c.in-Ok.line) c.in-Err-add_line.what c.loop-next.body before read
    (c.in-Err-add_line.ensures read.before read.kept)

pub loop-next-preserved : goal.loop-next-preserved
loop-next-preserved c =
    let line_is = rw c.in-Ok.is at c.in-Some.ensures.line in
    let other : false ≡ bytes_eq source_name c.in-Ok.line.name.now = sym c.if-is_source.false ∙ c.is_source.ensures in
    let before = before-other source_name c.loop-next.lines.left c.next.new.self.left c.in-Ok.line.number (said_by c.in-Ok.line) line_is other in
    let read = c.loop-next.invariant.body in
    record {
      body = body_goes_on (stanza_from source_name c.args.source c.args.lines.now.left) (before_head source_name c.loop-next.lines.left)
          (before_head source_name c.next.new.self.left) c.in-Ok.line.number (said_by c.in-Ok.line) c.loop-next.body c.add_line-in-Ok.new.body before read
          (c.in_default-add_line.ensures read.before read.kept);
      behind = c.loop-next.invariant.behind
          ∙ stanzas-other source_name c.loop-next.lines.left c.next.new.self.left c.in-Ok.line.number (said_by c.in-Ok.line) line_is other;
    }
