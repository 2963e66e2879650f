use Rattle.std.proofs.Common.{◌≡◌, ℕ, false, sym, ap, ◌∙◌}
use Rattle.std.specs.Option.{option_map}
use Rattle.std.specs.Str.{bytes_eq}
use Rattle.fk_values.specs.Given.{said_by}
use Rattle.fk_values.specs.Stanzas.{before_head}
use Rattle.fk_values.specs.declared.setting_fault.SettingFault.{SettingFault}
use Rattle.fk_values.proofs.SettingsRead.{reading_goes_on, reading_is_refused}
use Rattle.fk_values.proofs.StanzaLines.{before-other, stanzas-other}
use Rattle.fk_conf.specs.ConfWhat.{conf_what}
use Rattle.fk_conf.specs.RcTable.{head_name, rc_rules}
use Rattle.fk_conf.proofs.rc_body.read_body.Goals as goal

pub returns-in-Err-add_line-clause-body : goal.returns-in-Err-add_line-clause-body
returns-in-Err-add_line-clause-body c =
    let line_is = rw c.in-Ok.is at c.in-Some.ensures.line in
    let other : false ≡ bytes_eq head_name c.in-Ok.line.name.now = sym c.if-is_head.false ∙ c.is_head.ensures in
    let before = before-other head_name c.loop-next.lines.left c.next.new.self.left c.in-Ok.line.number (said_by c.in-Ok.line) line_is other in
    let found =
    reading_is_refused rc_rules (before_head head_name c.args.lines.now.left) (before_head head_name c.loop-next.lines.left)
    (before_head head_name c.next.new.self.left) c.in-Ok.line.number (said_by c.in-Ok.line) c.in-Err-add_line.fault c.loop-next.given before
    c.in-Err-add_line.ensures.0 c.loop-next.invariant.body in
    rw c.err_at.ensures (ap (option_map (λ (f : ℕ × SettingFault). (f.0, conf_what f.1))) found)

pub loop-next-preserved : goal.loop-next-preserved
loop-next-preserved c =
    let line_is = rw c.in-Ok.is at c.in-Some.ensures.line in
    let other : false ≡ bytes_eq head_name c.in-Ok.line.name.now = sym c.if-is_head.false ∙ c.is_head.ensures in
    let before = before-other head_name c.loop-next.lines.left c.next.new.self.left c.in-Ok.line.number (said_by c.in-Ok.line) line_is other in
    let adds = c.in_default-add_line.ensures in
    record {
      body = reading_goes_on rc_rules (before_head head_name c.args.lines.now.left) (before_head head_name c.loop-next.lines.left)
          (before_head head_name c.next.new.self.left) c.in-Ok.line.number (said_by c.in-Ok.line) c.loop-next.given c.add_line.new.given before
          adds c.loop-next.invariant.body;
      behind = c.loop-next.invariant.behind
          ∙ stanzas-other head_name c.loop-next.lines.left c.next.new.self.left c.in-Ok.line.number (said_by c.in-Ok.line) line_is other;
    }
