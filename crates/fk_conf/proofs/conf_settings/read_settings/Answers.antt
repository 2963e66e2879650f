use Rattle.std.proofs.Common.{ℕ, Some, sym, ap, ◌∙◌}
use Rattle.std.specs.Option.{option_map}
use Rattle.fk_lines.specs.Lines.{lines_of}
use Rattle.fk_values.specs.Given.{said_by}
use Rattle.fk_values.specs.declared.setting_fault.SettingFault.{SettingFault}
use Rattle.fk_values.proofs.SettingsRead.{reading_goes_on, reading_is_refused}
use Rattle.fk_conf.specs.Conf.{conf_rules}
use Rattle.fk_conf.specs.ConfWhat.{conf_what}
use Rattle.fk_conf.proofs.conf_settings.read_settings.Goals as goal

pub returns-in-Err-add_line : goal.returns-in-Err-add_line
returns-in-Err-add_line c =
    let line_is = rw c.in-Ok.is at c.in-Some.ensures.line in
    let number_is = rw c.in-Ok.is at c.in-Some.ensures.number in
    let found =
    reading_is_refused conf_rules (lines_of c.args.text.now) c.loop-next.lines.left c.next.new.self.left c.in-Ok.line.number
    (said_by c.in-Ok.line) c.in-Err-add_line.fault c.loop-next.given line_is c.in-Err-add_line.ensures.0 c.loop-next.invariant in
    rw c.err_at.ensures
    (ap (option_map (λ (f : ℕ × SettingFault). (f.0, conf_what f.1))) found
    ∙ ap (λ (n : ℕ). Some (n, conf_what c.in-Err-add_line.fault)) (number_is ∙ sym c.number.ensures))

pub loop-next-preserved : goal.loop-next-preserved
loop-next-preserved c =
    let line_is = rw c.in-Ok.is at c.in-Some.ensures.line in
    reading_goes_on conf_rules (lines_of c.args.text.now) c.loop-next.lines.left c.next.new.self.left c.in-Ok.line.number
    (said_by c.in-Ok.line) c.loop-next.given c.add_line.new.given line_is c.in_default-add_line.ensures c.loop-next.invariant
