use Rattle.std.proofs.Common.{length}
use Rattle.fk_lines.specs.Lines.{lines_of}
use Rattle.fk_values.proofs.SettingsRead.{IsReading}
use Rattle.fk_conf.specs.Conf.{conf_rules}
use Rattle.fk_conf.proofs.conf_settings.read_settings.Given as goal

abbrev pub invariant-loop-next : goal.invariant-loop-next
invariant-loop-next l = IsReading conf_rules (lines_of l.text) l.lines.left l.given

abbrev pub decreases-loop-next : goal.decreases-loop-next
decreases-loop-next l = length l.lines.left
