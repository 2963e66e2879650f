use Rattle.std.proofs.Common.{◌≡◌, length}
use Rattle.fk_values.proofs.SettingsRead.{IsReading}
use Rattle.fk_values.specs.Stanzas.{before_head, stanzas_in}
use Rattle.fk_conf.specs.RcTable.{head_name, rc_rules}
use Rattle.fk_conf.proofs.rc_body.read_body.Given as goal

abbrev pub invariant-loop-next : goal.invariant-loop-next
invariant-loop-next l = record {
  body : IsReading rc_rules (before_head head_name l.fn.lines.left) (before_head head_name l.lines.left) l.given;
  behind : stanzas_in head_name l.fn.lines.left ≡ stanzas_in head_name l.lines.left;
}

abbrev pub decreases-loop-next : goal.decreases-loop-next
decreases-loop-next l = length l.lines.left
