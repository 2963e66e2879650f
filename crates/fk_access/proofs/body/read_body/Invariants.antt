use Rattle.std.proofs.Common.{◌≡◌, length}
use Rattle.fk_values.specs.Stanzas.{before_head, stanza_from, stanzas_in}
use Rattle.fk_access.specs.AccessTable.{source_name}
use Rattle.fk_access.proofs.BodyReading.{IsBodyReading}
use Rattle.fk_access.proofs.body.read_body.Given as goal

abbrev pub invariant-loop-next : goal.invariant-loop-next
invariant-loop-next l = record {
  body : IsBodyReading (stanza_from source_name l.fn.source l.fn.lines.left) (before_head source_name l.lines.left) l.body;
  behind : stanzas_in source_name l.fn.lines.left ≡ stanzas_in source_name l.lines.left;
}

abbrev pub decreases-loop-next : goal.decreases-loop-next
decreases-loop-next l = length l.lines.left
