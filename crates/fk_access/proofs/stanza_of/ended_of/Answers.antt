use Rattle.fk_access.specs.PairGiven.{pair_given}
use Rattle.fk_access.proofs.RingSteps.{timed_goes_on}
use Rattle.fk_access.proofs.stanza_of.ended_of.Goals as goal

pub loop-at-preserved : goal.loop-at-preserved
loop-at-preserved c = record {
  each = timed_goes_on c.args.body.now.ended c.loop-at.at (pair_given c.get-lines.result) c.loop-at.pairs.items c.push.new.self.items
      c.in_ok-timed_of.field-0 c.get-lines.ensures c.in_ok-timed_of.ensures c.in_ok-push.ensures.items c.loop-at.invariant.each;
}
