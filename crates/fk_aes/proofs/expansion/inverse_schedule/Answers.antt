use Rattle.std.proofs.Common.{◌≡◌, arith, rules}
use Rattle.fk_aes.proofs.ScheduleLemmas.{all_mixed, none_mixed, one_more_mixed}
use Rattle.fk_aes.proofs.expansion.inverse_schedule.Goals as goal

pub loop-i-init : goal.loop-i-init
loop-i-init c = record { size = search rules; mixed = none_mixed c.args.schedule.now }

pub loop-i-preserved : goal.loop-i-preserved
loop-i-preserved c = record {
  size = search rules;
  mixed = one_more_mixed c.args.schedule.now c.loop-i.inverse c.loop-i.i _ (omega arith) (omega arith) c.inv_mix_word.ensures c.loop-i.invariant.mixed;
}

pub returns : goal.returns
returns c =
    let last : c.loop-i.i ≡ 56 = omega (arith, c.loop-i.auto.i-end (omega arith)) in
    all_mixed c.args.schedule.now c.loop-i.inverse (search rules) c.loop-i.invariant.size (rw last at c.loop-i.invariant.mixed)
