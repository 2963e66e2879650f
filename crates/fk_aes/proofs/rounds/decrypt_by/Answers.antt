use Rattle.std.proofs.Common.{◌≡◌, ◌-◌, suc, refl, arith, rules}
use Rattle.fk_aes.proofs.EquivalentLaws.{after_equivalent_rounds-suc, after_equivalent_rounds-zero, equivalent_decipher_by-is}
use Rattle.fk_aes.proofs.rounds.decrypt_by.Goals as goal

pub loop-round-init : goal.loop-round-init
loop-round-init c = record {
  low = omega arith;
  size = search rules;
  state = rw (c.add_round_key-columns.ensures, c.columns_of.ensures, after_equivalent_rounds-zero) refl;
}

pub loop-round-preserved : goal.loop-round-preserved
loop-round-preserved c =
    let next : 14 - (c.loop-round.round - 1) ≡ suc (14 - c.loop-round.round) = omega arith in
    let same : 13 - (14 - c.loop-round.round) ≡ c.loop-round.round - 1 = omega arith in
    record {
      low = omega arith;
      size = search rules;
      state = rw (c.add_round_key-columns-in-loop-round.ensures, c.inv_sub_shift_mix.ensures, c.loop-round.invariant.state, next, after_equivalent_rounds-suc, same) refl;
    }

pub returns : goal.returns
returns c =
    let last : c.loop-round.round ≡ 1 = omega arith in
    rw (c.block_of.ensures, c.add_round_key.ensures, c.inv_sub_shift.ensures, c.loop-round.invariant.state, last, equivalent_decipher_by-is) refl
