use Rattle.std.proofs.Common.{◌≡◌, ◌+◌, ◌-◌, suc, refl, arith, rules}
use Rattle.fk_aes.proofs.CipherLaws.{after_rounds-suc, after_rounds-zero, cipher_by-is}
use Rattle.fk_aes.proofs.rounds.encrypt_by.Goals as goal

pub loop-round-init : goal.loop-round-init
loop-round-init c = record {
  size = search rules;
  state = rw (c.add_round_key-columns.ensures, c.columns_of.ensures, after_rounds-zero) refl;
}

pub loop-round-preserved : goal.loop-round-preserved
loop-round-preserved c =
    let next : c.loop-round.round + 1 - 1 ≡ suc (c.loop-round.round - 1) = omega arith in
    let same : suc (c.loop-round.round - 1) ≡ c.loop-round.round = omega arith in
    record {
      size = search rules;
      state = rw (c.add_round_key-columns-in-loop-round.ensures, c.sub_shift_mix.ensures, c.loop-round.invariant.state, next, after_rounds-suc, same) refl;
    }

pub returns : goal.returns
returns c =
    let last : c.loop-round.round ≡ 14 = omega (arith, c.loop-round.auto.round-end (omega arith)) in
    rw (c.block_of.ensures, c.add_round_key.ensures, c.sub_shift.ensures, c.loop-round.invariant.state, last, cipher_by-is) refl
