use Rattle.std.proofs.Common.{◌≡◌, length, rules, take, sym, ap, ◌∙◌}
use Rattle.fk_aes.specs.KeyExpansion.{key_expansion}
use Rattle.fk_aes.proofs.ScheduleLemmas.{take-key_expansion}
use Rattle.fk_aes.proofs.key.Key256.new.Goals as goal

pub invariant_of-result : goal.invariant_of-result
invariant_of-result c =
    let size : length c.args.key ≡ 32 = search rules in
    record {
      expanded = c.expand-schedule.ensures ∙ sym (ap key_expansion (ap (take 32) c.expand-schedule.ensures ∙ take-key_expansion c.args.key size));
      inverse = c.inverse_schedule-inverse.ensures;
    }

pub returns : goal.returns
returns c =
    let size : length c.args.key ≡ 32 = search rules in
    ap (take 32) c.expand-schedule.ensures ∙ take-key_expansion c.args.key size
