use Rattle.std.proofs.Common.{get_or, ◌∙◌}
use Rattle.fk_aes.specs.State.{mix_column}
use Rattle.fk_aes.specs.Substitution.{sub_byte}
use Rattle.fk_aes.proofs.TableLemmas.{mixed_column}
use Rattle.fk_aes.proofs.column.sub_mix_column.Goals as goal

pub returns : goal.returns
returns c =
    mixed_column _ _ _ _ _ _ _ _ c.sub_mix_0.ensures c.sub_mix_1.ensures c.sub_mix_2.ensures c.sub_mix_3.ensures
    ∙ (λ i. mix_column (sub_byte (get_or (c.to_be_bytes.ensures i) 0 0)) (sub_byte (get_or (c.to_be_bytes-2.ensures i) 1 0))
    (sub_byte (get_or (c.to_be_bytes-3.ensures i) 2 0)) (sub_byte (get_or (c.to_be_bytes-4.ensures i) 3 0)))
