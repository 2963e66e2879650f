use Rattle.std.proofs.Common.{get_or, ◌∙◌}
use Rattle.fk_aes.specs.State.{inv_mix_column}
use Rattle.fk_aes.specs.Substitution.{inv_sub_byte}
use Rattle.fk_aes.proofs.SubstitutionLemmas.{inv_sub_byte-sub_byte}
use Rattle.fk_aes.proofs.WordLemmas.{HasBytes-word}
use Rattle.fk_aes.proofs.expansion.inv_mix_word.Goals as goal

pub returns : goal.returns
returns c =
    let e = c.sub_word-word.ensures in
    let bytes = HasBytes-word c.args.word in
    c.inv_sub_mix_column.ensures
    ∙ (λ i. inv_mix_column (inv_sub_byte (get_or (e i) 0 0)) (inv_sub_byte (get_or (e i) 1 0)) (inv_sub_byte (get_or (e i) 2 0)) (inv_sub_byte (get_or (e i) 3 0)))
    ∙ (λ i. inv_mix_column (inv_sub_byte-sub_byte _ (bytes.each 0) i) (inv_sub_byte-sub_byte _ (bytes.each 1) i)
    (inv_sub_byte-sub_byte _ (bytes.each 2) i) (inv_sub_byte-sub_byte _ (bytes.each 3) i))
