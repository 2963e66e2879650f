use Rattle.std.proofs.Common.{[], ◌∷◌, get_or, refl, rules, ◌∙◌}
use Rattle.fk_aes.specs.Substitution.{inv_sub_byte}
use Rattle.fk_aes.proofs.WordLemmas.{word_of_bytes}
use Rattle.fk_aes.proofs.column.inv_sub_column.Goals as goal

pub returns : goal.returns
returns c =
    word_of_bytes _ _ refl
    (search rules, (search rules, (search rules, (search rules, tt))))
    c.from_be_bytes.ensures
    ∙ (λ i. c.inv_sub_byte.ensures i ∷ c.inv_sub_byte-2.ensures i ∷ c.inv_sub_byte-3.ensures i ∷ c.inv_sub_byte-4.ensures i ∷ [])
    ∙ (λ i. inv_sub_byte (get_or (c.to_be_bytes.ensures i) 0 0) ∷ inv_sub_byte (get_or (c.to_be_bytes-2.ensures i) 1 0)
    ∷ inv_sub_byte (get_or (c.to_be_bytes-3.ensures i) 2 0) ∷ inv_sub_byte (get_or (c.to_be_bytes-4.ensures i) 3 0) ∷ [])
