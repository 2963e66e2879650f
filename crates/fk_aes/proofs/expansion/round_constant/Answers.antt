use Rattle.std.proofs.Common.{◌-◌, ℕ, [], ◌∷◌, ap, arith, refl, ◌∙◌}
use Rattle.std.specs.Int.{from_be_bytes, w32}
use Rattle.fk_aes.specs.KeyExpansion.{round_constant}
use Rattle.fk_aes.proofs.ScheduleLemmas.{HasBytes-round_constant, round_constant-entry}
use Rattle.fk_aes.proofs.WordLemmas.{word_of_bytes}
use Rattle.fk_aes.proofs.expansion.round_constant.Goals as goal

pub returns : goal.returns
returns c =
    let bytes = HasBytes-round_constant c.args.j in
    word_of_bytes (round_constant c.args.j) _ refl (bytes.each 0, (bytes.each 1, (bytes.each 2, (bytes.each 3, tt))))
    (c.from_be_bytes.ensures ∙ ap (λ (x : ℕ). from_be_bytes w32 (x ∷ 0 ∷ 0 ∷ 0 ∷ [])) (round_constant-entry (c.args.j - 1) (omega arith)))
