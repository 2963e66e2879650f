use Rattle.std.proofs.Common.{ℕ, List, ap, refl, ◌∙◌}
use Rattle.std.specs.Int.{from_be_bytes, to_be_bytes, w32}
use Rattle.fk_aes.specs.KeyExpansion.{rot_word}
use Rattle.fk_aes.proofs.WordLemmas.{HasBytes-word, word_of_bytes}
use Rattle.fk_aes.proofs.expansion.rot_word.Goals as goal

pub returns : goal.returns
returns c =
    let bytes = HasBytes-word c.args.word in
    word_of_bytes (rot_word (to_be_bytes w32 c.args.word)) _ refl (bytes.each 1, (bytes.each 2, (bytes.each 3, (bytes.each 0, tt))))
    (c.from_be_bytes.ensures ∙ ap (λ (r : List ℕ). from_be_bytes w32 (rot_word r)) c.to_be_bytes.ensures)
