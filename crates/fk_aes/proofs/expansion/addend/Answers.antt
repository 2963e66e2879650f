use Rattle.std.proofs.Common.{◌/◌, List, ℕ, ap, refl, ◌∙◌}
use Rattle.std.proofs.lemmas.Bool.{ne_eqb}
use Rattle.fk_aes.specs.Field.{xor_bytes}
use Rattle.fk_aes.specs.KeyExpansion.{addend, round_constant, sub_word}
use Rattle.fk_aes.proofs.WordLemmas.{word-xor}
use Rattle.fk_aes.proofs.expansion.addend.Goals as goal

pub returns-then-i-eq0 : goal.returns-then-i-eq0
unfolding addend
returns-then-i-eq0 c =
    rw c.if-i-eq0.true
    (word-xor _ _
    ∙ (λ i. xor_bytes (c.sub_word.ensures i) (c.round_constant.ensures i))
    ∙ ap (λ (t : List ℕ). xor_bytes (sub_word t) (round_constant (c.args.i / 8))) c.rot_word.ensures)

pub returns-then-i-eq4 : goal.returns-then-i-eq4
unfolding addend
returns-then-i-eq4 c = rw (ne_eqb _ 0 c.if-i-eq0.false, c.if-i-eq4.true) c.sub_word-then-i-eq4.ensures

pub returns-else-i-eq4 : goal.returns-else-i-eq4
unfolding addend
returns-else-i-eq4 c = rw (ne_eqb _ 0 c.if-i-eq0.false, ne_eqb _ 4 c.if-i-eq4.false) refl
