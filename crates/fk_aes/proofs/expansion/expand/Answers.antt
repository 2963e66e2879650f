use Rattle.std.proofs.Common.{◌≡◌, ◌+◌, ℕ, arith, rules, ap, sym, ◌∙◌}
use Rattle.std.proofs.lemmas.List.{length-append, take_all, take_at}
use Rattle.fk_aes.specs.KeyExpansion.{first_words, key_expansion}
use Rattle.fk_aes.specs.Words.{bytes_of}
use Rattle.fk_aes.proofs.ScheduleLemmas.{first_words-more}
use Rattle.fk_aes.proofs.expansion.expand.Goals as goal

pub loop-i-init : goal.loop-i-init
unfolding first_words
loop-i-init c = record {
  size = length-append c.copy_from_slice.new.self _ ∙ ap (λ (n : ℕ). n + 52) c.copy_from_slice.ensures.len;
  filled =
      ap bytes_of (take_at c.copy_from_slice.new.self _ 8 c.copy_from_slice.ensures.len ∙ c.copy_from_slice.ensures.after)
      ∙ c.key_words.ensures;
}

pub loop-i-preserved : goal.loop-i-preserved
loop-i-preserved c = record {
  size = search rules;
  filled = first_words-more c.args.key.now c.loop-i.schedule c.loop-i.i _ (omega arith) (omega arith) c.addend.ensures c.loop-i.invariant.filled;
}

pub returns : goal.returns
unfolding key_expansion
returns c =
    let last : c.loop-i.i ≡ 60 = omega (arith, c.loop-i.auto.i-end (omega arith)) in
    ap bytes_of (sym (take_all 60 c.loop-i.schedule (omega arith))) ∙ rw last at c.loop-i.invariant.filled
