use Rattle.std.proofs.Common.{rules}
use Rattle.fk_aes.proofs.WordLemmas.{eight_words}
use Rattle.fk_aes.proofs.expansion.key_words.Goals as goal

pub returns : goal.returns
returns c =
    eight_words c.args.key.now _ _ _ _ _ _ _ _ (search rules) c.word_at.ensures c.word_at-2.ensures c.word_at-3.ensures c.word_at-4.ensures
    c.word_at-5.ensures c.word_at-6.ensures c.word_at-7.ensures c.word_at-8.ensures
