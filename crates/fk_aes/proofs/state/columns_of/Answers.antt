use Rattle.std.proofs.Common.{rules}
use Rattle.fk_aes.proofs.WordLemmas.{four_words}
use Rattle.fk_aes.proofs.state.columns_of.Goals as goal

pub returns : goal.returns
returns c = four_words c.args.block.now _ _ _ _ (search rules) c.word_at.ensures c.word_at-2.ensures c.word_at-3.ensures c.word_at-4.ensures
