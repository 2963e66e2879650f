use Rattle.std.proofs.Common.{◌≡◌, drop}
use Rattle.fk_words.specs.WordPlaces.{words_behind}
use Rattle.fk_words.proofs.word_places.place_behind.Given as goal

abbrev pub invariant-loop-at : goal.invariant-loop-at
invariant-loop-at l = words_behind l.text l.words ≡ words_behind l.text (drop l.at l.words)
