-- The words of a command that is started, and that a record keeps.
use Rattle.std.specs.Prelude.{◌≢◌, ℕ, ◌≤◌, List, [], length, All}
use Rattle.std.specs.List.{AllPass, concat}
use Rattle.fk_base.specs.Characters.{is_word_byte}

-- 1 to 32 words, none of them empty, of 12000 bytes together and each byte from 0x21 to 0x7e
pub record AreCommandWords (words : List (List ℕ)) : Type 0 where
  pub some : 1 ≤ length words
  pub few : length words ≤ 32
  pub filled : All (λ word. word ≢ []) words
  pub short : length (concat words) ≤ 12000
  pub bytes : All (AllPass is_word_byte) words
