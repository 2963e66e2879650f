-- The list of pairs that one packet asks for, and its text, as `tcp/22,udp/53`.
use Rattle.std.specs.Prelude.{ℕ, ◌<◌, ◌≤◌, ◌^◌, List, length, map, All}
use Rattle.std.specs.List.{join_with_byte}
use Rattle.fk_base.specs.declared.pair.Pair.{Pair}
use Rattle.fk_base.specs.PairText.{pair_text}

-- 1 to 16 pairs
pub record IsPairs (pairs : List Pair) : Type 0 where
  pub some : 1 ≤ length pairs
  pub few : length pairs ≤ 16
  pub ports : All (λ pair. pair.port < 2 ^ 16) pairs

-- the texts of the pairs, joined by commas; 44 is ','
abbrev pub pairs_text : List Pair → List ℕ
pairs_text pairs = join_with_byte 44 (map pair_text pairs)
