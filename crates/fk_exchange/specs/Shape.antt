-- The shape of a datagram, said of its bytes.
use Rattle.std.specs.Prelude.{◌≡◌, ℕ, ◌≤◌, List, ◌++◌, length, All, IsTrue}
use Rattle.fk_text.specs.Found.{is_letter}
use Rattle.fk_packet.specs.Shape.{prefix}

-- 140 to 1500 bytes, each of them one of the 64 letters, and the letters that are left out do not begin it
pub record HasShape (datagram : List ℕ) : Type 0 where
  pub least : 140 ≤ length datagram
  pub most : length datagram ≤ 1500
  pub letters : All (λ byte. IsTrue (is_letter byte)) datagram
  pub unprefixed : (rest : List ℕ) → ¬ (datagram ≡ prefix ++ rest)
