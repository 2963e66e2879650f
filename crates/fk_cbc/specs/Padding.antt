-- The padding up to whole blocks of 16 bytes (RFC 5652, section 6.3).
use Rattle.std.specs.Prelude.{◌≡◌, ℕ, ◌-◌, ◌%◌, ◌≤◌, List, ◌++◌, length, replicate}

-- n bytes of value n
abbrev pub padding : ℕ → List ℕ
padding n = replicate n n

-- a plaintext and its padding: from 1 to 16 bytes, up to a multiple of 16
abbrev pub padded : List ℕ → List ℕ
padded plain = plain ++ padding (16 - length plain % 16)

-- the text ends in n bytes of value n, for some n from 1 to 16
pub record HasPadding (text : List ℕ) : Type 0 where
  pub plain : List ℕ
  pub n : ℕ
  pub least : 1 ≤ n
  pub most : n ≤ 16
  pub text_is : text ≡ plain ++ padding n
