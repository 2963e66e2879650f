-- Cipher block chaining with AES-256 (NIST SP 800-38A, section 6.2). A block is a list of 16 bytes.
use Rattle.std.specs.Prelude.{◌≡◌, ℕ, List, [], ◌∷◌}
use Rattle.std.specs.List.{concat}
use Rattle.fk_base.specs.Bytes.{HasBytes}
use Rattle.fk_aes.specs.Field.{xor_bytes}
use Rattle.fk_aes.specs.Cipher.{cipher}

-- The blocks p1, p2, .. and c1, c2, .. correspond one by one: each ci is the cipher of pi under exclusive or with the c
-- before it, and the first has `before` there.
abbrev pub Chained : (key before : List ℕ) → (ps cs : List (List ℕ)) → Type 0
Chained key before [] [] = Unit {0}
Chained key before [] (c ∷ cs) = ⊥
Chained key before (p ∷ ps) [] = ⊥
Chained key before (p ∷ ps) (c ∷ cs) = HasBytes 16 p × (c ≡ cipher key (xor_bytes p before)) × Chained key c ps cs

-- the text is made of blocks, and the other text of those to which they are chained, with the IV before the first
pub record Encrypts (key vector text encrypted : List ℕ) : Type 0 where
  pub ps : List (List ℕ)
  pub cs : List (List ℕ)
  pub text_is : text ≡ concat ps
  pub encrypted_is : encrypted ≡ concat cs
  pub chained : Chained key vector ps cs
