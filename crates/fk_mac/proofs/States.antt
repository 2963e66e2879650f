-- A state that holds a message under one hash, and the hash of that message and more.
use Rattle.std.proofs.Common.{◌≡◌, List, ℕ, sym, ap, ◌∙◌}
use Rattle.fk_base.specs.declared.hash_kind.HashKind.{HashKind}
use Rattle.fk_mac.specs.Hmac.{hash_of}

-- what one hash gives is what the hash of its kind gives
pub code_of : (kind this : HashKind) (out message : List ℕ) → kind ≡ this → out ≡ hash_of this message → out ≡ hash_of kind message
code_of kind this out message same is = is ∙ sym (ap (λ (k : HashKind). hash_of k message) same)
