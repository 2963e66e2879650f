use Rattle.std.proofs.Common.{◌∙◌}
use Rattle.fk_base.specs.declared.hash_kind.HashKind.TheVariants.{Md5, Sha1, Sha256, Sha384, Sha512}
use Rattle.fk_mac.specs.Hmac.{hash_of}
use Rattle.fk_mac.specs.MacKey.{HoldsMessage}
use Rattle.fk_mac.proofs.States.{code_of}
use Rattle.fk_mac.proofs.hash_state.HashState.hash_with.Goals as goal

pub returns-in-OfMd5 : goal.returns-in-OfMd5
unfolding HoldsMessage hash_of
returns-in-OfMd5 c = λ kind message held.
    let h = rw c.in-OfMd5.is at held in
    code_of kind Md5 _ _ h.0 (c.copy_from.ensures ∙ c.md5_with.ensures message h.1)

pub returns-in-OfSha1 : goal.returns-in-OfSha1
unfolding HoldsMessage hash_of
returns-in-OfSha1 c = λ kind message held.
    let h = rw c.in-OfSha1.is at held in
    code_of kind Sha1 _ _ h.0 (c.copy_from-in-OfSha1.ensures ∙ c.sha1_with.ensures message h.1)

pub returns-in-OfSha256 : goal.returns-in-OfSha256
unfolding HoldsMessage hash_of
returns-in-OfSha256 c = λ kind message held.
    let h = rw c.in-OfSha256.is at held in
    code_of kind Sha256 _ _ h.0 (c.copy_from-in-OfSha256.ensures ∙ c.sha256_with.ensures message h.1)

pub returns-in-OfSha384 : goal.returns-in-OfSha384
unfolding HoldsMessage hash_of
returns-in-OfSha384 c = λ kind message held.
    let h = rw c.in-OfSha384.is at held in
    code_of kind Sha384 _ _ h.0 (c.copy_from-in-OfSha384.ensures ∙ c.sha384_with.ensures message h.1)

pub returns-in-OfSha512 : goal.returns-in-OfSha512
unfolding HoldsMessage hash_of
returns-in-OfSha512 c = λ kind message held.
    let h = rw c.in-OfSha512.is at held in
    code_of kind Sha512 _ _ h.0 (c.copy_from-in-OfSha512.ensures ∙ c.sha512_with.ensures message h.1)
