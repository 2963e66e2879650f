use Rattle.std.proofs.Common.{◌≡◌, ◌∙◌, sym, ap, arith}
use Rattle.fk_aes.specs.Cipher.{cipher, decipher}
use Rattle.fk_aes.specs.Field.{xor_bytes}
use Rattle.fk_aes.proofs.ByteLists.{xor_bytes-twice}
use Rattle.fk_aes.proofs.CipherLaws.{HasBytes-decipher, cipher-decipher}
use Rattle.fk_cbc.proofs.chain.open_block.Goals as goal

pub returns-clause-plain : goal.returns-clause-plain
returns-clause-plain g c =
    let key = c.args.key.now in
    let before = c.args.before.now in
    let block = c.args.block.now in
    let wide = (HasBytes-decipher key block c.requires.key c.requires.block).size in
    let new : c.copy_from_slice-2.new.self ≡ xor_bytes (decipher key block) before = cc in
    let back : xor_bytes c.copy_from_slice-2.new.self before ≡ decipher key block =
    ap (λ r. xor_bytes r before) new ∙ xor_bytes-twice (decipher key block) before (omega arith) in
    sym (cipher-decipher key block c.requires.key c.requires.block) ∙ ap (cipher key) (sym back)
