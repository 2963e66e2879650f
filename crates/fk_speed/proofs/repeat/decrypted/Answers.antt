use Rattle.std.proofs.Common.{◌∙◌, ap, sym}
use Rattle.fk_aes.specs.Cipher.{decipher}
use Rattle.fk_speed.specs.declared.repeat.TheConstants.{KEY}
use Rattle.fk_speed.proofs.Iterates.{iterate-step}
use Rattle.fk_speed.proofs.repeat.decrypted.Goals as goal

pub loop-preserved : goal.loop-preserved
loop-preserved g c =
    sym (iterate-step (decipher KEY) c.args.count c.loop.counter c.loop.block c.decrypt.new.block c.loop-test.true
    (c.decrypt.ensures.block ∙ ap (λ key. decipher key c.loop.block) c.new-key.ensures))
    ∙ c.loop.invariant
