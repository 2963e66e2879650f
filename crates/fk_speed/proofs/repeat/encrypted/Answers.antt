use Rattle.std.proofs.Common.{◌∙◌, ap, sym}
use Rattle.fk_aes.specs.Cipher.{cipher}
use Rattle.fk_speed.specs.declared.repeat.TheConstants.{KEY}
use Rattle.fk_speed.proofs.Iterates.{iterate-step}
use Rattle.fk_speed.proofs.repeat.encrypted.Goals as goal

pub loop-preserved : goal.loop-preserved
loop-preserved c =
    sym (iterate-step (cipher KEY) c.args.count c.loop.counter c.loop.block c.encrypt.new.block c.loop-test.true
    (c.encrypt.ensures ∙ ap (λ key. cipher key c.loop.block) c.new-key.ensures))
    ∙ c.loop.invariant
