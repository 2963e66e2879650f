use Rattle.std.proofs.Common.{◌≡◌, take}
use Rattle.fk_subst.specs.Fill.{filled}
use Rattle.fk_subst.proofs.filling.fill.Given as goal

abbrev pub invariant-loop-word : goal.invariant-loop-word
invariant-loop-word l = l.words ≡ filled (take l.word-index l.template) l.grant
