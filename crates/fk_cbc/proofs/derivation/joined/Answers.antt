use Rattle.std.proofs.Common.{◌∙◌, arith}
use Rattle.fk_cbc.proofs.KeyLemmas.{put_mid-half}
use Rattle.fk_cbc.proofs.derivation.joined.Goals as goal

pub returns : goal.returns
returns c =
    put_mid-half c.copy_from_slice.new.self _ c.copy_from_slice-2.new.self c.copy_from_slice.ensures.len (omega arith) ∙ cc
