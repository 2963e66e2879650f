use Rattle.fk_aes.proofs.SubstitutionLemmas.{inverse_substitution-entry}
use Rattle.fk_aes.proofs.substitution.inv_sub_byte.Goals as goal

pub returns : goal.returns
returns c = inverse_substitution-entry c.args.byte c.ranges.byte.fits
