use Rattle.fk_aes.proofs.SubstitutionLemmas.{substitution-entry}
use Rattle.fk_aes.proofs.substitution.sub_byte.Goals as goal

pub returns : goal.returns
returns c = substitution-entry c.args.byte c.ranges.byte.fits
