use Rattle.fk_aes.proofs.TableLemmas.{inv_sub_mix_3-entry}
use Rattle.fk_aes.proofs.column.inv_sub_mix_3.Goals as goal

pub returns : goal.returns
returns c = inv_sub_mix_3-entry c.args.byte c.ranges.byte.fits
