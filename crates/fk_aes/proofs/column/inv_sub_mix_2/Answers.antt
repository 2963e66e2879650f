use Rattle.fk_aes.proofs.TableLemmas.{inv_sub_mix_2-entry}
use Rattle.fk_aes.proofs.column.inv_sub_mix_2.Goals as goal

pub returns : goal.returns
returns c = inv_sub_mix_2-entry c.args.byte c.ranges.byte.fits
