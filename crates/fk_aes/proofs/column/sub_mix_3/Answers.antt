use Rattle.fk_aes.proofs.TableLemmas.{sub_mix_3-entry}
use Rattle.fk_aes.proofs.column.sub_mix_3.Goals as goal

pub returns : goal.returns
returns c = sub_mix_3-entry c.args.byte c.ranges.byte.fits
