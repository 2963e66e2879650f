use Rattle.fk_log.proofs.Lines.{listed_pieces}
use Rattle.fk_log.proofs.line.listed.Goals as goal

pub returns : goal.returns
returns c = rw c.get.ensures.value (listed_pieces c.args.item.now)
