use Rattle.std.proofs.Common.{arith, rules}
use Rattle.fk_aes.proofs.WordLemmas.{add_round_key-words}
use Rattle.fk_aes.proofs.state.add_round_key.Goals as goal

pub returns : goal.returns
returns c = add_round_key-words c.args.columns c.args.schedule.now c.args.round (omega arith) (search rules) (search rules)
