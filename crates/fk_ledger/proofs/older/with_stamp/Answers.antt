use Rattle.std.proofs.Common.{rules}
use Rattle.fk_ledger.proofs.OlderLaws.{stamp_put}
use Rattle.fk_ledger.proofs.older.with_stamp.Goals as goal

pub returns : goal.returns
returns c = stamp_put c.args.at c.args.out c.args.payload.now c.extend_from_slice-2.new.self.items (search rules) (search rules)
