use Rattle.std.proofs.Common.{arith}
use Rattle.fk_ledger.proofs.WordLists.{length-record}
use Rattle.fk_ledger.proofs.writing.record_len.Goals as goal

pub returns-clause-len : goal.returns-clause-len
returns-clause-len c =
    let all = length-record c.args.item.now in
    let words = c.words_len.ensures.len in
    let digest = c.digest_len.ensures.len in
    omega arith
