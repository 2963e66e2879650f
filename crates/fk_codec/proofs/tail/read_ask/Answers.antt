use Rattle.std.proofs.Common.{sym}
use Rattle.fk_codec.proofs.PartsRead.{timed_ask}
use Rattle.fk_codec.proofs.tail.read_ask.Goals as goal

pub returns : goal.returns
returns c =
    timed_ask c.args.tail.now.message.now c.args.tail.now.digest.now c.args.tail.now.seconds c.in-Some-seconds.text c.in-Some.ip c.in-Some.pairs
    c.in-Some-find_seconds.seconds c.in-Some-seconds.is (sym c.in-Some.ensures) (sym c.in-Some-find_seconds.ensures.seconds)
