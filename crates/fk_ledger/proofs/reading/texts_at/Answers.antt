use Rattle.fk_ledger.specs.Reading.{texts_at}
use Rattle.fk_ledger.proofs.Texts.{goes_on, stops, is_done}
use Rattle.fk_ledger.proofs.reading.texts_at.Goals as goal

pub loop-preserved : goal.loop-preserved
loop-preserved c = rw c.in_ok-push.ensures.ok (goes_on c.loop.words c.args.count c.loop.counter c.loop.rest.now c.in-Some.word.now c.in-Some.after.now (texts_at c.args.count c.args.bytes.now) c.loop-test.true c.in-Some.ensures c.loop.invariant)

pub returns-in_default : goal.returns-in_default
returns-in_default c = stops c.loop.words c.args.count c.loop.counter c.loop.rest.now (texts_at c.args.count c.args.bytes.now) c.loop-test.true c.in_default.ensures c.loop.invariant

pub returns : goal.returns
returns c = is_done c.loop.words c.args.count c.loop.counter c.loop.rest.now (texts_at c.args.count c.args.bytes.now) c.loop-test.false c.loop.invariant
