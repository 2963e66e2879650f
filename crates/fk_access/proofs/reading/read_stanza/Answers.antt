use Rattle.fk_access.proofs.StanzaSteps.{lacking_err, lacks_nothing, stanza_is_read}
use Rattle.fk_access.proofs.reading.read_stanza.Goals as goal

pub returns-in-Err-stanza_of-clause-stanza : goal.returns-in-Err-stanza_of-clause-stanza
returns-in-Err-stanza_of-clause-stanza c =
    lacking_err c.args.source c.args.lines.now.left c.in-Ok.read.0 c.in-Err-stanza_of.err c.in-Ok.ensures.body c.in-Err-stanza_of.ensures

pub returns-in-Ok-stanza_of-clause-stanza : goal.returns-in-Ok-stanza_of-clause-stanza
returns-in-Ok-stanza_of-clause-stanza c =
    let is = c.in-Ok-stanza_of.ensures in
    stanza_is_read c.args.source c.args.lines.now.left c.in-Ok.read.0 c.in-Ok-stanza_of.stanza c.in-Ok.ensures.body is.0 is.1 is.2

pub returns-in-Ok-stanza_of-clause-faultless : goal.returns-in-Ok-stanza_of-clause-faultless
returns-in-Ok-stanza_of-clause-faultless c =
    lacks_nothing c.args.source c.args.lines.now.left c.in-Ok.read.0 c.in-Ok.ensures.body c.in-Ok-stanza_of.ensures.3
