use Rattle.std.proofs.Common.{length, sym, ◌∙◌}
use Rattle.fk_access.specs.Private.{given_in_body}
use Rattle.fk_access.proofs.StanzaSteps.{last_lacking, rest_lacking}
use Rattle.fk_access.proofs.stanza_lacks.lacks_first.Goals as goal

pub returns-in-Some : goal.returns-in-Some
returns-in-Some c =
    sym (last_lacking (length c.args.body.now.ended) (given_in_body c.args.body.now) c.in-Some.what (sym c.last_lacks.ensures ∙ c.in-Some.is))

pub returns-in-None : goal.returns-in-None
returns-in-None c =
    c.rest_lacks.ensures ∙ sym (rest_lacking (length c.args.body.now.ended) (given_in_body c.args.body.now) (sym c.last_lacks.ensures ∙ c.in-None.is))
