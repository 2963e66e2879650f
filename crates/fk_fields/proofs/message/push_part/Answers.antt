use Rattle.fk_fields.proofs.message.push_part.Goals as goal

pub returns-in-Ok-clause-ok : goal.returns-in-Ok-clause-ok
returns-in-Ok-clause-ok c = (c.in-Some.pair, c.in-Some.ensures, c.in-Ok.ensures.ok)
