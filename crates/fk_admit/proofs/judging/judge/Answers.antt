use Rattle.std.proofs.Common.{Some, sym, ap, ◌∙◌}
use Rattle.fk_base.specs.declared.grant.Grant.{Grant}
use Rattle.fk_admit.specs.Private.{arrival_of}
use Rattle.fk_admit.proofs.OneStanza.{served_fault, served_fields, served_grant}
use Rattle.fk_admit.proofs.judging.judge.Goals as goal

pub returns-in-Err-clause-fault : goal.returns-in-Err-clause-fault
returns-in-Err-clause-fault g c =
    served_fault c.args.stanza.now (arrival_of c.args.arriving) c.in-Err.fault (sym c.if-not-is_open_at.ensures) c.in-Err.ensures.fields

pub returns-in-Some-clause-fault : goal.returns-in-Some-clause-fault
returns-in-Some-clause-fault g c =
    served_fields c.args.stanza.now (arrival_of c.args.arriving) c.in-Ok.fields (sym c.if-not-is_open_at.ensures) c.in-Ok.ensures.fields ∙ sym c.in-Some.ensures

pub returns-in-None-clause-passed : goal.returns-in-None-clause-passed
returns-in-None-clause-passed g c =
    served_fields c.args.stanza.now (arrival_of c.args.arriving) c.in-Ok.fields (sym c.if-not-is_open_at.ensures) c.in-Ok.ensures.fields ∙ sym c.in-None.ensures

pub returns-in-None-clause-grant : goal.returns-in-None-clause-grant
returns-in-None-clause-grant g c =
    served_grant c.args.number c.args.stanza.now (arrival_of c.args.arriving) c.in-Ok.fields c.in-Ok.ensures.fields
    ∙ ap (λ (grant : Grant). Some grant) (sym c.grant_of.ensures)
