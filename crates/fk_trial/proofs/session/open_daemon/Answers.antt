use Rattle.std.proofs.Common.{sym, ◌∙◌}
use Rattle.fk_trial.proofs.Opening.{opened}
use Rattle.fk_trial.proofs.session.open_daemon.Goals as goal

pub returns-in-Ok-resume : goal.returns-in-Ok-resume
returns-in-Ok-resume c =
    let e = c.in-Ok.ensures in
    opened c.args.conf.now c.in-Ok.ledger c.in-Ok-resume.daemon c.args.host.now c.open.new.disk c.requires
    (record { held = e.held; fresh = e.fresh; keeps = e.keeps; area = e.stands; trace = e.host.trace; disk = e.cause })
    c.no_area_holds_two_ledgers.ensures.ledgers c.in-Ok-resume.ensures.book c.in-Ok-resume.ensures.crew c.in-Ok-resume.ensures.settled
    (sym c.is_short.ensures.short ∙ c.if-is_short.false) c.is_short.ensures.replay
