use Rattle.fk_child.specs.View.{view_of}
use Rattle.fk_daemon.proofs.Resuming.{Opened, resumed, opened_in_vain}
use Rattle.fk_daemon.proofs.opening.open_daemon.Goals as goal

pub returns-in-Ok-clause-ok : goal.returns-in-Ok-clause-ok
returns-in-Ok-clause-ok g c =
    let view = view_of g.H.Disk in
    let e = c.in_ok-ledger.ensures in
    let opened : Opened c.args.conf.now c.in_ok-ledger.ledger (view c.args.host.now) (view c.open.new.disk) =
    record { held = e.held; fresh = e.fresh; keeps = e.keeps; area = e.stands; moments = e.moments; trace = e.host.trace; kept = e.kept; entries = e.entries; others = e.others; disk = e.cause } in
    resumed c.args.conf.now c.in_ok-ledger.ledger c.in-Ok.daemon (view c.args.host.now) (view c.open.new.disk) opened c.in-Ok.ensures.book c.in-Ok.ensures.crew c.in-Ok.ensures.settled

pub returns-in-Err-clause-vain : goal.returns-in-Err-clause-vain
returns-in-Err-clause-vain g c =
    let view = view_of g.H.Disk in
    let e = c.in_ok-ledger.ensures in
    let opened : Opened c.args.conf.now c.in_ok-ledger.ledger (view c.args.host.now) (view c.open.new.disk) =
    record { held = e.held; fresh = e.fresh; keeps = e.keeps; area = e.stands; moments = e.moments; trace = e.host.trace; kept = e.kept; entries = e.entries; others = e.others; disk = e.cause } in
    opened_in_vain c.args.conf.now c.in_ok-ledger.ledger (view c.args.host.now) (view c.open.new.disk) opened
