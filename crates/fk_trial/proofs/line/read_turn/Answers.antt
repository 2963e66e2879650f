use Rattle.fk_base.specs.Address.{ip_text}
use Rattle.fk_trial.proofs.TurnLines.{failed_read, no_turn_uncut, no_turn_cut, no_turn_cut_twice, uncut}
use Rattle.fk_trial.proofs.line.read_turn.Goals as goal

pub returns-in_err-moment-in-None-clause-none : goal.returns-in_err-moment-in-None-clause-none
returns-in_err-moment-in-None-clause-none c = rw c.from_residual.ensures
    (no_turn_uncut c.args.line.now c.in-None.ensures (λ moment fits said.
    failed_read c.read_moment.result c.ok.result moment c.ok.ensures.value c.in_err-moment-in-None.was (c.read_moment.ensures.every moment fits said)))

pub returns-in_err-moment-in-Some-clause-none : goal.returns-in_err-moment-in-Some-clause-none
returns-in_err-moment-in-Some-clause-none c = rw c.from_residual-in_err-moment-in-Some.ensures
    (no_turn_cut c.args.line.now c.in-Some.moment.now c.in-Some.rest.now (record { no_space = c.in-Some.ensures.0; whole = c.in-Some.ensures.1 })
    (λ moment source text fits small visible first behind.
    failed_read c.read_moment-in-Some.result c.ok-in-Some.result moment c.ok-in-Some.ensures.value c.in_err-moment-in-Some.was
    (c.read_moment-in-Some.ensures.every moment fits first)))

pub returns-in_err-source-in-Some-clause-none : goal.returns-in_err-source-in-Some-clause-none
returns-in_err-source-in-Some-clause-none c = rw c.from_residual-in_err-source-in-Some.ensures
    (no_turn_cut c.args.line.now c.in-Some.moment.now c.in-Some.rest.now (record { no_space = c.in-Some.ensures.0; whole = c.in-Some.ensures.1 })
    (λ moment source text fits small visible first behind.
    uncut c.in-Some.rest.now (ip_text source) text c.in_err-source-in-Some.ensures behind))

pub returns-in_err-source-in-Some-2-clause-none : goal.returns-in_err-source-in-Some-2-clause-none
returns-in_err-source-in-Some-2-clause-none c = rw c.from_residual-in_err-source-in-Some-2.ensures
    (no_turn_cut_twice c.args.line.now c.in-Some.moment.now c.in-Some.rest.now c.in_ok-source-in-Some.source.now c.in_ok-source-in-Some.bytes.now
    (record { no_space = c.in-Some.ensures.0; whole = c.in-Some.ensures.1 })
    (record { no_space = c.in_ok-source-in-Some.ensures.0; whole = c.in_ok-source-in-Some.ensures.1 })
    (λ source small visible said.
    failed_read c.read_ip.result c.ok-in-Some-2.result source c.ok-in-Some-2.ensures.value c.in_err-source-in-Some-2.was
    (c.read_ip.ensures.every source small said)))

pub returns-then-not-is_visible_text-clause-none : goal.returns-then-not-is_visible_text-clause-none
returns-then-not-is_visible_text-clause-none c =
    no_turn_cut_twice c.args.line.now c.in-Some.moment.now c.in-Some.rest.now c.in_ok-source-in-Some.source.now c.in_ok-source-in-Some.bytes.now
    (record { no_space = c.in-Some.ensures.0; whole = c.in-Some.ensures.1 })
    (record { no_space = c.in_ok-source-in-Some.ensures.0; whole = c.in_ok-source-in-Some.ensures.1 })
    (λ source small visible said. let shown = c.is_visible_text.ensures.1 visible in let hidden = c.if-not-is_visible_text.true in cc)
