use Rattle.std.proofs.Common.{◌≡◌, false, Option, Some, refl, sym, ap, ◌∙◌, subst}
use Rattle.fk_memory.specs.Sink.{SinkState}
use Rattle.fk_log.specs.Printing.{sink_by}
use Rattle.fk_log.specs.Writing.{output}
use Rattle.fk_turn.specs.Rules.{turn_of}
use Rattle.fk_trial.specs.declared.session.Session.{Session}
use Rattle.fk_trial.specs.declared.session.Stop.{Stop}
use Rattle.fk_trial.specs.Lines.{IsTurnLine}
use Rattle.fk_trial.specs.Sessions.{PrintsPage, ServesLine}
use Rattle.fk_trial.proofs.Lines.{printed-line, unprinted-line}
use Rattle.fk_trial.proofs.session.Session.serve_turn.Goals.{in_default-serve-2, in_default-serve}
use Rattle.fk_trial.proofs.session.Session.serve_turn.Goals as goal

pub serve-requires-clause-rests : goal.serve-requires-clause-rests
serve-requires-clause-rests g c = (c.requires.place, c.requires.rests (output c.args.self.now.log (Some c.new-page.result.written) c.new-page.result.faults))

pub returns-in-Ok : goal.returns-in-Ok
returns-in-Ok g c = λ place rests.
    let sink = sink_by g.K.Sink in
    let law = c.unscripted_children_end_well.ensures in
    let old : Session = c.args.self.now in
    let mid : Session = record old { daemon = c.serve.new.self; host = c.serve.new.host; log = c.serve.new.log } in
    let line : IsTurnLine old.reader.line (turn_of c.in-Some.turn) = subst (λ line. IsTurnLine line (turn_of c.in-Some.turn)) c.line.ensures c.in-Some.ensures.turn in
    let told : mid.host.is_short ≡ false = sym c.is_short.ensures.short ∙ c.if-not-is_short.true in
    printed-line (record { starts = law.starts; polls = law.polls; stays = law.stays; turns = law.turns; ends = law.ends }) c.args.policy.now (turn_of c.in-Some.turn) place c.print.result
    old mid c.print.new.self c.new-page.result c.serve.new.out (sink c.args.out.now) (sink c.print.new.out) line
    (c.in-Ok.ensures.serves place (rests (output old.log (Some c.new-page.result.written) c.new-page.result.faults)))
    (ap (λ (page : SinkState). page.written) c.new-page.ensures) told (c.is_short.ensures.replay told) refl
    (subst (λ page. PrintsPage page c.print.result mid c.print.new.self (sink c.args.out.now) (sink c.print.new.out)) c.written.ensures c.print.ensures)

pub returns : goal.returns
returns g c = λ place rests.
    let sink = sink_by g.K.Sink in
    let old : Session = c.args.self.now in
    let mid : Session = record old { daemon = c.serve.new.self; host = c.serve.new.host; log = c.serve.new.log } in
    let line : IsTurnLine old.reader.line (turn_of c.in-Some.turn) = subst (λ line. IsTurnLine line (turn_of c.in-Some.turn)) c.line.ensures c.in-Some.ensures.turn in
    let stops = unprinted-line c.args.policy.now (turn_of c.in-Some.turn) place c.serve.result old mid c.new-page.result c.serve.new.out (sink c.args.out.now) line
    (c.serve.ensures.serves place (rests (output old.log (Some c.new-page.result.written) c.new-page.result.faults))) refl in
    elim c.match-serve.branch [
      | in_default-serve-2 w ↦ subst (λ (how : Option Stop). ServesLine c.args.policy.now how place old mid (sink c.args.out.now) (sink c.args.out.now)) (sym w.result-is) stops
      | in_default-serve w ↦ subst (λ (how : Option Stop). ServesLine c.args.policy.now how place old mid (sink c.args.out.now) (sink c.args.out.now)) (sym w.result-is) stops
    ]
