use Rattle.std.proofs.Common.{◌≡◌, ◌==◌, [], ◌∷◌, Some, None, sym, subst, ◌∙◌}
use Rattle.std.specs.List.{find}
use Rattle.fk_trace.specs.declared.change.OpenRecord.{OpenRecord}
use Rattle.fk_trace.specs.Ledger.{live}
use Rattle.fk_log.specs.Line.Line.{ClosedLine}
use Rattle.fk_log.specs.Writing.{Logs, output}
use Rattle.fk_turn.specs.Daemon.{DaemonState}
use Rattle.fk_turn.proofs.daemon.Daemon.tell_close.Goals as goal

pub returns-in-Some : goal.returns-in-Some
returns-in-Some g c = λ closing found.
    let shown = subst (λ (d : DaemonState). find (λ (item : OpenRecord). item.id == c.args.tried.id) (live d.book.changes) ≡ Some closing) (sym c.self.view_is) found in
    let same : Some c.in-Some.item.now ≡ Some closing = c.in-Some.ensures ∙ shown in
    let is : c.in-Some.item.now ≡ closing = cc in
    subst (λ (x : OpenRecord). Logs (ClosedLine c.args.moment c.args.tried.id x.close c.args.tried.begun ∷ [])
    (output c.args.log.now (g.K.Sink.written c.args.out.now) (g.K.Sink.faults c.args.out.now)) (output c.add.new.self (g.K.Sink.written c.add.new.out) (g.K.Sink.faults c.add.new.out))) is c.add.ensures

pub returns-in_default : goal.returns-in_default
returns-in_default g c = λ closing found.
    let shown = subst (λ (d : DaemonState). find (λ (item : OpenRecord). item.id == c.args.tried.id) (live d.book.changes) ≡ Some closing) (sym c.self.view_is) found in
    let same : None ≡ Some closing = c.in_default.ensures ∙ shown in
    absurd cc
