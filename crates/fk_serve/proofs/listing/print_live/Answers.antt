use Rattle.std.proofs.Common.{◌≡◌, Bool, true, false, List, [], ◌∷◌, take, refl, sym, subst}
use Rattle.std.proofs.lemmas.List.{take_all}
use Rattle.fk_log.specs.Line.{Line}
use Rattle.fk_log.specs.Printing.{Prints, sink_by}
use Rattle.fk_log.specs.Writing.{Logs, output}
use Rattle.fk_serve.specs.Listing.{list_text}
use Rattle.fk_serve.specs.Private.{listed_lines}
use Rattle.fk_serve.proofs.Listed.{blank_log, listed_step, printed_all}
use Rattle.fk_serve.proofs.listing.print_live.Goals as goal

pub loop-change-preserved : goal.loop-change-preserved
loop-change-preserved g c =
    let ledger = c.args.changes.now in
    let old = output blank_log (g.K.Sink.written c.args.out.now) (g.K.Sink.faults c.args.out.now) in
    let mid = output c.loop-change.log (g.K.Sink.written c.loop-change.out) (g.K.Sink.faults c.loop-change.out) in
    let new = output c.log_opened.new.log (g.K.Sink.written c.log_opened.new.out) (g.K.Sink.faults c.log_opened.new.out) in
    subst (λ (lines : List Line). Logs lines old new)
    (sym (listed_step ledger c.loop-change.change-index c.change-item.result c.loop-change-test.true c.change-item.is))
    (c.adjoining_lines_log_both.ensures (listed_lines ledger (take c.loop-change.change-index ledger)) (listed_lines ledger (c.change-item.result ∷ [])) old mid new
    c.loop-change.invariant c.log_opened.ensures)

pub returns-then-is_broken : goal.returns-then-is_broken
returns-then-is_broken g c =
    let at = sink_by g.K.Sink in
    let prints = printed_all c.args.changes.now (take c.loop-change.change-index c.args.changes.now) (at c.args.out.now) (at c.loop-change.out) c.loop-change.log
    (take_all c.loop-change.change-index c.args.changes.now c.loop-change-test.false) c.loop-change.invariant in
    let broken : c.loop-change.log.is_broken ≡ true = cc in
    record { is_broken = true; printed = subst (λ (b : Bool). Prints (list_text c.args.changes.now) b (at c.args.out.now) (at c.loop-change.out)) broken prints; answered = refl }

pub returns-else-is_broken : goal.returns-else-is_broken
returns-else-is_broken g c =
    let at = sink_by g.K.Sink in
    let prints = printed_all c.args.changes.now (take c.loop-change.change-index c.args.changes.now) (at c.args.out.now) (at c.loop-change.out) c.loop-change.log
    (take_all c.loop-change.change-index c.args.changes.now c.loop-change-test.false) c.loop-change.invariant in
    let whole : c.loop-change.log.is_broken ≡ false = cc in
    record { is_broken = false; printed = subst (λ (b : Bool). Prints (list_text c.args.changes.now) b (at c.args.out.now) (at c.loop-change.out)) whole prints; answered = refl }
