use Rattle.std.proofs.Common.{◌≡◌, ◌+◌, ◌-◌, ◌≤◌, ◌++◌, ◌∙◌, ap, sym, refl, arith, take, length}
use Rattle.std.proofs.lemmas.Slice.{take-put_mid}
use Rattle.fk_log.proofs.Drafts.{Puts-unwritten, Puts-written, Puts-kept}
use Rattle.fk_log.proofs.draft.Draft.put.Goals as goal

pub returns-in_err-finish : goal.returns-in_err-finish
returns-in_err-finish g c =
    Puts-unwritten c.args.piece.now c.from_residual.result _ _ c.from_residual.ensures.0 c.in_err-finish.ensures.part c.in_err-finish.ensures.cause

pub returns-then-piece-self : goal.returns-then-piece-self
returns-then-piece-self g c =
    Puts-written c.args.piece.now c.write_all.result _ _ (g.K.Sink.written c.finish.new.out) (g.K.Sink.faults c.finish.new.out)
    c.in_ok-finish.ensures.empty c.in_ok-finish.ensures.given c.in_ok-finish.ensures.cause
    c.write_all.ensures.given c.write_all.ensures.part c.write_all.ensures.cause

pub returns : goal.returns
returns g c =
    let used = c.self.inside.used in
    let piece = c.args.piece.now in
    let within : used ≤ length c.self.inside.bytes = omega (arith, c.self.invariant) in
    let long : used + length piece ≡ used + length c.copy_from_slice.new.self = ap (λ t. used + length t) (sym c.copy_from_slice.ensures.after) in
    Puts-kept piece _ _
    (take-put_mid used (used + length piece - used) c.self.inside.bytes c.copy_from_slice.new.self (used + length piece) long within
    ∙ ap (λ t. take used c.self.inside.bytes ++ t) c.copy_from_slice.ensures.after ∙ ap (λ t. t ++ piece) c.self.view_is)
    refl refl
