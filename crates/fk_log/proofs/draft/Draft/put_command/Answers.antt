use Rattle.std.proofs.Common.{◌≡◌, ◌+◌, ◌<◌, ◌++◌, ◌∷◌, [], ◌∙◌, Ok, Err, ap, sym, take, drop, append-nil, arith}
use Rattle.fk_log.specs.Line.{words_text}
use Rattle.fk_log.proofs.CommandTexts.{spaced, words_text-front, words_text-others, words_text-next}
use Rattle.fk_log.proofs.Drafts.{Puts-append, Puts-cut, Puts-same}
use Rattle.fk_log.proofs.draft.Draft.put_command.Goals as goal

pub returns-in_err-put : goal.returns-in_err-put
returns-in_err-put g c =
    let words = c.args.words.now in
    Puts-same (c.get.result.now ++ spaced (drop 1 words)) (words_text words) c.from_residual.result _ _
    (sym (words_text-others words c.get.result.now c.get.ensures))
    (Puts-cut c.get.result.now (spaced (drop 1 words)) c.in_err-put.field-0.0 c.from_residual.result _ _ c.from_residual.ensures.0 c.in_err-put.ensures)

pub returns-in_err-put_each : goal.returns-in_err-put_each
returns-in_err-put_each g c =
    let words = c.args.words.now in
    let at = c.loop-at.at in
    let word = c.get-in-loop-at.result.now in
    let some : 0 < at = omega arith in
    let front = words_text (take at words) ++ 32 ∷ (word ++ []) in
    let more : front ≡ words_text (take (at + 1) words) =
    ap (λ t. words_text (take at words) ++ 32 ∷ t) (append-nil word) ∙ sym (words_text-next words at word some c.get-in-loop-at.ensures) in
    let whole : front ++ spaced (drop (at + 1) words) ≡ words_text words =
    ap (λ t. t ++ spaced (drop (at + 1) words)) more ∙ sym (words_text-front words (at + 1) (omega arith)) in
    Puts-same (front ++ spaced (drop (at + 1) words)) (words_text words) c.from_residual-in_err-put_each.result _ _ whole
    (Puts-cut front (spaced (drop (at + 1) words)) c.in_err-put_each.field-0.0 c.from_residual-in_err-put_each.result _ _ c.from_residual-in_err-put_each.ensures.0
    (Puts-append (words_text (take at words)) (32 ∷ (word ++ [])) tt (Err c.in_err-put_each.field-0.0) _ _ _ c.loop-at.invariant c.in_err-put_each.ensures))

pub loop-at-preserved : goal.loop-at-preserved
loop-at-preserved g c =
    let words = c.args.words.now in
    let at = c.loop-at.at in
    let word = c.get-in-loop-at.result.now in
    let some : 0 < at = omega arith in
    let front = words_text (take at words) ++ 32 ∷ (word ++ []) in
    let more : front ≡ words_text (take (at + 1) words) =
    ap (λ t. words_text (take at words) ++ 32 ∷ t) (append-nil word) ∙ sym (words_text-next words at word some c.get-in-loop-at.ensures) in
    Puts-same front (words_text (take (at + 1) words)) (Ok tt) _ _ more
    (Puts-append (words_text (take at words)) (32 ∷ (word ++ [])) tt (Ok tt) _ _ _ c.loop-at.invariant c.in_ok-put_each.ensures)
