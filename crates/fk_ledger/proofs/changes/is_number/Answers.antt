use Rattle.std.proofs.Common.{◌≡◌, false, true, sym, ◌∙◌, arith, rules}
use Rattle.fk_ledger.proofs.ChangeLists.{early_number, late_number, not_number}
use Rattle.fk_ledger.proofs.changes.is_number.Goals as goal

pub returns-then-id-first_free : goal.returns-then-id-first_free
returns-then-id-first_free c =
    let low = c.if-id-first_free.true in let below = c.are_below.ensures ∙ sym (c.requires.above c.args.id) in (
      λ yes. early_number c.args.changes.now c.args.id c.first_free.result c.are_below.result below c.if-are_below.true c.first_free.ensures (first_of (omega arith, search rules)),
      λ number. first_of (search rules, omega arith),
    )

pub returns-else-id-first_free : goal.returns-else-id-first_free
returns-else-id-first_free c =
    let high = c.if-id-first_free.false in let below = c.are_below.ensures ∙ sym (c.requires.above c.args.id) in
    late_number c.args.changes.now c.args.id c.first_free.result c.args.outline.now.next c.are_below.result below c.if-are_below.true c.first_free.ensures (first_of (omega arith, search rules)) c.requires.next

pub returns-else-are_below : goal.returns-else-are_below
returns-else-are_below c =
    let below = c.are_below.ensures ∙ sym (c.requires.above c.args.id) in
    (λ yes. absurd (let no : false ≡ true = sym c.if-are_below.false ∙ yes in cc), λ number. not_number c.args.changes.now c.args.id c.are_below.result below number)
