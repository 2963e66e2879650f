use Rattle.std.proofs.Common.{◌≡◌, ◌≤◌, List, ℕ, length, take, drop, ap, sym, ◌∙◌, arith, rules}
use Rattle.std.proofs.lemmas.List.{length-drop, take_all}
use Rattle.fk_journal.specs.Entries.{Content}
use Rattle.fk_ledger.proofs.RecordReads.{settled_found, settled_same, settled_unread}
use Rattle.fk_ledger.proofs.reading.settled_in.Goals as goal

abbrev content : List ℕ → Content
content payload = record { kind = 3; payload = payload }

pub returns-in_err-id-clause-none : goal.returns-in_err-id-clause-none
returns-in_err-id-clause-none c = λ none id stamp digest is same. settled_unread c.args.payload.now id stamp digest c.in_err-id.ensures is same

pub returns-in_err-digest-clause-none : goal.returns-in_err-digest-clause-none
returns-in_err-digest-clause-none c = λ none id stamp digest is same.
    let r = settled_same c.args.payload.now c.in_ok-id.id c.in_ok-id.stamp c.in_ok-id.rest.now id stamp digest c.in_ok-id.ensures is same in
    omega (arith, r.1, c.in_err-digest.ensures.cases)

pub returns-in_default-clause-none : goal.returns-in_default-clause-none
returns-in_default-clause-none c = λ none id stamp digest is same.
    let r = settled_same c.args.payload.now c.in_ok-id.id c.in_ok-id.stamp c.in_ok-id.rest.now id stamp digest c.in_ok-id.ensures is same in
    let rest = c.in_ok-digest.ensures.cases.1 in
    omega (arith, r.1, c.in_default.len_at_least, ap length rest, length-drop 32 c.in_ok-id.rest.now)

pub returns-then-stamp-gt-GREATEST_STAMP-clause-none : goal.returns-then-stamp-gt-GREATEST_STAMP-clause-none
returns-then-stamp-gt-GREATEST_STAMP-clause-none c = λ none id stamp digest is same.
    let r = settled_same c.args.payload.now c.in_ok-id.id c.in_ok-id.stamp c.in_ok-id.rest.now id stamp digest c.in_ok-id.ensures is same in
    omega (arith, r.0, is.1)

pub returns-clause-found : goal.returns-clause-found
returns-clause-found c =
    let rest : List ℕ = c.in_ok-id.rest.now in
    let digest : List ℕ = c.in_ok-digest.field-0.0.now in
    let front : digest ≡ take 32 rest = c.in_ok-digest.ensures.cases.0 in
    let behind : c.in_ok-digest.field-0.1.now ≡ drop 32 rest = c.in_ok-digest.ensures.cases.1 in
    let none : length (drop 32 rest) ≡ 0 = (let same = ap length behind in omega (arith, c.in_default-empty.len_below)) in
    let long : 32 ≤ length rest = first_of (omega arith, search rules) in
    let size : length rest ≡ 32 = omega (arith, none, long, length-drop 32 rest) in
    let whole : rest ≡ digest = sym (take_all 32 rest (omega (arith, size))) ∙ sym front in
    let f = settled_found c.args.payload.now c.in_ok-id.id c.in_ok-id.stamp rest digest (λ i. omega (arith, c.type_inv.payload i)) c.in_ok-id.ensures whole (ap length (sym whole) ∙ size) in
    ((f.0, first_of (omega arith, search rules), f.1), ap content f.2)
