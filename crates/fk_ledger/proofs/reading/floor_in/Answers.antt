use Rattle.std.proofs.Common.{◌≡◌, List, [], ℕ, ap, arith, rules, inl, inr}
use Rattle.std.proofs.lemmas.List.{nil_from_length}
use Rattle.fk_journal.specs.Entries.{Content}
use Rattle.fk_ledger.proofs.RecordReads.{floor_found, floor_same, floor_unread}
use Rattle.fk_ledger.proofs.reading.floor_in.Goals as goal

abbrev content : List ℕ → Content
content payload = record { kind = 4; payload = payload }

pub returns-in_err-floor-clause-none : goal.returns-in_err-floor-clause-none
returns-in_err-floor-clause-none c = λ none floor next is same. floor_unread c.args.payload.now floor next c.in_err-floor.ensures is same

pub returns-in_default-clause-none : goal.returns-in_default-clause-none
returns-in_default-clause-none c = λ none floor next is same.
    let r = floor_same c.args.payload.now c.in_ok-floor.field-0.0 c.in_ok-floor.field-0.1 c.in_ok-floor.field-0.2.now floor next c.in_ok-floor.ensures is same in
    omega (arith, r.1, c.in_default.len_at_least)

pub returns-then-next-lt1-clause-none : goal.returns-then-next-lt1-clause-none
returns-then-next-lt1-clause-none c = λ none floor next is same.
    let r = floor_same c.args.payload.now c.in_ok-floor.field-0.0 c.in_ok-floor.field-0.1 c.in_ok-floor.field-0.2.now floor next c.in_ok-floor.ensures is same in
    elim c.then-next-lt1.either [
      | inl low ↦ omega (arith, r.0, low, is.1)
      | inr high ↦ omega (arith, r.0, high.1, is.2)
    ]

pub returns-clause-found : goal.returns-clause-found
returns-clause-found c =
    let rest : List ℕ = c.in_ok-floor.field-0.2.now in
    let none : rest ≡ [] = nil_from_length rest (first_of (omega arith, search rules)) in
    let f = floor_found c.args.payload.now c.in_ok-floor.field-0.0 c.in_ok-floor.field-0.1 rest (λ i. omega (arith, c.type_inv.payload i)) c.in_ok-floor.ensures none in
    ((f.0, first_of (omega arith, search rules), first_of (omega arith, search rules)), ap content f.1)
