use Rattle.std.proofs.Common.{◌≡◌, ℕ, List, [], ap, ◌∙◌, arith}
use Rattle.std.proofs.lemmas.List.{nil_from_length}
use Rattle.fk_journal.specs.Entries.{Content}
use Rattle.fk_ledger.proofs.RecordReads.{done_found}
use Rattle.fk_ledger.proofs.reading.change_in.Goals as goal

abbrev content : ℕ → List ℕ → Content
content kind payload = record { kind = kind; payload = payload }

pub returns-in-Some-default-empty-clause-found : goal.returns-in-Some-default-empty-clause-found
returns-in-Some-default-empty-clause-found c =
    let none : c.in-Some-default-empty.field-0-1.now ≡ [] = nil_from_length c.in-Some-default-empty.field-0-1.now (omega arith) in
    let d = done_found c.args.payload.now c.in-Some-default-empty.id c.in-Some-default-empty.field-0-1.now (λ i. omega (arith, c.type_inv.payload i)) c.in-Some-default-empty.ensures none in
    (d.0, ap (λ k. content k c.args.payload.now) c.in-2.is ∙ ap (content 2) d.1)
