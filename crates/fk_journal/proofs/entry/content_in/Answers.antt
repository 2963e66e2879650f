use Rattle.std.proofs.Common.{◌≡◌, ℕ, ◌<◌, ◌≤◌, List, ◌∷◌, length, take, drop, get_or, ap, ◌∙◌, sym, arith, rules}
use Rattle.std.specs.Int.{w32, from_be_bytes}
use Rattle.std.proofs.lemmas.List.{length-take-le}
use Rattle.fk_journal.proofs.Contents.{found}
use Rattle.fk_journal.proofs.entry.content_in.Goals as goal

pub returns-clause-found : goal.returns-clause-found
returns-clause-found c =
    let bytes : List ℕ = c.args.bytes.now in
    let rest : List ℕ = c.in_ok-kind.rest.now in
    let kind : ℕ = c.in_ok-kind.kind.now in
    let size : ℕ = c.from_be_bytes-size.result in
    let long : 4 ≤ length bytes = first_of (omega arith, search rules) in
    let rest_is : drop 4 bytes ≡ kind ∷ rest = sym c.in_ok-size.ensures.cases.1 ∙ c.in_ok-kind.ensures.cases.0 in
    let size_is : size ≡ from_be_bytes w32 (take 4 bytes) = c.from_be_bytes-size.ensures ∙ ap (from_be_bytes w32) c.in_ok-size.ensures.cases.0 in
    let within : size < length rest = first_of (omega arith, search rules) in
    let kinds : (1 ≤ kind) × (kind ≤ 4) = (first_of (omega arith, search rules), first_of (omega arith, search rules)) in
    let small : (i : ℕ) → get_or bytes i 0 < 256 = λ i. omega (arith, c.type_inv.bytes i) in
    let payload_size : length (take size rest) ≡ size = length-take-le size rest (omega (arith, within)) in
    let r = found bytes rest kind size long small rest_is size_is within in
    (r.0, r.1, record { kind = kinds; size = first_of (omega (arith, payload_size), search rules) }, r.2)
