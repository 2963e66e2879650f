use Rattle.std.proofs.Common.{◌++◌, inl, refl, arith}
use Rattle.std.proofs.lemmas.Result.{err_from_is_err_and}
use Rattle.fk_packet.specs.Private.{open_refusal}
use Rattle.fk_packet.specs.Shape.{prefix}
use Rattle.fk_packet.proofs.Answered.{no_bytes, not_the, opens, refused, refused_result, the_memory}
use Rattle.fk_packet.proofs.opening.open_letters.Goals as goal

pub returns-in_default-clause-plain : goal.returns-in_default-clause-plain
returns-in_default-clause-plain g c = inl (refl, (no_bytes c.args.key.now (prefix ++ c.args.letters.now) c.in_default.ensures).0)

pub returns-in_default-clause-steps : goal.returns-in_default-clause-steps
returns-in_default-clause-steps g c =
    let none = (no_bytes c.args.key.now (prefix ++ c.args.letters.now) c.in_default.ensures).1 in
    λ _. omega arith

pub returns-in_err-open-clause-plain : goal.returns-in_err-open-clause-plain
returns-in_err-open-clause-plain g c =
    let p = err_from_is_err_and c.from_residual.result c.from_residual.ensures.1 in
    let clauses = refused_result c.args.key.now c.as_slice.result.now c.in_err-open.field-0.0 c.args.steps.now c.open.new.steps c.open.result
    c.in_err-open.was c.open.ensures.fault c.open.ensures.refused c.open.ensures.no_steps c.open.ensures.padding_steps c.open.ensures.memory_steps in
    let letters = refused c.args.key.now (prefix ++ c.args.letters.now) c.in-Some.sealed c.as_slice.result.now c.in_err-open.field-0.0 c.args.steps.now
    c.open.new.steps c.in-Some.ensures c.as_slice.ensures clauses in
    rw (p.1, p.2) letters.plain

pub returns-in_err-open-clause-steps : goal.returns-in_err-open-clause-steps
returns-in_err-open-clause-steps g c =
    let p = err_from_is_err_and c.from_residual.result c.from_residual.ensures.1 in
    let clauses = refused_result c.args.key.now c.as_slice.result.now c.in_err-open.field-0.0 c.args.steps.now c.open.new.steps c.open.result
    c.in_err-open.was c.open.ensures.fault c.open.ensures.refused c.open.ensures.no_steps c.open.ensures.padding_steps c.open.ensures.memory_steps in
    let letters = refused c.args.key.now (prefix ++ c.args.letters.now) c.in-Some.sealed c.as_slice.result.now c.in_err-open.field-0.0 c.args.steps.now
    c.open.new.steps c.in-Some.ensures c.as_slice.ensures clauses in
    λ never. letters.steps (not_the c.from_residual.result (open_refusal c.in_err-open.field-0.0) p.0 p.1 p.2 never)

pub returns-in_err-open-clause-memory_steps : goal.returns-in_err-open-clause-memory_steps
returns-in_err-open-clause-memory_steps g c =
    let p = err_from_is_err_and c.from_residual.result c.from_residual.ensures.1 in
    let clauses = refused_result c.args.key.now c.as_slice.result.now c.in_err-open.field-0.0 c.args.steps.now c.open.new.steps c.open.result
    c.in_err-open.was c.open.ensures.fault c.open.ensures.refused c.open.ensures.no_steps c.open.ensures.padding_steps c.open.ensures.memory_steps in
    let letters = refused c.args.key.now (prefix ++ c.args.letters.now) c.in-Some.sealed c.as_slice.result.now c.in_err-open.field-0.0 c.args.steps.now
    c.open.new.steps c.in-Some.ensures c.as_slice.ensures clauses in
    λ memory. letters.memory_steps (the_memory c.from_residual.result (open_refusal c.in_err-open.field-0.0) p.0 p.1 p.2 memory)

pub returns-clause-plain : goal.returns-clause-plain
returns-clause-plain g c =
    (opens c.args.key.now (prefix ++ c.args.letters.now) c.in-Some.sealed c.as_slice.result.now c.in_ok-open.field-0 c.args.steps.now c.open.new.steps
    c.in-Some.ensures c.as_slice.ensures c.in_ok-open.ensures.opened c.in_ok-open.ensures.opened_steps).0

pub returns-clause-steps : goal.returns-clause-steps
returns-clause-steps g c = λ _.
    (opens c.args.key.now (prefix ++ c.args.letters.now) c.in-Some.sealed c.as_slice.result.now c.in_ok-open.field-0 c.args.steps.now c.open.new.steps
    c.in-Some.ensures c.as_slice.ensures c.in_ok-open.ensures.opened c.in_ok-open.ensures.opened_steps).1
