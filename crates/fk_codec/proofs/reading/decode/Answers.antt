use Rattle.std.proofs.Common.{◌≡◌, Ok, inr, refl, sym, ap, ◌∙◌}
use Rattle.std.proofs.lemmas.Result.{err_from_is_err_and}
use Rattle.fk_codec.specs.Private.{found_fields}
use Rattle.fk_codec.specs.DecodeFault.{decoded}
use Rattle.fk_codec.proofs.Law.{decoded_iff}
use Rattle.fk_codec.proofs.PartsRead.{faultless, faulty, only_fields}
use Rattle.fk_codec.proofs.reading.decode.Goals as goal

pub returns-in_err-found-clause-every : goal.returns-in_err-found-clause-every
returns-in_err-found-clause-every c = λ fields spells. absurd (faulty c.args.text.now fields c.in_err-found.field-0.0 c.in_err-found.ensures spells)

pub returns-in_err-copy_found-clause-fault : goal.returns-in_err-copy_found-clause-fault
returns-in_err-copy_found-clause-fault c =
    let p = err_from_is_err_and c.from_residual-in_err-copy_found.result c.from_residual-in_err-copy_found.ensures.1 in
    rw (p.1, p.2) (inr (refl, faultless c.args.text.now (found_fields c.in_ok-found.found) c.in_ok-found.ensures))

pub returns-clause-spelled : goal.returns-clause-spelled
returns-clause-spelled c =
    let found = c.in_ok-found.ensures in
    let copied : decoded c.args.text.now ≡ Ok c.in_ok-copy_found.field-0 = found ∙ ap Ok (sym c.in_ok-copy_found.ensures) in
    (decoded_iff c.args.text.now c.in_ok-copy_found.field-0).0 copied

pub returns-clause-every : goal.returns-clause-every
returns-clause-every c =
    let found = c.in_ok-found.ensures in
    let copied : decoded c.args.text.now ≡ Ok c.in_ok-copy_found.field-0 = found ∙ ap Ok (sym c.in_ok-copy_found.ensures) in
    λ fields spells. only_fields c.args.text.now c.in_ok-copy_found.field-0 fields copied spells

pub returns-clause-fault : goal.returns-clause-fault
returns-clause-fault c = faultless c.args.text.now (found_fields c.in_ok-found.found) c.in_ok-found.ensures
