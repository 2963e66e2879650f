use Rattle.std.proofs.Common.{◌∙◌, sym, ap, arith, Ok}
use Rattle.std.proofs.lemmas.Result.{err_from_is_err_and}
use Rattle.fk_base.specs.declared.address.Ip4.{Ip4}
use Rattle.fk_base.proofs.Addresses.{fault_in_first, fault_in_second, fault_in_third, fault_in_fourth, ip_text-injective, ip_text-from_be_bytes, dotted_from_parts}
use Rattle.fk_base.proofs.address.read_ip.Goals as goal

pub returns-in_err-first-clause-place : goal.returns-in_err-first-clause-place
returns-in_err-first-clause-place c =
    let p = err_from_is_err_and c.from_residual.result c.from_residual.ensures.1 in
    rw (p.1, p.2) (fault_in_first _ _ c.in_err-first.ensures.err).front

pub returns-in_err-first-clause-every : goal.returns-in_err-first-clause-every
returns-in_err-first-clause-every c = λ ip small is. absurd ((fault_in_first _ _ c.in_err-first.ensures.err).wrong (ip, small, is))

pub returns-in_err-second-clause-place : goal.returns-in_err-second-clause-place
returns-in_err-second-clause-place c =
    let p = err_from_is_err_and c.from_residual-in_err-second.result c.from_residual-in_err-second.ensures.1 in
    let first = c.in_ok-first.ensures.ok in
    rw (p.1, p.2) (fault_in_second _ _ _ _ first.0 first.1 c.in_err-second.ensures.err).front

pub returns-in_err-second-clause-every : goal.returns-in_err-second-clause-every
returns-in_err-second-clause-every c = λ ip small is.
    let first = c.in_ok-first.ensures.ok in
    absurd ((fault_in_second _ _ _ _ first.0 first.1 c.in_err-second.ensures.err).wrong (ip, small, is))

pub returns-in_err-third-clause-place : goal.returns-in_err-third-clause-place
returns-in_err-third-clause-place c =
    let p = err_from_is_err_and c.from_residual-in_err-third.result c.from_residual-in_err-third.ensures.1 in
    let first = c.in_ok-first.ensures.ok in
    let second = c.in_ok-second.ensures.ok in
    rw (p.1, p.2) (fault_in_third _ _ _ _ _ _ first.0 first.1 second.0 second.1 c.in_err-third.ensures.err).front

pub returns-in_err-third-clause-every : goal.returns-in_err-third-clause-every
returns-in_err-third-clause-every c = λ ip small is.
    let first = c.in_ok-first.ensures.ok in
    let second = c.in_ok-second.ensures.ok in
    absurd ((fault_in_third _ _ _ _ _ _ first.0 first.1 second.0 second.1 c.in_err-third.ensures.err).wrong (ip, small, is))

pub returns-in_err-fourth-clause-place : goal.returns-in_err-fourth-clause-place
returns-in_err-fourth-clause-place c =
    let p = err_from_is_err_and c.from_residual-in_err-fourth.result c.from_residual-in_err-fourth.ensures.1 in
    let first = c.in_ok-first.ensures.ok in
    let second = c.in_ok-second.ensures.ok in
    let third = c.in_ok-third.ensures.ok in
    rw (p.1, p.2)
    (fault_in_fourth _ _ _ _ _ _ _ _ first.0 first.1 second.0 second.1 third.0 third.1 c.in_err-fourth.ensures.err).front

pub returns-in_err-fourth-clause-every : goal.returns-in_err-fourth-clause-every
returns-in_err-fourth-clause-every c = λ ip small is.
    let first = c.in_ok-first.ensures.ok in
    let second = c.in_ok-second.ensures.ok in
    let third = c.in_ok-third.ensures.ok in
    absurd ((fault_in_fourth _ _ _ _ _ _ _ _ first.0 first.1 second.0 second.1 third.0 third.1 c.in_err-fourth.ensures.err).wrong (ip, small, is))

pub returns-clause-every : goal.returns-clause-every
returns-clause-every c = λ ip small is.
    let first = c.in_ok-first.ensures.ok in
    let second = c.in_ok-second.ensures.ok in
    let third = c.in_ok-third.ensures.ok in
    let fourth = c.in_ok-fourth.ensures.ok in
    let high = fourth.1 in
    let whole = dotted_from_parts _ _ _ _ _ _ _ _ first.1 second.1 third.1 fourth.2 in
    let own = ip_text-from_be_bytes c.in_ok-first.first c.in_ok-second.second c.in_ok-third.third c.in_ok-fourth.field-0
    first.0 second.0 third.0 (omega arith) c.from_be_bytes.result c.from_be_bytes.ensures in
    ap (λ (x : Ip4). Ok x) (ip_text-injective (record { 0 = c.from_be_bytes.result }) ip own.0 small (sym own.1 ∙ sym whole ∙ is))
