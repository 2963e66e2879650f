use Rattle.std.proofs.Common.{◌≡◌, ◌+◌, ℕ, Some, sym, ap, ◌∙◌, Ok, arith, take, refl, drop}
use Rattle.std.specs.Fmt.{decimal}
use Rattle.std.proofs.lemmas.Fmt.{decimal_injective}
use Rattle.std.proofs.lemmas.Result.{err_from_is_err_and}
use Rattle.fk_base.specs.declared.address.Ip4.{Ip4}
use Rattle.fk_base.specs.declared.net.Net4.{Net4}
use Rattle.fk_base.specs.Address.{ip_text}
use Rattle.fk_base.specs.Net.{cleared}
use Rattle.fk_base.proofs.Addresses.{ip_text-injective}
use Rattle.fk_base.proofs.NetTexts.{Net4-same, longest_before_slash, longest_in_bits, net_behind}
use Rattle.fk_base.proofs.net_text.read_slashed.Goals as goal

pub returns-in_err-ip-clause-every : goal.returns-in_err-ip-clause-every
returns-in_err-ip-clause-every c = λ net s.
    let both = net_behind c.args.text.now c.args.slash net c.requires s in
    let no = c.in_err-ip.ensures.every s.ip s.address both.0 in
    cc

pub returns-in_err-ip-clause-place : goal.returns-in_err-ip-clause-place
returns-in_err-ip-clause-place c =
    let p = err_from_is_err_and c.from_residual.result c.from_residual.ensures.1 in
    rw (p.1, p.2) (longest_before_slash _ _ _ c.requires (λ is. let no = c.in_err-ip.ensures.every is.0 is.1 is.2 in cc) c.in_err-ip.ensures.place)

pub returns-in_err-bits-clause-every : goal.returns-in_err-bits-clause-every
returns-in_err-bits-clause-every c = λ net s.
    let both = net_behind c.args.text.now c.args.slash net c.requires s in
    absurd (c.in_err-bits.ensures.err.wrong (net.bits, omega arith, net.few, both.1))

pub returns-in_err-bits-clause-place : goal.returns-in_err-bits-clause-place
returns-in_err-bits-clause-place c =
    let p = err_from_is_err_and c.from_residual-in_err-bits.result c.from_residual-in_err-bits.ensures.1 in
    rw (p.1, p.2) (longest_in_bits _ _ _ c.in_ok-ip.ip (omega arith) c.requires c.in_ok-ip.ensures.address c.in_err-bits.ensures.err)

pub returns-clause-net : goal.returns-clause-net
returns-clause-net c =
    let number = c.in_ok-bits.ensures.ok in
    record {
      ip = c.in_ok-ip.ip;
      bits = Some c.in_ok-bits.field-0;
      address = omega arith;
      text_is = c.requires.split ∙ rw (c.in_ok-ip.ensures.address, number.2) refl;
      bits_are = c.of.ensures.bits;
      base_is = c.of.ensures.base ∙ ap (λ (n : ℕ). cleared n c.in_ok-ip.ip) (sym c.of.ensures.bits);
    }

pub returns-clause-every : goal.returns-clause-every
returns-clause-every c = λ net s.
    let both = net_behind c.args.text.now c.args.slash net c.requires s in
    let number = c.in_ok-bits.ensures.ok in
    let high = number.1 in
    let few = net.few in
    let same : c.in_ok-ip.ip ≡ s.ip = ip_text-injective c.in_ok-ip.ip s.ip (omega arith) s.address (sym c.in_ok-ip.ensures.address ∙ both.0) in
    let digits : c.in_ok-bits.field-0 ≡ net.bits = decimal_injective c.in_ok-bits.field-0 net.bits (omega arith) (omega arith) (sym number.2 ∙ both.1) in
    ap (λ (n : Net4). Ok n) (Net4-same c.of.result net
    (c.of.ensures.base ∙ ap (cleared c.in_ok-bits.field-0) same ∙ ap (λ (n : ℕ). cleared n s.ip) digits ∙ sym s.base_is)
    (c.of.ensures.bits ∙ digits))
