use Rattle.std.proofs.Common.{◌≡◌, sym, ap, ◌∙◌, Ok, arith}
use Rattle.std.proofs.lemmas.Result.{err_from_is_err_and}
use Rattle.fk_base.specs.declared.address.Ip4.{Ip4}
use Rattle.fk_base.specs.declared.net.Net4.{Net4}
use Rattle.fk_base.specs.Net.{cleared}
use Rattle.fk_base.proofs.Addresses.{ip_text-injective}
use Rattle.fk_base.proofs.NetTexts.{Net4-same, longest_in_whole, whole_net}
use Rattle.fk_base.proofs.net_text.read_whole.Goals as goal

pub returns-in_err-ip-clause-every : goal.returns-in_err-ip-clause-every
returns-in_err-ip-clause-every c = λ net s.
    let whole = whole_net c.args.text.now net c.requires s in
    let no = c.in_err-ip.ensures.every s.ip s.address whole.0 in
    cc

pub returns-in_err-ip-clause-place : goal.returns-in_err-ip-clause-place
returns-in_err-ip-clause-place c =
    let p = err_from_is_err_and c.from_residual.result c.from_residual.ensures.1 in
    rw (p.1, p.2) (longest_in_whole _ _ c.requires c.in_err-ip.ensures.place)

pub returns-clause-every : goal.returns-clause-every
returns-clause-every c = λ net s.
    let whole = whole_net c.args.text.now net c.requires s in
    let small = s.address in
    let same : c.in_ok-ip.ip ≡ s.ip = ip_text-injective c.in_ok-ip.ip s.ip (omega arith) small (sym c.in_ok-ip.ensures.address ∙ whole.0) in
    let bits : c.of.result.bits ≡ net.bits = c.of.ensures.bits ∙ sym whole.1 in
    ap (λ (n : Net4). Ok n) (Net4-same c.of.result net
    (c.of.ensures.base ∙ ap (cleared 32) same ∙ rw whole.1 at (sym s.base_is)) bits)
