use Rattle.std.proofs.Common.{◌<◌, ◌^◌, ◌∙◌, rules}
use Rattle.std.specs.Prelude.{IfOk}
use Rattle.fk_base.proofs.FoundValues.{pair_read}
use Rattle.fk_base.proofs.found.find_pair.Goals as goal

pub returns : goal.returns
returns c =
    let small : IfOk c.read_pair.result (λ pair. pair.port < 2 ^ 16) = search rules in
    c.ok.ensures.value ∙ pair_read c.args.text.now c.read_pair.result small c.read_pair.ensures.pair c.read_pair.ensures.every
