use Rattle.std.proofs.Common.{◌∙◌}
use Rattle.fk_base.proofs.FoundValues.{number_read}
use Rattle.fk_base.proofs.found.find_number.Goals as goal

pub returns : goal.returns
returns c =
    c.ok.ensures.value ∙ number_read c.args.greatest c.args.text.now c.read_number.result c.read_number.ensures.value c.read_number.ensures.fault
