use Rattle.std.proofs.Common.{refl}
use Rattle.fk_tool.proofs.Printed.{fields-are}
use Rattle.fk_tool.proofs.generated.generated_fields.Goals as goal

pub returns : goal.returns
returns c =
    fields-are c.args.number c.generated_rand.result c.in_ok-user.user c.in_ok-version.version c.generated_address.result c.one.result _
    c.generated_rand.ensures c.in_ok-user.ensures c.in_ok-version.ensures c.generated_address.ensures c.one.ensures refl refl
