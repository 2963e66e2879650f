use Rattle.std.proofs.Common.{◌++◌, ap, subst, sym, ◌∙◌}
use Rattle.fk_base.specs.Address.{ip_text}
use Rattle.fk_tool.specs.Generated.{IsGeneratedDatagram}
use Rattle.fk_tool.proofs.Printed.{line-is}
use Rattle.fk_tool.proofs.generated.generated_line.Goals as goal

pub returns : goal.returns
returns c =
    let number = c.args.number in
    let is : IsGeneratedDatagram number c.in_ok-datagram.datagram = record {
      fields = c.in_ok-fields.fields;
      says = c.in_ok-fields.ensures;
      keys = c.args.keys.now;
      are = c.requires.keys;
      packs = c.in_ok-datagram.ensures.packed.0;
      salt = c.in_ok-datagram.ensures.packed.1 ∙ c.to_be_bytes.ensures;
    } in
    line-is number c.line_of_parts.result c.as_bytes.result.now c.as_slice.result.now c.as_slice-2.result.now
    (c.as_bytes.ensures.value ∙ c.format.ensures.text)
    (c.as_slice.ensures ∙ c.in_ok-put_ip.ensures.ok ∙ ap (λ t. t ++ ip_text c.generated_address.result) c.new-address.ensures ∙ ap ip_text c.generated_address.ensures)
    (subst (IsGeneratedDatagram number) (sym c.as_slice-2.ensures) is) c.line_of_parts.ensures
