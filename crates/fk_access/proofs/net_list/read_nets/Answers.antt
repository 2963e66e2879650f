use Rattle.std.proofs.Common.{◌≡◌, ◌+◌, ◌∷◌, [], length, length-append, sym, ap, ◌∙◌, arith}
use Rattle.fk_values.specs.Values.{items_of}
use Rattle.fk_access.proofs.NetsRead.{nets_begin, nets_end, nets_go_on}
use Rattle.fk_access.proofs.net_list.read_nets.Goals as goal

pub loop-item-init : goal.loop-item-init
loop-item-init c = record {
  reading = nets_begin (items_of c.args.value.now) c.next.new.self c.in_ok-next.field-0.now c.in_ok-find_net.field-0 c.one-nets.result
      (sym c.new-items.ensures ∙ c.in_ok-next.ensures) c.in_ok-find_net.ensures.0 c.in_ok-find_net.ensures.1 c.one-nets.ensures;
  few = let one = ap length c.one-nets.ensures in omega arith;
}

pub loop-item-preserved : goal.loop-item-preserved
loop-item-preserved c =
    let ok = c.if-not-push.ensures.ok in
    let room = ok.0 in
    let grown : length c.push.new.self ≡ length c.loop-item.nets + 1 = ap length ok.1 ∙ length-append c.loop-item.nets (c.in_ok-find_net-2.field-0 ∷ []) in
    record {
      reading = nets_go_on (items_of c.args.value.now) c.loop-item.items c.next-in-loop-item.new.self c.in-Some.item.now c.in_ok-find_net-2.field-0
          c.loop-item.nets c.push.new.self c.in-Some.ensures c.in_ok-find_net-2.ensures.0 c.in_ok-find_net-2.ensures.1 ok.1 c.loop-item.invariant.reading;
      few = omega arith;
    }

pub returns : goal.returns
returns c = nets_end (items_of c.args.value.now) c.loop-item.items c.loop-item.nets c.in_default.ensures.0 c.loop-item.invariant.few c.loop-item.invariant.reading
