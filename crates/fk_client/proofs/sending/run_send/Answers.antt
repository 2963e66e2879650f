use Rattle.std.proofs.Common.{List, ℕ, [], ◌∷◌, ◌++◌, inr, refl, subst}
use Rattle.fk_program.specs.Telling.{Shows}
use Rattle.fk_client.specs.Outside.{outside_by}
use Rattle.fk_client.specs.Faults.{fault_of}
use Rattle.fk_client.proofs.Delivering.{in-vain, delivered, as-shown, as-sent}
use Rattle.fk_client.proofs.sending.run_send.Goals as goal

pub returns-in-Err-draw_packet : goal.returns-in-Err-draw_packet
returns-in-Err-draw_packet g c =
    let at = outside_by g.F.Files g.N.Entropy g.L.Link g.K.Sink in
    let old = at c.args.files.now c.args.entropy.now c.args.link.now c.args.out.now in
    let new = at c.settings_by.new.files c.draw_packet.new.entropy c.args.link.now c.refuse-in-Err-draw_packet.new.out in
    inr (
      c.in-Ok.settings,
      c.in-Ok.ensures.0,
      c.in-Ok.ensures.1,
      in-vain c.args.words.now.print c.in-Ok.settings c.args.moment (fault_of c.in-Err-draw_packet.refusal) old new c.refuse-in-Err-draw_packet.result
          c.in-Err-draw_packet.ensures refl c.refuse-in-Err-draw_packet.ensures,
    )

pub returns-then-words : goal.returns-then-words
returns-then-words g c =
    let at = outside_by g.F.Files g.N.Entropy g.L.Link g.K.Sink in
    let old = at c.args.files.now c.args.entropy.now c.args.link.now c.args.out.now in
    let new = at c.settings_by.new.files c.draw_packet.new.entropy c.args.link.now c.show_line.new.out in
    let packet = c.in-Ok-draw_packet.packet in
    inr (
      c.in-Ok.settings,
      c.in-Ok.ensures.0,
      c.in-Ok.ensures.1,
      delivered c.args.words.now.print c.in-Ok.settings c.args.moment packet old new c.show_line.result c.in-Ok-draw_packet.ensures
          (as-shown c.args.words.now.print packet old new c.show_line.result c.if-words.true refl
          (subst (λ (datagram : List ℕ). Shows ((datagram ++ []) ++ 10 ∷ []) old.sink new.sink c.show_line.result) c.as_slice.ensures c.show_line.ensures)),
    )

pub returns : goal.returns
returns g c =
    let at = outside_by g.F.Files g.N.Entropy g.L.Link g.K.Sink in
    let old = at c.args.files.now c.args.entropy.now c.args.link.now c.args.out.now in
    let new = at c.settings_by.new.files c.draw_packet.new.entropy c.send.new.link c.send.new.out in
    let packet = c.in-Ok-draw_packet.packet in
    inr (
      c.in-Ok.settings,
      c.in-Ok.ensures.0,
      c.in-Ok.ensures.1,
      delivered c.args.words.now.print c.in-Ok.settings c.args.moment packet old new c.send.result c.in-Ok-draw_packet.ensures
          (as-sent c.args.words.now.print packet old new c.send.result c.if-words.false c.send.ensures),
    )
