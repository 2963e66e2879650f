use Rattle.std.proofs.Common.{List, ℕ, inr, subst, ◌∙◌}
use Rattle.fk_log.specs.Printing.{sink_by}
use Rattle.fk_program.specs.Telling.{Shows}
use Rattle.fk_client.proofs.key_making.make_keys.Goals as goal

pub returns-in-Ok : goal.returns-in-Ok
returns-in-Ok g c =
    let at = sink_by g.K.Sink in
    inr (
      c.fill.new.out,
      record { len = c.fill.auto.out; taken = c.in_default.ensures.taken; unfailed = c.in_default.ensures.cause },
      inr (subst (λ (text : List ℕ). Shows text (at c.args.out.now) (at c.show_text.new.out) c.show_text.result) (c.as_slice.ensures ∙ c.in-Ok.ensures) c.show_text.ensures),
    )
