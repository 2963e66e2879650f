use Rattle.std.proofs.Common.{arith, ℕ, ◌∙◌}
use Rattle.std.proofs.lemmas.List.{length-take, length-drop}
use Rattle.fk_host.proofs.Streams.{Gives-next}
use Rattle.fk_host.proofs.stream.write_all.Goals as goal

pub loop-sent-preserved : goal.loop-sent-preserved
loop-sent-preserved g c = record {
  in_range = omega (arith, length-take {A = ℕ}, length-drop {A = ℕ}, c.in_ok-sent.ensures.some);
  given = Gives-next _ _ _ _ _ _ c.loop-sent.invariant.given c.in_ok-sent.ensures.given;
  count = c.in_ok-sent.ensures.cause ∙ c.loop-sent.invariant.count;
}
