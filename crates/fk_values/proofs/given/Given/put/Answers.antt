use Rattle.std.proofs.Common.{arith, sym}
use Rattle.fk_values.proofs.GivenPlaces.{given_at-set}
use Rattle.fk_values.proofs.given.Given.put.Goals as goal

pub returns : goal.returns
returns c = λ n. given_at-set c.self.inside.lines c.args.self.now c.args.number n c.args.line (omega (arith, c.self.invariant.0)) (sym c.self.view_is)
