use Rattle.fk_access.proofs.PairsKept.{pushed, pushed_within}
use Rattle.fk_access.proofs.pair_lines.EndedPairs.push.Goals as goal

pub invariant_of-self : goal.invariant_of-self
invariant_of-self c =
    pushed_within c.self.inside.items c.self.inside.len c.args.self.now c.args.pair c.self.view_is c.self.invariant.0 c.self.invariant.1 c.requires

pub returns : goal.returns
returns c = pushed c.self.inside.items c.self.inside.len c.args.self.now c.args.pair c.self.view_is c.self.invariant.0 c.self.invariant.1 c.requires
