use Rattle.fk_child.specs.View.{view_of}
use Rattle.fk_child.proofs.Images.{adds-append}
use Rattle.fk_child.proofs.laws.adjoining_calls_add_up.Goals as goal

pub returns : goal.returns
returns g c =
    let view = view_of g.H.Disk in
    λ earlier later ledger a b failing order disk one two.
    adds-append earlier later ledger a b failing order (view c.args.first.now) (view c.args.second.now) (view c.args.third.now) one disk two
