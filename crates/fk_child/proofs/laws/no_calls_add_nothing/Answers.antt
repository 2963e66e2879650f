use Rattle.fk_child.specs.View.{view_of}
use Rattle.fk_child.proofs.Images.{adds-none}
use Rattle.fk_child.proofs.laws.no_calls_add_nothing.Goals as goal

pub returns : goal.returns
returns g c =
    let view = view_of g.H.Disk in
    λ ledger keeps. adds-none ledger (view c.args.host.now) keeps
