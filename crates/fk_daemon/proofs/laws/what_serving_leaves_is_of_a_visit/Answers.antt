use Rattle.fk_child.specs.View.{view_of}
use Rattle.fk_daemon.proofs.Visiting.{leaves-run, leaves-as_before}
use Rattle.fk_daemon.proofs.laws.what_serving_leaves_is_of_a_visit.Goals as goal

pub returns-clause-run : goal.returns-clause-run
returns-clause-run g c = λ old new task account serving runs. leaves-run task account (view_of g.H.Disk old) (view_of g.H.Disk new) serving runs

pub returns-clause-vain : goal.returns-clause-vain
returns-clause-vain g c = λ old new vain. leaves-as_before (view_of g.H.Disk old) (view_of g.H.Disk new) (g.met.H.Disk.read_is_an_image old) vain
