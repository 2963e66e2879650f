use Rattle.fk_serve.proofs.Calling.{calls-history, calls-undamaged}
use Rattle.fk_serve.proofs.history.calls_of_the_program_are_a_history.Goals as goal

pub returns-clause-history : goal.returns-clause-history
returns-clause-history g c = λ found calls is are image left. calls-history g.H.Disk (λ disk. g.met.H.Disk.read_is_an_image disk) found calls is are image left

pub returns-clause-undamaged : goal.returns-clause-undamaged
returns-clause-undamaged g c = λ found calls is are call m. calls-undamaged g.H.Disk (λ disk. g.met.H.Disk.read_is_an_image disk) found calls is are call m
