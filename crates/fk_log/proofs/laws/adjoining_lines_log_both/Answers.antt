use Rattle.fk_log.proofs.Logged.{Logs-append}
use Rattle.fk_log.proofs.laws.adjoining_lines_log_both.Goals as goal

pub returns : goal.returns
returns c = Logs-append
