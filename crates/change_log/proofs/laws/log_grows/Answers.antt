use Rattle.change_log.proofs.Logs.{log-more}
use Rattle.change_log.proofs.laws.log_grows.Goals as goal

pub returns : goal.returns
returns c = log-more
