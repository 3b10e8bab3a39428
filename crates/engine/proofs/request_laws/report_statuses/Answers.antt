use Rattle.engine.proofs.StatusLemmas.{report-status}
use Rattle.engine.proofs.request_laws.report_statuses.Goals as goal

pub returns : goal.returns
returns c = report-status
