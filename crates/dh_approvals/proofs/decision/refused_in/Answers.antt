use Rattle.std.proofs.Common.{rules}
use Rattle.dh_approvals.proofs.decision.refused_in.Goals as goal

pub returns-in_default : goal.returns-in_default
returns-in_default c = search rules
