use Rattle.std.proofs.Common.{rules}
use Rattle.dh_approvals.proofs.units.counts.Goals as goal

pub returns-in-Accepted : goal.returns-in-Accepted
returns-in-Accepted c = search rules
