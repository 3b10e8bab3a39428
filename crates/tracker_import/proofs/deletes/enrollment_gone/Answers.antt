use Rattle.std.proofs.Common.{rules}
use Rattle.tracker_import.proofs.deletes.enrollment_gone.Goals as goal

pub returns : goal.returns
unfolding Rattle.tracker_import.specs.Deletes.enrollment_gone
returns c = search rules
