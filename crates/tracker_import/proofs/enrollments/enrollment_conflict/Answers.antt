use Rattle.std.proofs.Common.{arith}
use Rattle.std.proofs.lemmas.Grind.{common_steps}
use Rattle.tracker_import.proofs.ConditionLemmas.{in-order}
use Rattle.tracker_import.proofs.enrollments.enrollment_conflict.Goals as goal

pub returns : goal.returns
unfolding Rattle.tracker_import.specs.Enrollments.enrollment_conflict
returns c = grind (arith, common_steps, in-order)
