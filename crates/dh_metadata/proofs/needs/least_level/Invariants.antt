use Rattle.std.proofs.Common.{◌≡◌, None, drop}
use Rattle.dh_metadata.specs.Approval.{least_from}
use Rattle.dh_metadata.proofs.needs.least_level.Given as goal

abbrev pub invariant-loop-unit : goal.invariant-loop-unit
invariant-loop-unit l = least_from l.tree None l.units ≡ least_from l.tree l.least (drop l.unit-index l.units)
