use Rattle.std.proofs.Common.{◌≡◌, ◌++◌, drop, map}
use Rattle.std.specs.Arc.{arc_value}
use Rattle.table_build.specs.Log.{writes_of}
use Rattle.latest_build.specs.Touches.{approvals_named}
use Rattle.latest_build.proofs.approvals.approvals_of.Given as goal

abbrev pub invariant-loop-change : goal.invariant-loop-change
invariant-loop-change l =
    approvals_named (writes_of (map arc_value l.changes)) ≡ l.keys.items ++ approvals_named (writes_of (map arc_value (drop l.change-index l.changes)))
