use Rattle.std.proofs.Common.{◌≡◌, ◌++◌, drop}
use Rattle.std.specs.List.{filter_map}
use Rattle.latest_build.specs.Touches.{approval_named}
use Rattle.latest_build.proofs.approvals.put_writes.Given as goal

abbrev pub invariant-loop-write : goal.invariant-loop-write
invariant-loop-write l = l.fn.keys.items ++ filter_map approval_named l.writes ≡ l.keys.items ++ filter_map approval_named (drop l.write-index l.writes)
