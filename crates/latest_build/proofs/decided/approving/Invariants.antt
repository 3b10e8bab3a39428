use Rattle.std.proofs.Common.{◌≡◌, take, map}
use Rattle.dh_changes.specs.declared.change.Write.TheVariants as write
use Rattle.latest_build.proofs.decided.approving.Given as goal

abbrev pub invariant-loop-key : goal.invariant-loop-key
invariant-loop-key l = l.writes.items ≡ map write.Approve (take l.key-index l.keys)
