use Rattle.std.proofs.Common.{◌≡◌, take, map}
use Rattle.dh_changes.specs.Said.{said_by}
use Rattle.dh_changes.proofs.world.say_all.Given as goal

abbrev pub invariant-loop-write : goal.invariant-loop-write
invariant-loop-write l = l.waiting.items ≡ map said_by (take l.write-index l.writes)
