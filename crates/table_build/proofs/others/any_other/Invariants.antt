use Rattle.std.proofs.Common.{◌≡◌, take, false}
use Rattle.table_build.specs.Log.{any_other}
use Rattle.table_build.proofs.others.any_other.Given as goal

abbrev pub invariant-loop-write : goal.invariant-loop-write
invariant-loop-write l = any_other (take l.write-index l.writes) ≡ false
