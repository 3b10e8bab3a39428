use Rattle.std.proofs.Common.{◌≡◌, take, true}
use Rattle.std.specs.List.{list_all}
use Rattle.table_build.specs.Left.{tells}
use Rattle.table_build.proofs.left.all_tell.Given as goal

abbrev pub invariant-loop-write : goal.invariant-loop-write
invariant-loop-write l = list_all (tells l.year) (take l.write-index l.writes) ≡ true
