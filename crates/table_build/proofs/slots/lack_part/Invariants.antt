use Rattle.std.proofs.Common.{◌≡◌, take, false}
use Rattle.table_build.specs.Slots.{lack_part}
use Rattle.table_build.proofs.slots.lack_part.Given as goal

abbrev pub invariant-loop-slot : goal.invariant-loop-slot
invariant-loop-slot l = lack_part (take l.slot-index l.slots) ≡ false
