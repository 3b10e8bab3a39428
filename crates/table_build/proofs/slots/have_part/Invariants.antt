use Rattle.std.proofs.Common.{◌≡◌, take, false}
use Rattle.table_build.specs.Slots.{have_part}
use Rattle.table_build.proofs.slots.have_part.Given as goal

abbrev pub invariant-loop-slot : goal.invariant-loop-slot
invariant-loop-slot l = have_part (take l.slot-index l.slots) ≡ false
