use Rattle.std.proofs.Common.{◌≡◌, ◌++◌, drop, map}
use Rattle.table_build.specs.Slots.{no_part}
use Rattle.table_build.proofs.slots.slots_for.Given as goal

abbrev pub invariant-loop-year : goal.invariant-loop-year
invariant-loop-year l = map no_part l.years ≡ l.slots.items ++ map no_part (drop l.year-index l.years)
