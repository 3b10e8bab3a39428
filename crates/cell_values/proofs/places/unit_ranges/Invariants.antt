use Rattle.std.proofs.Common.{take}
use Rattle.cell_values.specs.Places.{AreOrdersAt}
use Rattle.cell_values.proofs.places.unit_ranges.Given as goal

abbrev pub invariant-loop-unit : goal.invariant-loop-unit
invariant-loop-unit l = AreOrdersAt l.tree l.alone (take l.unit-index l.units) l.ranges.items
