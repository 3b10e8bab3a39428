use Rattle.std.proofs.Common.{take}
use Rattle.query_lang.specs.View.{Covers}
use Rattle.query_lang.proofs.view.ranges_under.Given as goal

abbrev pub invariant-loop-unit : goal.invariant-loop-unit
invariant-loop-unit l = Covers l.tree (take l.unit-index l.units) l.intervals.items
