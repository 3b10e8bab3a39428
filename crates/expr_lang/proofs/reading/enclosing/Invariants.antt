use Rattle.std.proofs.Common.{◌≡◌, drop}
use Rattle.std.specs.Prelude.{◌||◌}
use Rattle.expr_lang.specs.Reading.{enclosing_of, compares}
use Rattle.expr_lang.proofs.reading.enclosing.Given as goal

abbrev pub invariant-loop-above : goal.invariant-loop-above
invariant-loop-above l = (enclosing_of l.frames ≡ enclosing_of (drop l.above l.frames)) × (compares l.frames ≡ l.comparison || compares (drop l.above l.frames))
