use Rattle.std.proofs.Common.{◌≡◌, map}
use Rattle.org_tree.specs.KinRows.{kin_row, numbers}
use Rattle.org_tree.proofs.families.rows.Given as goal

abbrev pub invariant-loop-unit : goal.invariant-loop-unit
invariant-loop-unit l = l.rows.items ≡ map (kin_row l.units) (numbers l.unit)
