use Rattle.std.proofs.Common.{◌≡◌, None}
use Rattle.std.specs.Prelude.{nat_lt}
use Rattle.org_tree.specs.Count.{count_below, first_below}
use Rattle.org_tree.specs.Faults.{is_root, is_second_root}
use Rattle.org_tree.proofs.checks.second_root.Given as goal

-- no second root yet, and whether there was a first
abbrev pub invariant-loop-i : goal.invariant-loop-i
invariant-loop-i l = record {
  none_yet : first_below (is_second_root l.units) l.i ≡ None;
  seen : l.has_root ≡ nat_lt 0 (count_below (is_root l.units) l.i);
}
