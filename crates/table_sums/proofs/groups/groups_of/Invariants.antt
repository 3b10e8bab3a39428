use Rattle.std.proofs.Common.{◌≤◌, ◌-◌, length}
use Rattle.table_rows.proofs.GroupLemmas.{Step, groups_upto}
use Rattle.table_sums.proofs.groups.groups_of.Given as goal

abbrev pub invariant-loop-place : goal.invariant-loop-place
invariant-loop-place g l = record {
  step : Step (groups_upto l.element l.rows l.place) l.groups.items;
  from : l.initial.place ≤ l.place;
  within : l.place ≤ length l.rows;
}

abbrev pub decreases-loop-place : goal.decreases-loop-place
decreases-loop-place g l = l.end - l.place
