use Rattle.std.proofs.Common.{◌≡◌, ◌≤◌, ◌+◌, ◌*◌, drop}
use Rattle.table_rows.specs.Sums.{sum_over}
use Rattle.offline_replies.specs.Counts.{group_sum}
use Rattle.offline_replies.proofs.samples.counts.count_groups.Given as goal

abbrev pub invariant-loop-group : goal.invariant-loop-group
invariant-loop-group g l = record {
  is : l.count + (sum_over (group_sum (g.S.RowStore.rows l.store) l.end) (drop l.group-index l.groups)).count
      ≡ (sum_over (group_sum (g.S.RowStore.rows l.store) l.end) l.groups).count;
  few : l.count ≤ 4194304 * l.group-index;
}
