use Rattle.std.proofs.Common.{◌≡◌, ◌++◌, drop}
use Rattle.table_sums.specs.YearParts.{rows_together}
use Rattle.table_rows.specs.Cells.{gathered}
use Rattle.latest_build.specs.Found.{in_group_reached}
use Rattle.latest_build.proofs.found.put_groups.Given as goal

abbrev pub invariant-loop-group : goal.invariant-loop-group
invariant-loop-group l =
    l.fn.keys.items ++ gathered (in_group_reached l.search.meta.now (rows_together l.search.base.now.parts) l.search.approval.now l.search.reach l.kind)
    l.groups
    ≡ l.keys.items ++ gathered (in_group_reached l.search.meta.now (rows_together l.search.base.now.parts) l.search.approval.now l.search.reach l.kind)
    (drop l.group-index l.groups)
