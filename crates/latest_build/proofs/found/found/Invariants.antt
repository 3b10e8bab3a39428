use Rattle.std.proofs.Common.{◌≡◌, ◌++◌, drop}
use Rattle.table_sums.specs.YearParts.{rows_together}
use Rattle.table_rows.specs.Cells.{gathered}
use Rattle.latest_build.specs.Found.{found_by}
use Rattle.latest_build.proofs.found.found.Given as goal

abbrev pub invariant-loop-approval : goal.invariant-loop-approval
invariant-loop-approval l =
    gathered (found_by l.meta (rows_together l.base.parts)) l.approvals
    ≡ l.keys.items ++ gathered (found_by l.meta (rows_together l.base.parts)) (drop l.approval-index l.approvals)
