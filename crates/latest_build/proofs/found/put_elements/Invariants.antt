use Rattle.std.proofs.Common.{◌≡◌, ◌++◌}
use Rattle.table_sums.specs.YearParts.{rows_together}
use Rattle.latest_build.specs.Found.{of_elements}
use Rattle.latest_build.proofs.found.put_elements.Given as goal

abbrev pub invariant-loop-element : goal.invariant-loop-element
invariant-loop-element l =
    l.keys.items ≡ l.fn.keys.items ++ of_elements l.search.meta.now (rows_together l.search.base.now.parts) l.search.approval.now l.search.reach l.element
