use Rattle.table_sums.specs.YearParts.{rows_together}
use Rattle.latest_build.proofs.FoundLemmas.{elements-step}
use Rattle.latest_build.proofs.found.put_elements.Goals as goal

pub loop-element-preserved : goal.loop-element-preserved
loop-element-preserved c =
    elements-step c.args.search.now.meta.now (rows_together c.args.search.now.base.now.parts) c.args.search.now.approval.now c.args.search.now.reach
    c.loop-element.element _ _ _ c.loop-element.invariant c.in_ok-put_element.ensures
