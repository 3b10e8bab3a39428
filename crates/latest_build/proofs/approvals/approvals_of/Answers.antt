use Rattle.std.proofs.Common.{◌∙◌, ◌++◌, ap}
use Rattle.std.specs.Arc.{arc_value}
use Rattle.table_build.proofs.NamedLemmas.{named-step}
use Rattle.latest_build.specs.Touches.{approval_named, approvals_named}
use Rattle.latest_build.proofs.approvals.approvals_of.Goals as goal

pub loop-change-preserved : goal.loop-change-preserved
loop-change-preserved c =
    named-step arc_value approval_named c.args.changes.now c.loop-change.change-index c.change-item.result c.deref.result.now _ _ _ c.loop-change-test.true
    c.change-item.is c.deref.ensures c.loop-change.invariant (c.in_ok-put_writes.ensures ∙ ap (λ ws. c.loop-change.keys.items ++ approvals_named ws) c.as_slice.ensures)
