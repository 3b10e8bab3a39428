use Rattle.std.proofs.Common.{◌∙◌, ◌++◌, ap}
use Rattle.std.specs.Arc.{arc_value}
use Rattle.std.specs.List.{filter_map}
use Rattle.table_build.proofs.NamedLemmas.{named-step}
use Rattle.table_build.proofs.named.named_in.Goals as goal

pub loop-change-preserved : goal.loop-change-preserved
loop-change-preserved g c =
    named-step arc_value g.T.Named.named c.args.changes.now c.loop-change.change-index c.change-item.result c.deref.result.now _ _ _ c.loop-change-test.true
    c.change-item.is c.deref.ensures c.loop-change.invariant
    (c.in_ok-put.ensures ∙ ap (λ ws. c.loop-change.keys.items ++ filter_map g.T.Named.named ws) c.as_slice.ensures)
