use Rattle.cell_values.proofs.PlanLemmas.{mapped-more}
use Rattle.program_cells.specs.Items.{named_item}
use Rattle.program_cells.proofs.items.named_items.Goals as goal

pub loop-item-preserved : goal.loop-item-preserved
loop-item-preserved c =
    mapped-more (named_item c.args.meta.now) c.args.items.now c.loop-item.list.items c.push.new.self.items c.loop-item.item-index c.item-item.result
    c.named.result c.loop-item-test.true c.item-item.is c.loop-item.invariant c.in_ok-push.ensures.items c.named.ensures
