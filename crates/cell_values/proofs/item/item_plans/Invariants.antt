use Rattle.std.proofs.Common.{◌≡◌, take, map}
use Rattle.std.specs.List.{All}
use Rattle.cell_values.specs.declared.item.ItemPlan.{ItemPlan}
use Rattle.cell_values.specs.Seen.{contents_of}
use Rattle.cell_values.specs.Plans.{IsItemPlan}
use Rattle.cell_values.proofs.item.item_plans.Given as goal

abbrev pub invariant-loop-item : goal.invariant-loop-item
invariant-loop-item g l = record {
  are : All (IsItemPlan l.source.meta.now l.source.seer.now.user
      (contents_of (g.S.RowStore.rows l.source.store.now) (g.S.RowStore.events l.source.store.now) (g.S.RowStore.regs l.source.store.now))) l.plans.items;
  items : map (λ (plan : ItemPlan). plan.item) l.plans.items ≡ take l.item-index l.items;
}
