use Rattle.std.proofs.Common.{◌∙◌, map, refl, sym, ap, subst}
use Rattle.std.specs.List.{All}
use Rattle.std.proofs.lemmas.List.{take_all}
use Rattle.std.proofs.lemmas.List.Elements.{All-push}
use Rattle.table_rows.specs.Store.{Contents}
use Rattle.cell_values.specs.declared.item.ItemPlan.{ItemPlan}
use Rattle.cell_values.specs.Seen.{contents_of}
use Rattle.cell_values.specs.Plans.{IsItemPlan}
use Rattle.cell_values.proofs.PlanLemmas.{items-more}
use Rattle.cell_values.proofs.item.item_plans.Goals as goal

pub loop-item-preserved : goal.loop-item-preserved
loop-item-preserved g c =
    let s = c.args.source.now.store.now in
    let held : Contents = contents_of (g.S.RowStore.rows s) (g.S.RowStore.events s) (g.S.RowStore.regs s) in
    let P : ItemPlan → Type 0 = IsItemPlan c.args.source.now.meta.now c.args.source.now.seer.now.user held in
    let plan : ItemPlan = record { item = c.item-item.result; way = c.in_ok-way.way } in
    record {
      are = subst (All P) (sym c.in_ok-push.ensures.items) (All-push P c.loop-item.plans.items plan c.loop-item.invariant.are c.in_ok-way.ensures);
      items = items-more c.loop-item.plans.items c.push.new.self.items plan c.args.items.now c.loop-item.item-index c.item-item.result
          c.in_ok-push.ensures.items c.loop-item.invariant.items c.loop-item-test.true (sym c.item-item.is) refl;
    }

pub returns-clause-plans : goal.returns-clause-plans
returns-clause-plans g c =
    let s = c.args.source.now.store.now in
    let held : Contents = contents_of (g.S.RowStore.rows s) (g.S.RowStore.events s) (g.S.RowStore.regs s) in
    subst (All (IsItemPlan c.args.source.now.meta.now c.args.source.now.seer.now.user held)) (sym c.from.ensures) c.loop-item.invariant.are

pub returns-clause-items : goal.returns-clause-items
returns-clause-items g c =
    ap (map (λ (plan : ItemPlan). plan.item)) c.from.ensures ∙ c.loop-item.invariant.items
    ∙ take_all c.loop-item.item-index c.args.items.now c.loop-item-test.false
