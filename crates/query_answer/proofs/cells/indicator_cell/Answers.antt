use Rattle.std.proofs.Common.{◌≡◌, ◌∙◌, ap, subst, map, false, IfOk, Option}
use Rattle.dh_base.specs.Fractions.{Fraction}
use Rattle.expr_lang.specs.declared.tree.Item.{Item}
use Rattle.expr_lang.specs.Expr.{items_in}
use Rattle.query_answer.specs.Value.{indicator_value_of}
use Rattle.query_answer.specs.Cells.{indicator_cell}
use Rattle.cell_values.specs.Seen.{SeenRecords, seen_of, contents_of}
use Rattle.cell_values.specs.Items.{item_value_of}
use Rattle.cell_values.specs.Plans.{planned_value}
use Rattle.query_answer.proofs.BothLemmas.{had}
use Rattle.query_answer.proofs.PlanLemmas.{values-planned}
use Rattle.query_answer.proofs.cells.indicator_cell.Goals as goal

pub returns : goal.returns
unfolding indicator_cell
returns g c =
    let r = c.args.source.now.meta.now in
    let s = c.args.source.now.store.now in
    let shown : SeenRecords = seen_of r c.args.source.now.seer.now.user
    (contents_of (g.S.RowStore.rows s) (g.S.RowStore.events s) (g.S.RowStore.regs s)) in
    let indicator = c.args.indicator.now in
    let plan = c.args.plan.now in
    let periods = c.args.periods.now in
    let units = c.args.unit.now.units in
    let value : Item → Option Fraction = λ item. item_value_of r shown item periods units.units false in
    let over : c.in_ok-numerator.numerator.items ≡ map value (items_in indicator.numerator) =
    had _ _ _ c.item_values-numerator.ensures c.in_ok-numerator.ensures.first ∙ ap (map (planned_value r shown periods units.units units.alone))
    c.as_slice.ensures
    ∙ values-planned r shown periods units.units units.alone plan.over (items_in indicator.numerator) c.requires.unit.alone c.requires.plan.over_items in
    let under : c.in_ok-numerator.denominator.items ≡ map value (items_in indicator.denominator) =
    had _ _ _ c.item_values-denominator.ensures c.in_ok-numerator.ensures.second ∙ ap (map (planned_value r shown periods units.units units.alone))
    c.as_slice-2.ensures
    ∙ values-planned r shown periods units.units units.alone plan.under (items_in indicator.denominator) c.requires.unit.alone c.requires.plan.under_items in
    subst (λ n. IfOk c.indicator_value.result (λ cell. cell ≡ indicator_value_of r value n indicator)) c.days.ensures.value
    (c.indicator_value.ensures.meaning r indicator value c.requires.plan.sides (c.as_slice-3.ensures.value ∙ over) (c.as_slice-4.ensures.value ∙ under))
