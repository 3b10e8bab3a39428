use Rattle.std.proofs.Common.{◌∙◌, ap}
use Rattle.std.proofs.lemmas.List.{take_all}
use Rattle.table_rows.specs.declared.row.Group.{Group}
use Rattle.cell_values.specs.Cells.{is_in_some}
use Rattle.cell_values.specs.Plans.{inside}
use Rattle.cell_values.proofs.PlanLemmas.{kept-more}
use Rattle.cell_values.proofs.groups.inside.Goals as goal

pub loop-group-preserved : goal.loop-group-preserved
loop-group-preserved c =
    kept-more (λ (group : Group). is_in_some c.args.periods.now group.period) c.args.groups.now c.loop-group.kept.items c.push_if.new.list.items
    c.loop-group.group-index c.group-item.result c.is_in_some.result c.loop-group-test.true c.group-item.is c.loop-group.invariant
    c.in_ok-push_if.ensures c.is_in_some.ensures

pub loop-group-init : goal.loop-group-init
loop-group-init c = c.new-kept.ensures.items

pub returns : goal.returns
returns c =
    c.loop-group.invariant ∙ ap (inside c.args.periods.now) (take_all c.loop-group.group-index c.args.groups.now c.loop-group-test.false)
