use Rattle.std.proofs.Common.{◌∙◌, ap}
use Rattle.std.specs.List.{filter}
use Rattle.std.proofs.lemmas.List.{take_all}
use Rattle.cell_values.specs.Plans.{is_group_read}
use Rattle.cell_values.proofs.PlanLemmas.{kept-more}
use Rattle.cell_values.proofs.groups.read_groups.Goals as goal

pub loop-group-preserved : goal.loop-group-preserved
loop-group-preserved c =
    kept-more (is_group_read c.args.meta.now c.args.seer.now.user c.args.operand.now.combo c.args.operand.now.attribute) c.args.groups.now
    c.loop-group.kept.items c.push_if.new.list.items c.loop-group.group-index c.group-item.result c.is_read.result c.loop-group-test.true
    c.group-item.is c.loop-group.invariant c.in_ok-push_if.ensures c.is_read.ensures

pub loop-group-init : goal.loop-group-init
loop-group-init c = c.new-kept.ensures.items

pub returns : goal.returns
returns c =
    c.loop-group.invariant
    ∙ ap (filter (is_group_read c.args.meta.now c.args.seer.now.user c.args.operand.now.combo c.args.operand.now.attribute))
    (take_all c.loop-group.group-index c.args.groups.now c.loop-group-test.false)
