use Rattle.std.proofs.Common.{◌∙◌, map, ap}
use Rattle.std.proofs.lemmas.List.{get_or_default, take_all}
use Rattle.cell_values.proofs.PlanLemmas.{mapped-more}
use Rattle.program_cells.specs.Items.{item_in}
use Rattle.program_cells.proofs.items.list_items.Goals as goal

pub loop-each-preserved : goal.loop-each-preserved
loop-each-preserved c =
    let items = c.args.items.now in
    let at = c.loop-each.each-index in
    let within = c.loop-each-test.true in
    mapped-more (item_in c.args.subject.now) items c.loop-each.entries.items c.push.new.self.items at _ c.item.result within
    (get_or_default items at _ _ within) c.loop-each.invariant c.in_ok-push.ensures.items c.item.ensures

pub returns : goal.returns
returns c =
    c.loop-each.invariant ∙ ap (map (item_in c.args.subject.now)) (take_all c.loop-each.each-index c.args.items.now c.loop-each-test.false)
