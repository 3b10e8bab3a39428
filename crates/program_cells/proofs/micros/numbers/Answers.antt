use Rattle.std.proofs.Common.{◌∙◌, ℤ, pos, get_or, ap, map, rules, w64, FitsSigned, to_z-of_z}
use Rattle.std.proofs.lemmas.List.{get_or_default, take_all}
use Rattle.dh_base.specs.Fractions.{of_micros}
use Rattle.cell_values.proofs.PlanLemmas.{mapped-more}
use Rattle.program_cells.proofs.micros.numbers.Goals as goal

pub loop-each-preserved : goal.loop-each-preserved
loop-each-preserved c =
    let list = c.args.list.now in
    let i = c.loop-each.each-index in
    let each : ℤ = get_or list i (pos 0) in
    let fits : FitsSigned w64 (get_or c.args.list.now c.loop-each.each-index (pos 0)) = search rules in
    mapped-more of_micros list c.loop-each.found.items c.push.new.self.items i each c.micros.result c.loop-each-test.true
    (get_or_default list i (pos 0) each c.loop-each-test.true) c.loop-each.invariant c.in_ok-push.ensures.items
    (c.micros.ensures ∙ ap of_micros (to_z-of_z fits))

pub returns : goal.returns
returns c =
    c.loop-each.invariant ∙ ap (map of_micros) (take_all c.loop-each.each-index c.args.list.now c.loop-each-test.false)
