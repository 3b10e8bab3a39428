use Rattle.std.proofs.Common.{◌∙◌, ◌++◌, Some, true, List, map, sym, ap}
use Rattle.std.specs.Prelude.{option_map}
use Rattle.std.specs.Option.{option_to_list}
use Rattle.dh_base.specs.Fractions.{Fraction}
use Rattle.program_cells.specs.Code.{gathered}
use Rattle.program_cells.proofs.LoopLemmas.{subjects_step, subjects_start, subjects_end, subjects_done}
use Rattle.program_cells.proofs.evaluation.numbers.Goals as goal

pub loop-each-preserved : goal.loop-each-preserved
loop-each-preserved c =
    let done : List Fraction = c.loop-each.numbers.items in
    subjects_step (option_map option_to_list) (λ one. Some true) (λ one. one) c.args.found.now c.loop-each.each-index c.each-item.result done
    c.put.new.list.items (gathered (map (option_map option_to_list) c.args.found.now)) c.loop-each-test.true c.each-item.is c.loop-each.invariant
    (ap (option_map (λ found. done ++ found)) (ap (option_map option_to_list) c.in-Some.is) ∙ ap Some (sym c.in_ok-put.ensures))

pub loop-each-init : goal.loop-each-init
loop-each-init c =
    subjects_start c.in_ok-numbers.numbers.items (gathered (map (option_map option_to_list) c.args.found.now)) c.in_ok-numbers.ensures.items

pub returns : goal.returns
returns c =
    ap Some c.from.ensures
    ∙ subjects_done (option_map option_to_list) (λ one. Some true) (λ one. one) c.args.found.now c.loop-each.each-index c.loop-each.numbers.items
    (gathered (map (option_map option_to_list) c.args.found.now)) c.loop-each-test.false c.loop-each.invariant

pub returns-in_default : goal.returns-in_default
returns-in_default c =
    let done : List Fraction = c.loop-each.numbers.items in
    subjects_end (option_map option_to_list) (λ one. Some true) (λ one. one) c.args.found.now c.loop-each.each-index c.each-item.result done
    (gathered (map (option_map option_to_list) c.args.found.now)) c.loop-each-test.true c.each-item.is c.loop-each.invariant
    (ap (option_map (λ found. done ++ found)) (ap (option_map option_to_list) c.in_default.is))
