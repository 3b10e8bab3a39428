use Rattle.std.proofs.Common.{length, arith}
use Rattle.std.proofs.lemmas.List.{length_push}
use Rattle.org_tree.specs.Faults.{is_too_deep}
use Rattle.org_tree.specs.Levels.{HasLevel}
use Rattle.org_tree.proofs.CountLemmas.{first_below-found, first_below-more}
use Rattle.org_tree.proofs.LevelLemmas.{each_push, shallow-from_HasLevel}
use Rattle.org_tree.proofs.levels.levels.Goals as goal

pub fault_of_depth-requires-clause-first : goal.fault_of_depth-requires-clause-first
fault_of_depth-requires-clause-first c =
    first_below-found (is_too_deep c.args.units.now) (length c.args.units.now) c.loop-unit.unit c.loop-unit.invariant.none_deep c.in-None.ensures
    c.loop-unit-test.true

pub loop-unit-preserved : goal.loop-unit-preserved
loop-unit-preserved c =
    let us = c.args.units.now in
    let done = c.loop-unit.invariant in
    rw c.in_ok-push-in-Some.ensures.items record {
      count = omega (arith, done.count, length_push c.loop-unit.levels.items c.in-Some.level);
      each = each_push (HasLevel us) c.loop-unit.levels.items c.in-Some.level c.loop-unit.unit done.count done.each c.in-Some.ensures;
      none_deep =
          first_below-more (is_too_deep us) c.loop-unit.unit done.none_deep (shallow-from_HasLevel us c.loop-unit.unit c.in-Some.level c.in-Some.ensures);
    }
