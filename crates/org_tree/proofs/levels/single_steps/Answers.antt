use Rattle.std.proofs.Common.{sym, ◌∙◌, arith}
use Rattle.std.proofs.lemmas.List.{length_push}
use Rattle.org_tree.specs.Units.{parent_of}
use Rattle.org_tree.proofs.LevelLemmas.{climb-one, jump-push}
use Rattle.org_tree.proofs.levels.single_steps.Goals as goal

pub loop-unit-preserved : goal.loop-unit-preserved
loop-unit-preserved c =
    let done = c.loop-unit.invariant in
    rw c.in_ok-push.ensures.items record {
      count = omega (arith, done.count, length_push c.loop-unit.jumps.items c.parent.result);
      each = jump-push c.loop-unit.jumps.items c.parent.result c.loop-unit.unit (parent_of c.args.units.now) done.count done.each c.parent.ensures;
    }

pub returns : goal.returns
returns c = record {
  same_length = omega arith;
  each = λ x h. c.loop-unit.invariant.each x (omega arith) ∙ sym (climb-one c.args.units.now x);
}
