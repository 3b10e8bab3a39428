use Rattle.std.proofs.Common.{arith}
use Rattle.std.specs.Prelude.{option_and_then}
use Rattle.std.proofs.lemmas.List.{length_push}
use Rattle.org_tree.specs.Levels.{jump}
use Rattle.org_tree.proofs.LevelLemmas.{jump-push}
use Rattle.org_tree.proofs.levels.twice.Goals as goal

pub loop-from-preserved : goal.loop-from-preserved
loop-from-preserved c =
    let done = c.loop-from.invariant in
    let jumps = c.args.jumps.now in
    rw c.in_ok-push.ensures.items record {
      count = omega (arith, done.count, length_push c.loop-from.double.items c.two_jumps.result);
      each =
          jump-push c.loop-from.double.items c.two_jumps.result c.loop-from.from (λ x. option_and_then (λ p. jump jumps p) (jump jumps x)) done.count done.each
          c.two_jumps.ensures;
    }

pub returns : goal.returns
returns c =
    let done = c.loop-from.invariant in
    record {
      same_length = omega arith;
      each = λ x h. done.each x (omega arith);
    }
