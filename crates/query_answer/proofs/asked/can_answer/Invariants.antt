use Rattle.std.proofs.Common.{◌≡◌, take, true}
use Rattle.std.specs.List.{list_all}
use Rattle.query_answer.specs.Asked.{can_answer_dx}
use Rattle.query_answer.proofs.asked.can_answer.Given as goal

abbrev pub invariant-loop-each : goal.invariant-loop-each
invariant-loop-each l = list_all (can_answer_dx l.meta) (take l.each-index l.dx) ≡ true
