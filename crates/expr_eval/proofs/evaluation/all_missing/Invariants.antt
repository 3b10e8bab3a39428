use Rattle.std.proofs.Common.{◌≡◌, true, take}
use Rattle.std.specs.Prelude.{is_none}
use Rattle.std.specs.List.{list_all}
use Rattle.expr_eval.specs.Given.{entry_at}
use Rattle.expr_eval.proofs.evaluation.all_missing.Given as goal

abbrev pub invariant-loop-n : goal.invariant-loop-n
invariant-loop-n l = list_all (λ n. is_none (entry_at l.entries n)) (take l.n-index l.plain) ≡ true
