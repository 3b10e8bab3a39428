use Rattle.std.proofs.Common.{◌≡◌, false, take}
use Rattle.std.specs.Prelude.{is_none}
use Rattle.std.specs.List.{list_any}
use Rattle.expr_eval.specs.Given.{entry_at}
use Rattle.expr_eval.proofs.evaluation.any_missing.Given as goal

abbrev pub invariant-loop-n : goal.invariant-loop-n
invariant-loop-n l = list_any (λ n. is_none (entry_at l.entries n)) (take l.n-index l.plain) ≡ false
