use Rattle.expr_eval.proofs.compiling.+count.Given as goal

abbrev pub decreases-count : goal.decreases-count
decreases-count l = l.n
