use Rattle.expr_eval.proofs.compiling.+emit.Given as goal

abbrev pub decreases-emit : goal.decreases-emit
decreases-emit l = l.n
