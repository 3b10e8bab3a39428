use Rattle.expr_eval.proofs.compiling.+emit_first.Given as goal

abbrev pub decreases-emit_first : goal.decreases-emit_first
decreases-emit_first l = l.n
