use Rattle.std.proofs.Common.{[], subst}
use Rattle.expr_eval.specs.declared.code.Instr.{Instr}
use Rattle.expr_eval.specs.declared.evaluation.Answer.{Answer}
use Rattle.expr_eval.specs.declared.evaluation.Answer.TheVariants as answer
use Rattle.expr_eval.specs.Code.{Comes, act, run}
use Rattle.expr_eval.proofs.Running.{run_on}
use Rattle.expr_eval.proofs.evaluation.run_code.Goals as goal

pub loop-at-preserved : goal.loop-at-preserved
loop-at-preserved c =
    let comes : Comes c.in_ok-skip.field-0 c.act.new.stack (act c.args.entries.now c.index-code-at.result c.loop-at.stack) = c.in_ok-skip.ensures in
    let goes = subst (λ (a : Answer). Comes a c.act.new.stack (act c.args.entries.now c.index-code-at.result c.loop-at.stack)) c.in-Go.is comes in
    let at = subst (λ (i : Instr). Comes (answer.Go c.in-Go.skip) c.act.new.stack (act c.args.entries.now i c.loop-at.stack)) c.index-code-at.is goes in (
      run_on c.args.entries.now c.args.code.now c.loop-at.at c.index-code-at.result c.loop-at.stack c.act.new.stack c.in-Go.skip c.passed-at.result
          (run c.args.entries.now c.args.code.now 0 []) c.loop-at-test.true at c.passed-at.ensures.value c.loop-at.invariant.0,
      c.passed-at.ensures.within,
    )
