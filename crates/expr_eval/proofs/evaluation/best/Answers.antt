use Rattle.std.proofs.Common.{◌≡◌, ℕ, ◌+◌, ◌-◌, length, take, reverse, Ok, Err, ap, sym, ◌∙◌, subst, arith}
use Rattle.std.proofs.lemmas.List.{length-drop}
use Rattle.expr_eval.specs.Meaning.{best_of}
use Rattle.expr_eval.specs.Code.{next_best_of}
use Rattle.expr_eval.proofs.Running.{best_on, best_step}
use Rattle.expr_eval.proofs.evaluation.best.Goals as goal

pub loop-above-preserved-in-Ok : goal.loop-above-preserved-in-Ok
loop-above-preserved-in-Ok c =
    let e : c.loop-above.above ≡ (c.loop-above.above - 1) + 1 = omega arith in
    let so_far =
    subst (λ (k : ℕ). best_on c.args.greatest c.loop-above.best (reverse (take k c.args.stack.now))
    ≡ best_of c.args.greatest (reverse (take c.args.count c.args.stack.now))) e c.loop-above.invariant.0 in (
      best_step c.args.greatest c.loop-above.best c.args.stack.now (c.loop-above.above - 1) c.in-Some.cell (Ok c.in-Ok.number) _ (sym c.in-Some.ensures.value)
          (c.in-Ok.ensures ∙ ap (next_best_of c.args.greatest c.loop-above.best) c.number.ensures) so_far,
      omega arith,
    )

pub returns-in-Err : goal.returns-in-Err
returns-in-Err c =
    let e : c.loop-above.above ≡ (c.loop-above.above - 1) + 1 = omega arith in
    let so_far =
    subst (λ (k : ℕ). best_on c.args.greatest c.loop-above.best (reverse (take k c.args.stack.now))
    ≡ best_of c.args.greatest (reverse (take c.args.count c.args.stack.now))) e c.loop-above.invariant.0 in
    best_step c.args.greatest c.loop-above.best c.args.stack.now (c.loop-above.above - 1) c.in-Some.cell (Err c.in-Err.value) _ (sym c.in-Some.ensures.value)
    (c.in-Err.ensures ∙ ap (next_best_of c.args.greatest c.loop-above.best) c.number.ensures) so_far

pub loop-above-preserved : goal.loop-above-preserved
loop-above-preserved c =
    absurd (omega (arith, ap length c.in_default.ensures.none, length-drop (c.loop-above.above - 1) c.args.stack.now))
