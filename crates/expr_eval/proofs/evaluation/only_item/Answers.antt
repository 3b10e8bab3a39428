use Rattle.std.proofs.Common.{◌≡◌, ◌∷◌, [], subst}
use Rattle.std.specs.Prelude.{IfSome}
use Rattle.expr_eval.specs.declared.code.Instr.TheVariants as instr
use Rattle.expr_eval.proofs.Alone.{loaded_alone}
use Rattle.expr_eval.proofs.evaluation.only_item.Goals as goal

pub returns : goal.returns
returns c = λ entries.
    loaded_alone c.args.form.now entries c.only_load.result
    (subst (λ code. IfSome c.only_load.result (λ n. code ≡ instr.Load n ∷ [])) c.deref.ensures.value c.only_load.ensures)
