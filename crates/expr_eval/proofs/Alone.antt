-- Forms that are one item alone.
use Rattle.std.proofs.Common.{◌≡◌, ◌∷◌, [], ℕ, List, Option, Some, None, ap}
use Rattle.std.specs.Prelude.{IfSome}
use Rattle.std.specs.Option.{unwrap_or}
use Rattle.dh_base.specs.declared.plain.Strategy.TheVariants.{Never}
use Rattle.dh_base.specs.Fractions.{Fraction}
use Rattle.expr_eval.specs.declared.code.Instr.TheVariants as instr
use Rattle.expr_eval.specs.declared.code.Postfix.{Postfix}
use Rattle.expr_eval.specs.declared.value.Value.TheVariants as value
use Rattle.expr_eval.specs.Code.{run, top_value, outcome}
use Rattle.expr_eval.specs.Correct.{form_outcome}
use Rattle.expr_eval.specs.Given.{entry_at}
use Rattle.expr_eval.specs.Meaning.{zero_fraction, value_of_cell}

-- what a form gives that is the load of an item
pub loaded_alone : (form : Postfix) (entries : List (Option Fraction)) (found : Option ℕ) → IfSome found (λ n. form.code.items ≡ instr.Load n ∷ [])
    → IfSome found (λ n. form_outcome form Never entries ≡ value.Number (unwrap_or (entry_at entries n) zero_fraction))
unfolding outcome
loaded_alone form entries None is = tt
loaded_alone form entries (Some n) is = ap (λ code. value_of_cell (top_value (run entries code 0 []))) is
