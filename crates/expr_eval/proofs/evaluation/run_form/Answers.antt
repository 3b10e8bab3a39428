use Rattle.std.proofs.Common.{◌∙◌, [], sym, ap}
use Rattle.std.specs.Option.{unwrap_or}
use Rattle.dh_base.specs.Fractions.{Fraction}
use Rattle.expr_eval.specs.declared.value.Value.TheVariants as value
use Rattle.expr_eval.specs.Meaning.{value_of_cell}
use Rattle.expr_eval.specs.Given.{entry_at}
use Rattle.expr_eval.specs.Code.{run, top_value}
use Rattle.expr_eval.proofs.evaluation.run_form.Goals as goal

pub returns-in-Some : goal.returns-in-Some
returns-in-Some c =
    let entries = c.args.entries.now in
    ap (λ (number : Fraction). value.Number number)
    (c.unwrap_or.ensures ∙ ap (λ entry. unwrap_or entry c.zero.result) c.entry.ensures ∙ ap (unwrap_or (entry_at entries c.in-Some.n)) c.zero.ensures)
    ∙ ap (λ code. value_of_cell (top_value (run entries code 0 []))) (sym c.in-Some.ensures)
