use Rattle.std.proofs.Common.{◌∙◌, Some, sym, ap}
use Rattle.query_answer.proofs.RowLemmas.{one_period}
use Rattle.query_answer.proofs.body_rows.is_one_period.Goals as goal

pub returns-in-Some-Some : goal.returns-in-Some-Some
returns-in-Some-Some c = λ same.
    c.in-Some-Some.is-0 ∙ ap Some (one_period c.in-Some-Some.one c.in-Some-Some.other (sym c.eq.ensures ∙ same)) ∙ sym c.in-Some-Some.is-1

pub returns-in-None-None : goal.returns-in-None-None
returns-in-None-None c = λ same. c.in-None-None.is-0 ∙ sym c.in-None-None.is-1
