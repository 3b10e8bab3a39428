use Rattle.std.proofs.Common.{◌≡◌, ◌∙◌, ap, map, rules}
use Rattle.expr_lang.specs.Expr.{items_in}
use Rattle.query_answer.specs.Value.{value_over}
use Rattle.query_answer.proofs.ValueLaws.{value_over-is}
use Rattle.query_answer.proofs.sides.indicator_value.Goals as goal

pub returns-clause-meaning : goal.returns-clause-meaning
unfolding value_over
returns-clause-meaning c r indicator value are over under =
    let is : c.combine.result ≡ value_over c.args.sides.now c.args.days c.args.numerator.now c.args.denominator.now = search rules in
    is
    ∙ ap (λ entries. value_over c.args.sides.now c.args.days entries c.args.denominator.now) over
    ∙ ap (λ entries. value_over c.args.sides.now c.args.days (map value (items_in indicator.numerator)) entries) under
    ∙ value_over-is r indicator c.args.sides.now value c.args.days are
