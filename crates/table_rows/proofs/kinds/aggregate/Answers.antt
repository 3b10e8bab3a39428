use Rattle.std.proofs.Common.{◌∙◌, ap, sym}
use Rattle.table_rows.specs.Values.{value_by}
use Rattle.table_rows.proofs.SumValueLemmas.{value_by-Sum, value_by-Average, value_by-Count}
use Rattle.table_rows.proofs.kinds.aggregate.Goals as goal

pub returns-in-Sum : goal.returns-in-Sum
returns-in-Sum c =
    c.value_by_sum.ensures ∙ sym (ap (λ kind. value_by kind c.args.samples.now c.args.days) c.in-Sum.is ∙ value_by-Sum c.args.samples.now c.args.days)

pub returns-in-Average : goal.returns-in-Average
returns-in-Average c =
    c.value_by_sum-in-Average.ensures
    ∙ sym (ap (λ kind. value_by kind c.args.samples.now c.args.days) c.in-Average.is ∙ value_by-Average c.args.samples.now c.args.days)

pub returns-in-Count : goal.returns-in-Count
returns-in-Count c =
    c.value_by_sum-in-Count.ensures
    ∙ sym (ap (λ kind. value_by kind c.args.samples.now c.args.days) c.in-Count.is ∙ value_by-Count c.args.samples.now c.args.days)
