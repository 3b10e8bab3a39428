use Rattle.std.proofs.Common.{◌∙◌, sym, rules}
use Rattle.dh_periods.proofs.OrderLemmas.{derived_order-is, period_order-same}
use Rattle.dh_periods.proofs.period.Period.order.Goals as goal

pub returns-clause-value : goal.returns-clause-value
returns-clause-value c = c.cmp.ensures ∙ derived_order-is c.args.self c.args.other (search rules) (search rules)

pub returns-clause-same : goal.returns-clause-same
returns-clause-same c =
    λ e. period_order-same c.args.self c.args.other (search rules) (search rules) (sym (derived_order-is c.args.self c.args.other (search rules) (search rules))
    ∙ sym c.cmp.ensures ∙ e)
