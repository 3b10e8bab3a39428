use Rattle.std.proofs.Common.{sym, ◌∙◌, ap, cond}
use Rattle.dh_periods.specs.declared.kind.PeriodType.TheVariants.{Daily, Weekly, Monthly, BiMonthly, Quarterly, SixMonthly, SixMonthlyApril, Yearly}
use Rattle.dh_periods.specs.declared.kind.PeriodType.TheVariants.{FinancialApril, FinancialJuly, FinancialOct}
use Rattle.change_log.proofs.TextLengths.{text-length}
use Rattle.change_log.proofs.periods.period_len.Goals as goal

pub returns-in-Daily-clause-value : goal.returns-in-Daily-clause-value
returns-in-Daily-clause-value c = text-length c.args.period Daily (sym c.kind.ensures ∙ c.in-Daily.is)

pub returns-in-Monthly-clause-value : goal.returns-in-Monthly-clause-value
returns-in-Monthly-clause-value c = text-length c.args.period Monthly (sym c.kind.ensures ∙ c.in-Monthly.is)

pub returns-in-BiMonthly-clause-value : goal.returns-in-BiMonthly-clause-value
returns-in-BiMonthly-clause-value c = text-length c.args.period BiMonthly (sym c.kind.ensures ∙ c.in-BiMonthly.is)

pub returns-in-Quarterly-clause-value : goal.returns-in-Quarterly-clause-value
returns-in-Quarterly-clause-value c = text-length c.args.period Quarterly (sym c.kind.ensures ∙ c.in-Quarterly.is)

pub returns-in-SixMonthly-clause-value : goal.returns-in-SixMonthly-clause-value
returns-in-SixMonthly-clause-value c = text-length c.args.period SixMonthly (sym c.kind.ensures ∙ c.in-SixMonthly.is)

pub returns-in-SixMonthlyApril-clause-value : goal.returns-in-SixMonthlyApril-clause-value
returns-in-SixMonthlyApril-clause-value c = text-length c.args.period SixMonthlyApril (sym c.kind.ensures ∙ c.in-SixMonthlyApril.is)

pub returns-in-Yearly-clause-value : goal.returns-in-Yearly-clause-value
returns-in-Yearly-clause-value c = text-length c.args.period Yearly (sym c.kind.ensures ∙ c.in-Yearly.is)

pub returns-in-FinancialApril-clause-value : goal.returns-in-FinancialApril-clause-value
returns-in-FinancialApril-clause-value c = text-length c.args.period FinancialApril (sym c.kind.ensures ∙ c.in-FinancialApril.is)

pub returns-in-FinancialJuly-clause-value : goal.returns-in-FinancialJuly-clause-value
returns-in-FinancialJuly-clause-value c = text-length c.args.period FinancialJuly (sym c.kind.ensures ∙ c.in-FinancialJuly.is)

pub returns-in-FinancialOct-clause-value : goal.returns-in-FinancialOct-clause-value
returns-in-FinancialOct-clause-value c = text-length c.args.period FinancialOct (sym c.kind.ensures ∙ c.in-FinancialOct.is)

pub returns-then-has_one_digit-clause-value : goal.returns-then-has_one_digit-clause-value
returns-then-has_one_digit-clause-value c =
    ap (λ b. cond b 6 7) (sym c.if-has_one_digit.true ∙ c.has_one_digit.ensures) ∙ text-length c.args.period Weekly (sym c.kind.ensures ∙ c.in-Weekly.is)

pub returns-else-has_one_digit-clause-value : goal.returns-else-has_one_digit-clause-value
returns-else-has_one_digit-clause-value c =
    ap (λ b. cond b 6 7) (sym c.if-has_one_digit.false ∙ c.has_one_digit.ensures) ∙ text-length c.args.period Weekly (sym c.kind.ensures ∙ c.in-Weekly.is)
