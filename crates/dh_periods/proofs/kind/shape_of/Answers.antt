use Rattle.std.proofs.Common.{rules}
use Rattle.dh_periods.proofs.kind.shape_of.Goals as goal

pub returns-in-FinancialOct-clause-value : goal.returns-in-FinancialOct-clause-value
returns-in-FinancialOct-clause-value c = search rules
