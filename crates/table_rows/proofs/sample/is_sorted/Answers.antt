use Rattle.std.proofs.Common.{◌∙◌, sym}
use Rattle.table_rows.proofs.SumValueLemmas.{in_series_order-from_rises}
use Rattle.table_rows.proofs.sample.is_sorted.Goals as goal

pub returns-clause-order : goal.returns-clause-order
returns-clause-order c is = in_series_order-from_rises c.args.samples.now (sym c.rise.ensures ∙ is)
