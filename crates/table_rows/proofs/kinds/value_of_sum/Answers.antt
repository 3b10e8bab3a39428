use Rattle.std.proofs.Common.{rules}
use Rattle.table_rows.proofs.kinds.value_of_sum.Goals as goal

pub mean-requires-clause-some : goal.mean-requires-clause-some
mean-requires-clause-some c = search rules

pub returns-else-sum-eq0-2 : goal.returns-else-sum-eq0-2
returns-else-sum-eq0-2 c = search rules
