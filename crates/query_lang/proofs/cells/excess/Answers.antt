use Rattle.std.proofs.Common.{rules}
use Rattle.query_lang.specs.Query.{within}
use Rattle.query_lang.proofs.cells.excess.Goals as goal

pub returns-clause-none : goal.returns-clause-none
unfolding within
returns-clause-none c = search rules
