use Rattle.std.proofs.Common.{subst}
use Rattle.org_tree.specs.Units.{IsTree}
use Rattle.latest_build.proofs.KeptLemmas.{units-count, units-tree}
use Rattle.latest_build.proofs.build.units_stand.Goals as goal

pub returns-clause-tree : goal.returns-clause-tree
returns-clause-tree c = λ log. units-tree c.args.meta.now log (subst IsTree c.tree.ensures c.count-units.ensures.tree)

pub returns-clause-numbers : goal.returns-clause-numbers
returns-clause-numbers c = λ log. units-count c.args.meta.now log
