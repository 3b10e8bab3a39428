use Rattle.dh_changes.specs.Holds.{contents}
use Rattle.dh_changes.proofs.FactsLemmas.{facts-from_empty}
use Rattle.dh_changes.proofs.world.World.new.Goals as goal

pub returns-clause-nothing : goal.returns-clause-nothing
unfolding Rattle.dh_changes.specs.World.facts
returns-clause-nothing c = facts-from_empty (contents c.empty_index.result) c.empty_index.ensures.nothing
