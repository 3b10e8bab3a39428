use Rattle.dh_changes.proofs.IndexLemmas.{empty-holds, empty-linked}
use Rattle.dh_changes.proofs.world.empty_index.Goals as goal

pub returns-clause-nothing : goal.returns-clause-nothing
returns-clause-nothing c =
    empty-holds _ c.new.ensures.empty c.new-2.ensures.empty c.new-3.ensures.empty c.new-4.ensures.empty c.new-5.ensures.empty c.new-6.ensures.empty

pub returns-clause-linked : goal.returns-clause-linked
returns-clause-linked c = empty-linked _ (returns-clause-nothing c)
