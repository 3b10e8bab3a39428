use Rattle.std.proofs.Common.{◌∙◌, ap}
use Rattle.dh_changes.specs.Holds.{contents}
use Rattle.dh_changes.specs.Facts.{facts_of}
use Rattle.dh_changes.proofs.FactsLemmas.{facts-from_same}
use Rattle.dh_changes.proofs.world.World.reserve.Goals as goal

pub returns-clause-same : goal.returns-clause-same
unfolding Rattle.dh_changes.specs.World.facts
returns-clause-same c =
    facts-from_same (contents c.reserve_in.new.index) (contents c.self.inside.index) c.reserve_in.ensures.same ∙ ap (λ w. facts_of w.held) c.self.view_is
