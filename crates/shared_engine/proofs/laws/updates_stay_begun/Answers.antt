use Rattle.shared_engine.proofs.Growth.{updates_stay}
use Rattle.shared_engine.proofs.laws.updates_stay_begun.Goals as goal

pub returns : goal.returns
returns c = updates_stay
