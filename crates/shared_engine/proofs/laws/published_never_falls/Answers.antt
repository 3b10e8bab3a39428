use Rattle.shared_engine.proofs.Growth.{rises}
use Rattle.shared_engine.proofs.laws.published_never_falls.Goals as goal

pub returns : goal.returns
returns c = rises
