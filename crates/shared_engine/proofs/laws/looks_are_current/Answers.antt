use Rattle.shared_engine.proofs.Growth.{current}
use Rattle.shared_engine.proofs.laws.looks_are_current.Goals as goal

pub returns : goal.returns
returns c = current
