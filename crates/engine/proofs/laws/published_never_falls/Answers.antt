use Rattle.engine.proofs.HistoryLaws.{never-falls}
use Rattle.engine.proofs.laws.published_never_falls.Goals as goal

pub returns : goal.returns
returns c = never-falls
