use Rattle.engine.proofs.HistoryLaws.{published}
use Rattle.engine.proofs.laws.published_was_swapped.Goals as goal

pub returns : goal.returns
returns c = published
