use Rattle.shared_engine.proofs.UnseenLemmas.{unseen}
use Rattle.shared_engine.proofs.laws.unseen_changes_nothing.Goals as goal

pub returns : goal.returns
returns c = unseen
