use Rattle.engine.proofs.HistoryLaws.{in-order}
use Rattle.engine.proofs.laws.histories_are_in_order.Goals as goal

pub returns : goal.returns
returns c = in-order
