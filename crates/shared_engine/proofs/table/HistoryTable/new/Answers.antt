use Rattle.std.proofs.Common.{[]}
use Rattle.shared_engine.proofs.Moves.{begins}
use Rattle.shared_engine.proofs.table.HistoryTable.new.Goals as goal

pub of_words-requires : goal.of_words-requires
of_words-requires g c = begins g.E.Recorded.caller g.E.Recorded.named []
