use Rattle.std.proofs.Common.{rules}
use Rattle.tracker_import.proofs.batch.refuse.Goals as goal

pub returns : goal.returns
returns c = search rules
