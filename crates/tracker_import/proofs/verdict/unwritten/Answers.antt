use Rattle.std.proofs.Common.{rules}
use Rattle.tracker_import.proofs.verdict.unwritten.Goals as goal

pub returns : goal.returns
returns c = search rules
