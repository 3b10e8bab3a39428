use Rattle.std.proofs.Common.{rules}
use Rattle.change_log.proofs.held.keep.Goals as goal

pub returns-in-Err-Failed : goal.returns-in-Err-Failed
returns-in-Err-Failed c = search rules
