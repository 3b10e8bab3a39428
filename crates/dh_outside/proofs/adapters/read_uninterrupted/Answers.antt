use Rattle.std.proofs.Common.{rules}
use Rattle.dh_outside.proofs.adapters.read_uninterrupted.Goals as goal

pub returns-in-Ok-clause-bytes : goal.returns-in-Ok-clause-bytes
returns-in-Ok-clause-bytes g c = search rules
