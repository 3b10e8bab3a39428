use Rattle.std.proofs.Common.{rules}
use Rattle.dh_records.specs.Approved.{approved_at}
use Rattle.dh_records.proofs.approved.approved_at.Goals as goal

pub returns : goal.returns
unfolding approved_at
returns c = search rules
