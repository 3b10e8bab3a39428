use Rattle.std.specs.Prelude.{◌≡◌}
use Rattle.net_doors.proofs.workers.work.Given as goal

abbrev pub invariant-loop : goal.invariant-loop
invariant-loop g l = (l.share.parts ≡ 1) × (l.share.amount ≡ 0)
