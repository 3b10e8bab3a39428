use Rattle.std.specs.Prelude.{◌≡◌}
use Rattle.net_doors.proofs.workers.serve_as.Given as goal

abbrev pub invariant-loop : goal.invariant-loop
invariant-loop g l = (l.share.parts ≡ l.workers) × (l.share.amount ≡ 0)
