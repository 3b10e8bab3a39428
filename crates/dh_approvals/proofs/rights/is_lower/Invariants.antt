use Rattle.std.proofs.Common.{◌≡◌, drop}
use Rattle.dh_approvals.specs.Rights.{is_lower}
use Rattle.dh_approvals.proofs.rights.is_lower.Given as goal

abbrev pub invariant-loop-capture : goal.invariant-loop-capture
invariant-loop-capture l = is_lower l.tree l.captures l.unit ≡ is_lower l.tree (drop l.capture-index l.captures) l.unit
