use Rattle.std.proofs.Common.{◌≡◌, ◌-◌, drop, length}
use Rattle.http_wire.specs.Lines.{head_length, shifted}
use Rattle.http_wire.proofs.lines.head_length.Given as goal

abbrev pub invariant-loop-at : goal.invariant-loop-at
invariant-loop-at l = head_length l.bytes ≡ shifted l.at (head_length (drop l.at l.bytes))

abbrev pub decreases-loop-at : goal.decreases-loop-at
decreases-loop-at l = length l.bytes - l.at
