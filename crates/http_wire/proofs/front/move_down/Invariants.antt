use Rattle.std.proofs.Common.{◌≡◌, ◌<◌, ◌≤◌, ◌+◌, ℕ, length, get_or}
use Rattle.http_wire.proofs.front.move_down.Given as goal

abbrev pub invariant-loop-at : goal.invariant-loop-at
invariant-loop-at l = record {
  moved : (k : ℕ) → k < l.at → get_or l.bytes k 0 ≡ get_or l.initial.bytes (l.from + k) 0;
  kept : (k : ℕ) → l.at ≤ k → get_or l.bytes k 0 ≡ get_or l.initial.bytes k 0;
  len : length l.bytes ≡ length l.initial.bytes;
}
