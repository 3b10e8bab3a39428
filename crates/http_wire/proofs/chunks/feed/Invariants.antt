use Rattle.std.proofs.Common.{◌≡◌, ◌≤◌, ◌-◌, drop, length}
use Rattle.http_wire.specs.Chunks.{run, IsSound}
use Rattle.http_wire.proofs.chunks.feed.Given as goal

abbrev pub invariant-loop-from : goal.invariant-loop-from
invariant-loop-from l = record {
  runs : run l.initial.chunks l.bytes ≡ run l.chunks (drop l.from l.bytes);
  sound : IsSound l.chunks.place;
  within : l.from ≤ length l.bytes;
}

abbrev pub decreases-loop-from : goal.decreases-loop-from
decreases-loop-from l = length l.bytes - l.from
