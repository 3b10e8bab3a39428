use Rattle.std.proofs.Common.{◌≡◌, ◌≤◌, ◌-◌, ◌^◌, length, drop}
use Rattle.http_wire.specs.declared.plan.Plan.TheVariants.{Chunked}
use Rattle.http_wire.specs.Reads.{Gathers, IsWaiting}
use Rattle.http_wire.specs.Chunks.{run, at_first, IsSound}
use Rattle.http_wire.proofs.body.read_chunks.Given as goal

abbrev pub invariant-loop-bytes : goal.invariant-loop-bytes
invariant-loop-bytes g l = record {
  gains : Gathers (IsWaiting l.end Chunked) (g.S.Source.left l.initial.source) (g.S.Source.left l.source)
      (g.S.Source.source_talk l.initial.source) (g.S.Source.source_talk l.source) l.initial.bytes.items l.bytes.items l.initial.read l.read;
  runs : run at_first (drop l.end l.bytes.items) ≡ run l.chunks (drop l.at l.bytes.items);
  sound : IsSound l.chunks.place;
  within : l.end ≤ length l.bytes.items;
  at : l.at ≤ length l.bytes.items;
  bound : l.read ≤ 2 ^ 63;
  keeps : g.S.Source.source_faults l.initial.source ≤ g.S.Source.source_faults l.source;
}

abbrev pub decreases-loop-bytes : goal.decreases-loop-bytes
decreases-loop-bytes g l = 2 ^ 63 - l.read
