use Rattle.std.proofs.Common.{◌≤◌, ◌-◌, ◌^◌}
use Rattle.http_wire.specs.Lines.{IsPassed}
use Rattle.http_wire.specs.Reads.{Skims}
use Rattle.http_wire.proofs.front.find_head.Given as goal

abbrev pub invariant-loop-opening : goal.invariant-loop-opening
invariant-loop-opening g l = record {
  skims : Skims (g.S.Source.left l.initial.source) (g.S.Source.left l.source) (g.S.Source.source_talk l.initial.source) (g.S.Source.source_talk l.source)
      l.initial.bytes.items l.bytes.items l.initial.read l.read;
  passed : IsPassed l.bytes.items l.from;
  bound : l.read ≤ 2 ^ 63;
  keeps : g.S.Source.source_faults l.initial.source ≤ g.S.Source.source_faults l.source;
}

abbrev pub decreases-loop-opening : goal.decreases-loop-opening
decreases-loop-opening g l = 2 ^ 63 - l.read
