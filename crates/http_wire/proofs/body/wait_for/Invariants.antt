use Rattle.std.proofs.Common.{◌≤◌, ◌-◌, ◌^◌, length}
use Rattle.http_wire.specs.Reads.{Gathers, IsShort}
use Rattle.http_wire.proofs.body.wait_for.Given as goal

abbrev pub invariant-loop-source : goal.invariant-loop-source
invariant-loop-source g l = record {
  gains : Gathers (IsShort l.end l.count) (g.S.Source.left l.initial.source) (g.S.Source.left l.source)
      (g.S.Source.source_talk l.initial.source) (g.S.Source.source_talk l.source) l.initial.bytes.items l.bytes.items l.initial.read l.read;
  within : l.end ≤ length l.bytes.items;
  bound : l.read ≤ 2 ^ 63;
  keeps : g.S.Source.source_faults l.initial.source ≤ g.S.Source.source_faults l.source;
}

abbrev pub decreases-loop-source : goal.decreases-loop-source
decreases-loop-source g l = 2 ^ 63 - l.read
