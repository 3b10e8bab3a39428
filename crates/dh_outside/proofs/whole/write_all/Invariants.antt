use Rattle.std.proofs.Common.{◌≤◌, ◌-◌, length, take}
use Rattle.std.specs.Io.KnownBytes.{Appends}
use Rattle.dh_outside.specs.Talk.{Says}
use Rattle.dh_outside.proofs.whole.write_all.Given as goal

abbrev pub invariant-loop-at : goal.invariant-loop-at
invariant-loop-at g l = record {
  written : Appends (g.O.Sink.written l.initial.sink) (g.O.Sink.written l.sink) (take l.at l.bytes);
  says : Says (g.O.Sink.sink_talk l.initial.sink) (g.O.Sink.sink_talk l.sink) (take l.at l.bytes);
  keeps : g.O.Sink.sink_faults l.initial.sink ≤ g.O.Sink.sink_faults l.sink;
  within : l.at ≤ length l.bytes;
}

abbrev pub decreases-loop-at : goal.decreases-loop-at
decreases-loop-at g l = length l.bytes - l.at
