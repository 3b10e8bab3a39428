use Rattle.std.proofs.Common.{◌≡◌, map, take}
use Rattle.serde_json.specs.View.{view}
use Rattle.engine.specs.Report.{error_of}
use Rattle.engine.proofs.report.error_values.Given as goal

abbrev pub invariant-loop-conflict : goal.invariant-loop-conflict
invariant-loop-conflict l = map view l.values.items ≡ map error_of (take l.conflict-index l.conflicts)
