use Rattle.std.proofs.Common.{◌≡◌, map, take}
use Rattle.serde_json.specs.View.{view}
use Rattle.engine.specs.Summary.{conflict_of}
use Rattle.engine.proofs.summary.conflict_values.Given as goal

abbrev pub invariant-loop-conflict : goal.invariant-loop-conflict
invariant-loop-conflict l = map view l.values.items ≡ map conflict_of (take l.conflict-index l.conflicts)
