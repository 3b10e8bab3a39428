use Rattle.std.proofs.Common.{◌≡◌, take, map}
use Rattle.serde_json.specs.View.{view}
use Rattle.validation.specs.Body.{violations_of}
use Rattle.validation.proofs.body_text.violation_values.Given as goal

abbrev pub invariant-loop-each : goal.invariant-loop-each
invariant-loop-each l = map view l.list.items ≡ violations_of l.meta (take l.each-index l.violations)
