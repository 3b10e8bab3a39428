use Rattle.std.proofs.Common.{◌≡◌, take, map}
use Rattle.query_answer.specs.Rows.{slots}
use Rattle.query_answer.specs.Parts.{period_slot}
use Rattle.query_answer.proofs.parts.period_parts.Given as goal

abbrev pub invariant-loop-place : goal.invariant-loop-place
invariant-loop-place l = map period_slot l.parts.items ≡ take l.place (slots l.axis.filter l.axis.items)
