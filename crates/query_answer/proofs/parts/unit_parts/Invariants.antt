use Rattle.std.proofs.Common.{◌≡◌, take, map}
use Rattle.std.specs.List.{All}
use Rattle.query_answer.specs.Rows.{slots}
use Rattle.query_answer.specs.Parts.{unit_slot, IsUnitPart}
use Rattle.query_answer.proofs.parts.unit_parts.Given as goal

abbrev pub invariant-loop-place : goal.invariant-loop-place
invariant-loop-place l = record {
  slots : map unit_slot l.parts.items ≡ take l.place (slots l.axis.filter l.axis.items);
  seen : All (IsUnitPart l.meta l.seer.user) l.parts.items;
}
