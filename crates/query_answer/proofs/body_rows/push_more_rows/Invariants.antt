use Rattle.std.proofs.Common.{◌≡◌, ◌++◌, take}
use Rattle.std.specs.List.{flat_map}
use Rattle.query_answer.specs.Written.{IsStart, more_row}
use Rattle.query_answer.proofs.body_rows.push_more_rows.Given as goal

abbrev pub invariant-loop-row : goal.invariant-loop-row
invariant-loop-row l = record {
  start : IsStart l.dx l.start;
  text : l.text.items ≡ l.initial.text.items ++ flat_map (more_row l.meta l.dx) (take l.row-index l.rows);
}
