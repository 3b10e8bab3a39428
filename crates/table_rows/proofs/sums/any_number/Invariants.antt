use Rattle.std.proofs.Common.{◌≡◌, take, false}
use Rattle.std.specs.List.{list_any}
use Rattle.table_rows.specs.Samples.{has_number}
use Rattle.table_rows.proofs.sums.any_number.Given as goal

abbrev pub invariant-loop-sample : goal.invariant-loop-sample
invariant-loop-sample l = list_any has_number (take l.sample-index l.samples) ≡ false
