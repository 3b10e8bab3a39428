use Rattle.std.proofs.Common.{◌≡◌, ◌++◌, map, take}
use Rattle.table_rows.specs.RowSamples.{sample_of}
use Rattle.cell_values.proofs.gathered.add_samples.Given as goal

abbrev pub invariant-loop-row : goal.invariant-loop-row
invariant-loop-row l = l.samples.items ≡ l.fn.samples.items ++ map sample_of (take l.row-index l.rows)
