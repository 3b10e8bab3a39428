use Rattle.std.proofs.Common.{◌≡◌, ◌++◌, map, drop}
use Rattle.table_rows.specs.Cells.{gathered}
use Rattle.table_rows.specs.RowSamples.{sample_of}
use Rattle.cell_values.specs.Parts.{ranged_rows}
use Rattle.cell_values.proofs.gathered.gathered.Given as goal

abbrev pub invariant-loop-group : goal.invariant-loop-group
invariant-loop-group g l =
    l.samples.items ++ map sample_of (gathered (ranged_rows (g.S.RowStore.rows l.store) l.need l.ranges) (drop l.group-index l.groups))
    ≡ map sample_of (gathered (ranged_rows (g.S.RowStore.rows l.store) l.need l.ranges) l.groups)
