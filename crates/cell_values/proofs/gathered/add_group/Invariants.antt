use Rattle.std.proofs.Common.{◌≡◌, ◌++◌, map, drop}
use Rattle.table_rows.specs.RowSamples.{sample_of}
use Rattle.cell_values.specs.Parts.{ranged_rows}
use Rattle.cell_values.proofs.gathered.add_group.Given as goal

abbrev pub invariant-loop-range : goal.invariant-loop-range
invariant-loop-range g l =
    l.samples.items ++ map sample_of (ranged_rows (g.S.RowStore.rows l.store) l.need (drop l.range-index l.ranges) l.group)
    ≡ l.fn.samples.items ++ map sample_of (ranged_rows (g.S.RowStore.rows l.store) l.need l.ranges l.group)
