-- Rows as samples.
use Rattle.std.specs.Prelude.{ℕ, Bool, ℤ, pos, ◌*ℤ◌, List}
use Rattle.std.specs.List.{filter}
use Rattle.table_rows.specs.declared.row.Row.{Row}
use Rattle.table_rows.specs.declared.row.Group.{Group}
use Rattle.table_rows.specs.Cells.{Part, part_sum}
use Rattle.table_rows.specs.Groups.{groups_of}
use Rattle.table_rows.specs.Sums.{sum_over}
use Rattle.table_rows.specs.declared.sample.Sample.{Sample}
use Rattle.table_rows.specs.Samples.{days_of, total}

-- the sample of a row, whose unit is told by its order
abbrev pub sample_of : Row → Sample
sample_of row = record {
  series = record { element = row.element; combo = row.combo; attribute = row.attribute; unit = row.order };
  period = row.period;
  micros = row.micros;
}

-- over the groups of an element that pass, the sum of each one's parts times the days of its period
abbrev pub weighted_parts : ℕ → (Group → Bool) → (Group → List Part) → List Row → ℤ
weighted_parts element of_group parts rows =
    total (λ (group : Group). (sum_over (part_sum rows group) (parts group)).micros *ℤ pos (days_of group.period)) (filter of_group (groups_of element rows))
