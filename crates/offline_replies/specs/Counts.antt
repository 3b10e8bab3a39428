-- How many rows there are of an element.
use Rattle.std.specs.Prelude.{ℕ, ◌&&◌, List, length}
use Rattle.std.specs.List.{filter}
use Rattle.dh_base.specs.declared.plain.Need.TheVariants.{All}
use Rattle.table_rows.specs.declared.row.Group.{Group}
use Rattle.table_rows.specs.declared.row.Row.{Row}
use Rattle.table_rows.specs.declared.sum.Sum.{Sum}
use Rattle.table_rows.specs.Rows.{is_of_element, in_range, wanted_rows}
use Rattle.table_rows.specs.Sums.{sum_of_rows}

-- the rows of an element at the first so many units in the order of the tree
unfoldable pub rows_counted : ℕ → ℕ → List Row → ℕ
rows_counted element end rows = length (filter (λ row. is_of_element element row && in_range 0 end row) rows)

-- the sum of those of a group
unfoldable pub group_sum : List Row → ℕ → Group → Sum
group_sum rows end group = sum_of_rows (wanted_rows group All 0 end rows)
