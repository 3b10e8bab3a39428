-- The rows of a group in a range of orders, position by position.
use Rattle.std.specs.Prelude.{◌≡◌, ℕ, Bool, ◌&&◌, nat_lt, max, List}
use Rattle.std.specs.List.{filter}
use Rattle.dh_base.specs.declared.plain.Need.{Need}
use Rattle.dh_base.specs.declared.plain.Need.TheVariants as need
use Rattle.table_rows.specs.declared.row.Row.{Row}
use Rattle.table_rows.specs.declared.row.RowKey.{RowKey}
use Rattle.table_rows.specs.Rows.{is_in_group, in_range, position_of, wanted_rows}
use Rattle.table_sums.specs.declared.search.Bound.{Bound}
use Rattle.table_sums.specs.declared.search.Bound.TheVariants as bound
use Rattle.table_sums.specs.Bounds.{is_before, IsCut}
use Rattle.table_sums.specs.Running.{ArePlaced}
use Rattle.table_sums.specs.declared.range.Part.{Part}

abbrev pub key_at : Part → ℕ → ℕ → RowKey
key_at part position order = record { group = part.group; position = position; order = order }

-- a row of the group lies in the range, at an approved position below this one
abbrev pub is_upto : Part → ℕ → Row → Bool
is_upto part positions row = is_in_group part.group row && (nat_lt (position_of row.approved) positions && in_range part.from part.to row)

abbrev pub bound_of : Part → ℕ → ℕ → Bound
bound_of part position order = bound.Key (key_at part position order)

-- where the rows of the part at a position begin and end
pub record IsRun (part : Part) (position : ℕ) (rows : List Row) (low high : ℕ) : Type 0 where
  pub starts : IsCut (is_before (bound_of part position part.from)) rows low
  pub ends : IsCut (is_before (bound_of part position (max part.to part.from))) rows high

-- below so many positions stand the rows that meet a need or, where all rows do, those that have a position
abbrev pub AreEnough : Need → List Row → ℕ → Type 0
AreEnough need.All rows positions = ArePlaced rows positions
AreEnough (need.Upto most) rows positions =
    (part : Part) → filter (is_upto part positions) rows ≡ wanted_rows part.group (need.Upto most) part.from part.to rows
