-- What writes put at the places of values' rows, the later ones over those before.
use Rattle.std.specs.Prelude.{ℕ, ℤ, Bool, true, cond, List, [], ◌∷◌, Option, None, Some, option_map}
use Rattle.std.specs.List.{filter_map, cons_option}
use Rattle.std.specs.Map.{values_of}
use Rattle.dh_changes.specs.declared.change.Write.{Write}
use Rattle.dh_changes.specs.declared.change.Write.TheVariants as write
use Rattle.dh_changes.specs.declared.keys.ValueKey.{ValueKey}
use Rattle.dh_metadata.specs.declared.held.Records.{Records}
use Rattle.dh_changes.specs.Facts.{Facts}
use Rattle.table_rows.specs.declared.row.Row.{Row}
use Rattle.table_rows.specs.declared.row.RowKey.{RowKey}
use Rattle.table_rows.specs.Rows.{key_of}
use Rattle.table_rows.specs.Order.{key_cmp}
use Rattle.table_build.specs.declared.values.ValueObjects.{ValueObjects}
use Rattle.table_build.specs.InYear.{is_value_key_in}
use Rattle.table_build.specs.Last.{is_again}
use Rattle.table_build.specs.Ordered.{put_each}
use Rattle.table_build.specs.Values.{objects_of, row_with}

-- what a write puts at a place: a row, or none where the value is cleared
pub record Placed : Type 0 where
  pub place : RowKey
  pub row : Option Row

-- a key is of the year that is asked for, or all are
abbrev pub is_wanted : Option ℤ → ValueKey → Bool
is_wanted None key = true
is_wanted (Some year) key = is_value_key_in year key

-- the place of a key's row and what a text puts there: a row, or none where the value is cleared
unfoldable pub placed_with : Records → Facts → ValueKey → Option (List ℕ) → ValueObjects → Placed
placed_with r facts key text objects = record {
  place = key_of (row_with r facts key [] objects);
  row = option_map (λ t. row_with r facts key t objects) text;
}

-- the same of a key that is wanted, whose objects stand in the metadata
unfoldable pub placed_at : Records → Facts → Option ℤ → ValueKey → Option (List ℕ) → Option Placed
placed_at r facts year key text = cond (is_wanted year key) (option_map (placed_with r facts key text) (objects_of r key)) None

-- what a write puts at the place of a value's row
unfoldable pub placed_by : Records → Facts → Option ℤ → Write → Option Placed
placed_by r facts year (write.ValueSet key text) = placed_at r facts year key (Some text)
placed_by r facts year (write.ValueCleared key) = placed_at r facts year key None
placed_by r facts year _ = None

abbrev pub put_placed : List (RowKey × Option Row) → List Placed → List (RowKey × Option Row)
put_placed entries placed = put_each key_cmp (λ (p : Placed). p.place) (λ (p : Placed). p.row) entries placed

-- the row that stands at the place of the first of a list in the order of its places, after all of the list
abbrev pub row_left : Placed → List Placed → Option Row
row_left placed later = cond (is_again key_cmp (λ (p : Placed). p.place) placed later) None placed.row

-- the rows that a list in the order of its places leaves
abbrev pub rows_last : List Placed → List Row
rows_last [] = []
rows_last (placed ∷ later) = cons_option (row_left placed later) (rows_last later)

-- the rows that stand at their places after the writes
unfoldable pub rows_placed : Records → Facts → Option ℤ → List Write → List Row
rows_placed r facts year writes = filter_map (λ row. row) (values_of (put_placed [] (filter_map (placed_by r facts year) writes)))
