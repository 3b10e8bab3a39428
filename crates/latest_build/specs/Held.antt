-- What keys of values hold in tables, each at its place.
use Rattle.std.specs.Prelude.{cond, List, [], ◌∷◌, Option, None, Some, option_map}
use Rattle.std.specs.List.{filter_map, cons_option}
use Rattle.std.specs.Map.{keys_of, values_of}
use Rattle.dh_changes.specs.declared.keys.ValueKey.{ValueKey}
use Rattle.dh_metadata.specs.declared.held.Records.{Records}
use Rattle.dh_changes.specs.Facts.{Facts}
use Rattle.table_rows.specs.declared.row.Row.{Row}
use Rattle.table_build.specs.declared.values.ValueObjects.{ValueObjects}
use Rattle.table_build.specs.Last.{is_again}
use Rattle.table_build.specs.Ordered.{put_each}
use Rattle.table_build.specs.Values as values
use Rattle.table_latest.specs.declared.places.RowPlace.{RowPlace}
use Rattle.table_latest.specs.Keys.{place_cmp}
use Rattle.latest_build.specs.Places.{value_at}

-- a place, and the row there, if there is one
pub record Held : Type 0 where
  pub place : RowPlace
  pub row : Option Row

abbrev pub place_in : Held → RowPlace
place_in held = held.place

abbrev pub row_in : Held → Option Row
row_in held = held.row

-- the place of a key whose objects have these numbers, and the row of what it holds
unfoldable pub held_with : Records → Facts → ValueKey → ValueObjects → Held
held_with r facts key objects = record {
  place = value_at r facts key objects;
  row = option_map (λ text. values.row_with r facts key text objects) (facts.value key);
}

-- the same of a key whose objects stand in the metadata
unfoldable pub held_at : Records → Facts → ValueKey → Option Held
held_at r facts key = option_map (held_with r facts key) (values.objects_of r key)

-- by ascending places what keys hold
abbrev pub entries_of : List Held → List (RowPlace × Option Row)
entries_of held = put_each place_cmp place_in row_in [] held

abbrev pub places_held : List Held → List RowPlace
places_held held = keys_of (entries_of held)

abbrev pub rows_held : List Held → List Row
rows_held held = filter_map (λ row. row) (values_of (entries_of held))

-- ---- the same of a list in the order of its places, of which each place counts once

abbrev pub place_left : Held → List Held → Option RowPlace
place_left held later = cond (is_again place_cmp place_in held later) None (Some held.place)

abbrev pub row_left : Held → List Held → Option Row
row_left held later = cond (is_again place_cmp place_in held later) None held.row

abbrev pub places_last : List Held → List RowPlace
places_last [] = []
places_last (held ∷ later) = cons_option (place_left held later) (places_last later)

abbrev pub rows_last : List Held → List Row
rows_last [] = []
rows_last (held ∷ later) = cons_option (row_left held later) (rows_last later)
