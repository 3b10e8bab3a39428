-- A latest part, and what it makes of the tables that it is laid over.
use Rattle.std.specs.Prelude.{◌≡◌, ℕ, ℤ, Bool, true, not, ◌&&◌, nat_lt, List, ◌++◌}
use Rattle.std.specs.Cmp.Lexicographic.{slice_cmp}
use Rattle.std.specs.List.{filter, list_all, list_any}
use Rattle.std.specs.List.Sorted.{IsStrictlySortedBy}
use Rattle.std.specs.Ordering.{nat_cmp}
use Rattle.std.specs.declared.cmp.Ordering.{Ordering}
use Rattle.table_rows.specs.declared.row.Row.{Row}
use Rattle.table_rows.specs.declared.row.Group.{Group}
use Rattle.table_rows.specs.declared.event.EventRow.{EventRow}
use Rattle.table_rows.specs.declared.event.RegRow.{RegRow}
use Rattle.table_rows.specs.Events.{event_cmp, reg_cmp}
use Rattle.table_rows.specs.Order.{row_cmp, group_cmp}
use Rattle.table_rows.specs.Rows.{is_in_group}
use Rattle.table_rows.specs.Store.{Contents, Listed, contents_in, is_store}
use Rattle.table_sums.specs.Ascending.{ascending}
use Rattle.table_latest.specs.declared.places.RowPlace.{RowPlace}
use Rattle.table_latest.specs.declared.places.RegPlace.{RegPlace}
use Rattle.table_latest.specs.declared.latest.TouchedKeys.{TouchedKeys}
use Rattle.table_latest.specs.Keys.{place_of, place_cmp, reg_place_of, reg_place_cmp, is_among}

-- the keys that were touched, each list in its order
pub record Touched : Type 0 where
  pub rows : List RowPlace
  pub events : List (List ℕ)
  pub regs : List RegPlace

abbrev pub touched_in : TouchedKeys → Touched
touched_in keys = record { rows = keys.rows.items; events = keys.events.items; regs = keys.regs.items }

-- what the touched keys hold now; a touched key without a row is gone
pub record LatestPart : Type 0 where
  pub touched : Touched
  pub holds : Contents
  pub from : ℕ
  pub to : ℕ

pub record AreInOrder (touched : Touched) : Type 0 where
  pub rows : IsStrictlySortedBy place_cmp touched.rows
  pub events : IsStrictlySortedBy (slice_cmp nat_cmp) touched.events
  pub regs : IsStrictlySortedBy reg_place_cmp touched.regs

abbrev pub is_row_touched : Touched → Row → Bool
is_row_touched touched row = is_among place_cmp touched.rows (place_of row)

abbrev pub is_event_touched : Touched → EventRow → Bool
is_event_touched touched event = is_among (slice_cmp nat_cmp) touched.events event.id

abbrev pub is_reg_touched : Touched → RegRow → Bool
is_reg_touched touched reg = is_among reg_place_cmp touched.regs (reg_place_of reg)

-- the members that aren't touched
abbrev pub untouched : {X : Type 0} → (X → Bool) → List X → List X
untouched touched xs = filter (λ x. not (touched x)) xs

abbrev pub untouched_rows : List RowPlace → List Row → List Row
untouched_rows places rows = untouched (λ row. is_among place_cmp places (place_of row)) rows

-- and those that are
abbrev pub touched_rows : List RowPlace → List Row → List Row
touched_rows places rows = filter (λ row. is_among place_cmp places (place_of row)) rows

-- a list without what is touched, and with what stands there now, in its order
abbrev pub laid_over : {X : Type 0} → (X → X → Ordering) → (X → Bool) → List X → List X → List X
laid_over cmp touched base now = ascending cmp (untouched touched base ++ now)

abbrev pub rows_over : Contents → LatestPart → List Row
rows_over base latest = laid_over row_cmp (is_row_touched latest.touched) base.rows latest.holds.rows

abbrev pub events_over : Contents → LatestPart → List EventRow
events_over base latest = laid_over event_cmp (is_event_touched latest.touched) base.events latest.holds.events

abbrev pub regs_over : Contents → LatestPart → List RegRow
regs_over base latest = laid_over reg_cmp (is_reg_touched latest.touched) base.regs latest.holds.regs

-- what tables hold with a latest part over them
abbrev pub overlaid : Contents → LatestPart → Contents
overlaid base latest = record { rows = rows_over base latest; events = events_over base latest; regs = regs_over base latest }

abbrev pub listed_from : List Row → List EventRow → List RegRow → List ℤ → Listed
listed_from rows events regs years = record { rows = rows; events = events; regs = regs; years = years }

-- a group stays where it has an untouched row and isn't among those of the latest part
abbrev pub is_kept_group : List Row → List Group → Group → Bool
is_kept_group kept now group = list_any (is_in_group group) kept && not (is_among group_cmp now group)

-- a row lies in the range of orders from 0 up to below the largest number
abbrev pub is_in_reach : Row → Bool
is_in_reach row = nat_lt row.order 4294967295

-- tables and a latest part over them
pub record Overlaid : Type 0 where
  pub base : Listed
  pub latest : LatestPart

-- together they are the lists of a store, whose years are those of the base
pub record IsOverlay (base : Listed) (latest : LatestPart) : Type 0 where
  pub store : is_store (rows_over (contents_in base) latest) (events_over (contents_in base) latest) (regs_over (contents_in base) latest) base.years ≡ true
  pub reach : list_all is_in_reach base.rows ≡ true
