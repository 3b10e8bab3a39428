-- The rows of an answer, in the order of dx, then periods, then units.
use Rattle.std.specs.Prelude.{ℕ, ◌+◌, Bool, true, false, List, [], ◌∷◌, ◌++◌, map, flat_map, Option, Some, None}
use Rattle.std.specs.List.{list_any}
use Rattle.dh_periods.specs.declared.name.PeriodName.{PeriodName}
use Rattle.dh_metadata.specs.declared.held.Records.{Records}
use Rattle.cell_values.specs.Seen.{SeenRecords}
use Rattle.query_answer.specs.declared.arithmetic.CellValue.{CellValue}
use Rattle.query_answer.specs.declared.arithmetic.CellValue.TheVariants as cell
use Rattle.query_lang.specs.declared.plain.Dx.{Dx}
use Rattle.query_lang.specs.declared.plain.Query.{Query}
use Rattle.query_answer.specs.declared.body_rows.AnswerRow.{AnswerRow}
use Rattle.query_answer.specs.Cells.{cell_value, is_wide, value_text}

-- what a cell takes of periods or of units, and what its row tells of them
pub record Slot (T : Type 0) : Type 0 where
  pub label : Option T
  pub items : List T

abbrev pub slot_of : {T : Type 0} → Option T → List T → Slot T
slot_of label items = record { label = label; items = items }

-- all together and without a label where they are a filter, and else each alone
abbrev pub alone : {T : Type 0} → T → Slot T
alone x = record { label = Some x; items = x ∷ [] }

abbrev pub slots : {T : Type 0} → Bool → List T → List (Slot T)
slots true items = record { label = None; items = items } ∷ []
slots false items = map alone items

abbrev pub period_slots : Query → List (Slot PeriodName)
period_slots query = slots query.periods.filter query.periods.items

abbrev pub unit_slots : Query → List (Slot ℕ)
unit_slots query = slots query.units.filter query.units.items

-- the row of a value; a cell without a value has none
abbrev pub row_with : Records → ℕ → Dx → Slot PeriodName → Slot ℕ → CellValue → List AnswerRow
row_with r place dx period unit (cell.Number x) =
    record { dx = place; period = period.label; unit = unit.label; value = value_text r dx x } ∷ []
row_with r place dx period unit _ = []

abbrev pub slot_value : Records → SeenRecords → Dx → Slot PeriodName → Slot ℕ → CellValue
slot_value r shown dx period unit = cell_value r shown dx period.items unit.items

-- the cell is too wide
unfoldable pub unit_is_wide : Records → SeenRecords → Dx → Slot PeriodName → Slot ℕ → Bool
unit_is_wide r shown dx period unit = is_wide (slot_value r shown dx period unit)

unfoldable pub unit_rows : Records → SeenRecords → ℕ → Dx → Slot PeriodName → Slot ℕ → List AnswerRow
unit_rows r shown place dx period unit = row_with r place dx period unit (slot_value r shown dx period unit)

-- some cell of these units is too wide
unfoldable pub period_is_wide : Records → SeenRecords → Dx → List (Slot ℕ) → Slot PeriodName → Bool
period_is_wide r shown dx units period = list_any (unit_is_wide r shown dx period) units

unfoldable pub period_rows : Records → SeenRecords → ℕ → Dx → List (Slot ℕ) → Slot PeriodName → List AnswerRow
period_rows r shown place dx units period = flat_map (unit_rows r shown place dx period) units

-- some cell of the dx item is too wide
unfoldable pub dx_is_wide : Records → SeenRecords → Query → Dx → Bool
dx_is_wide r shown query dx = list_any (period_is_wide r shown dx (unit_slots query)) (period_slots query)

unfoldable pub dx_rows : Records → SeenRecords → Query → ℕ → Dx → List AnswerRow
dx_rows r shown query place dx = flat_map (period_rows r shown place dx (unit_slots query)) (period_slots query)

-- the rows of dx items from a place on
abbrev pub rows_from : Records → SeenRecords → Query → ℕ → List Dx → List AnswerRow
rows_from r shown query place [] = []
rows_from r shown query place (dx ∷ more) = dx_rows r shown query place dx ++ rows_from r shown query (place + 1) more
