-- The value of a cell.
use Rattle.std.specs.Prelude.{ℕ, Bool, true, false, ℤ, unsigned_abs, min, List, Option, Some, None, slice_get}
use Rattle.std.specs.Option.{option_map_or}
use Rattle.dh_base.specs.Decimals.{printed}
use Rattle.dh_base.specs.Fractions.{Fraction}
use Rattle.dh_base.specs.declared.plain.Rate.{Rate}
use Rattle.dh_periods.specs.declared.name.PeriodName.{PeriodName}
use Rattle.dh_metadata.specs.declared.held.Records.{Records}
use Rattle.dh_metadata.specs.declared.records.Indicator.{Indicator}
use Rattle.dh_metadata.specs.declared.records.ProgramIndicator.{ProgramIndicator}
use Rattle.table_rows.specs.declared.event.EventRow.{EventRow}
use Rattle.table_rows.specs.declared.event.RegRow.{RegRow}
use Rattle.table_rows.specs.declared.sample.Sample.{Sample}
use Rattle.cell_values.specs.Reporting.{rate_of}
use Rattle.program_cells.specs.Value.{ProgramValue, Number, NoValue, Wide}
use Rattle.program_cells.specs.Cells.{cell_value as program_value}
use Rattle.cell_values.specs.Seen.{SeenRecords}
use Rattle.cell_values.specs.Cells.{cell_of, aggregate_of, days_in}
use Rattle.cell_values.specs.Items.{item_value_of}
use Rattle.query_answer.specs.declared.arithmetic.CellValue.{CellValue}
use Rattle.query_answer.specs.declared.arithmetic.CellValue.TheVariants as cell
use Rattle.query_answer.specs.Value.{indicator_value_of}
use Rattle.query_lang.specs.declared.plain.Dx.{Dx}
use Rattle.query_lang.specs.declared.plain.DxKind.{DxKind}
use Rattle.query_lang.specs.declared.plain.DxKind.TheVariants as dx_kind

abbrev pub of_option : Option Fraction → CellValue
of_option None = cell.None
of_option (Some x) = cell.Number x

-- a data element's cell is its aggregate, of the operand's option combination alone where there is one
unfoldable pub element_cell : Records → List Sample → ℕ → Option ℕ → List PeriodName → List ℕ → CellValue
element_cell r samples element part periods units = of_option (aggregate_of r samples (cell_of element part None periods units false))

-- an indicator's cell is its value by the values of its items in the cell
unfoldable pub indicator_cell : Records → SeenRecords → Indicator → List PeriodName → List ℕ → CellValue
indicator_cell r shown indicator periods units =
    indicator_value_of r (λ item. item_value_of r shown item periods units false) (days_in periods) indicator

abbrev pub of_program : ProgramValue → CellValue
of_program (Number x) = cell.Number x
of_program NoValue = cell.None
of_program Wide = cell.Wide

-- a program indicator's cell is its value over the events of its program in the cell, or over the enrollments
unfoldable pub program_cell : Records → List EventRow → ℕ → List PeriodName → List ℕ → CellValue
program_cell r events n periods units = of_program (program_value r n periods units events)

-- a rate's cell is that of the registrations
unfoldable pub rate_cell : Records → List RegRow → Rate → ℕ → List PeriodName → List ℕ → CellValue
rate_cell r regs which set periods units = of_option (rate_of r which set periods units regs false)

abbrev pub cell_by : Records → SeenRecords → DxKind → ℕ → Option ℕ → List PeriodName → List ℕ → CellValue
cell_by r shown dx_kind.Element n part periods units = element_cell r shown.samples n part periods units
cell_by r shown dx_kind.Indicator n part periods units =
    option_map_or (λ indicator. indicator_cell r shown indicator periods units) (slice_get r.indicators n) cell.None
cell_by r shown (dx_kind.Rate which) n part periods units = rate_cell r shown.regs which n periods units
cell_by r shown dx_kind.ProgramIndicator n part periods units = program_cell r shown.events n periods units

-- the value of a dx item over the seen records in some periods and under some units
unfoldable pub cell_value : Records → SeenRecords → Dx → List PeriodName → List ℕ → CellValue
cell_value r shown dx periods units = cell_by r shown dx.kind dx.number dx.part periods units

abbrev pub is_wide : CellValue → Bool
is_wide cell.Wide = true
is_wide _ = false

-- decimals as they are printed; those of a metadata file are from 0 to 5
abbrev pub places_of : ℤ → ℕ
places_of decimals = min (unsigned_abs decimals) 6

abbrev pub decimals_by : Records → ℕ → DxKind → ℕ
decimals_by r n dx_kind.Indicator = option_map_or (λ (indicator : Indicator). places_of indicator.decimals) (slice_get r.indicators n) 6
decimals_by r n dx_kind.ProgramIndicator =
    option_map_or (λ (indicator : ProgramIndicator). places_of indicator.decimals) (slice_get r.program_indicators n) 6
decimals_by r n (dx_kind.Rate which) = 1
decimals_by r n _ = 6

-- a value is printed with up to so many decimals
unfoldable pub decimals_of : Records → Dx → ℕ
decimals_of r dx = decimals_by r dx.number dx.kind

abbrev pub value_text : Records → Dx → Fraction → List ℕ
value_text r dx x = printed x (decimals_of r dx)
