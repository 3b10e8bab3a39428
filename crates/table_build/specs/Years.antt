-- The years of rows.
use Rattle.std.specs.Prelude.{ℤ, List, ◌++◌, map, Option}
use Rattle.std.specs.List.{filter_map}
use Rattle.std.specs.Ordering.{int_cmp}
use Rattle.table_rows.specs.declared.row.Row.{Row}
use Rattle.table_rows.specs.declared.event.EventRow.{EventRow}
use Rattle.table_rows.specs.declared.event.RegRow.{RegRow}
use Rattle.table_sums.specs.Years.{period_year, day_year}
use Rattle.table_build.specs.Ordered.{in_order}

unfoldable pub row_year : Row → ℤ
row_year row = period_year row.period

unfoldable pub reg_year : RegRow → ℤ
reg_year reg = period_year reg.period

unfoldable pub event_year : EventRow → Option ℤ
event_year event = day_year event.day

-- the years of rows and registrations by the first day of their periods, and of events by their days; ascending, each once
unfoldable pub years_of : List Row → List RegRow → List EventRow → List ℤ
years_of rows regs events =
    in_order int_cmp (λ year. year) (map row_year rows ++ (map reg_year regs ++ filter_map event_year events))
