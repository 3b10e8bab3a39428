-- The subjects of a cell, and the value of a program indicator over them.
use Rattle.std.specs.Prelude.{ℕ, Bool, false, ◌&&◌, nat_eq, ℤ, List, [], ◌∷◌, map, slice_get}
use Rattle.std.specs.List.{filter, list_any}
use Rattle.std.specs.Option.{option_map_or}
use Rattle.dh_periods.specs.declared.name.PeriodName.{PeriodName}
use Rattle.dh_periods.specs.Days.{is_day_in}
use Rattle.dh_metadata.specs.declared.held.Records.{Records}
use Rattle.dh_metadata.specs.declared.names.AnalyticsType.{AnalyticsType}
use Rattle.dh_metadata.specs.declared.names.AnalyticsType.TheVariants as analytics
use Rattle.dh_metadata.specs.declared.records.ProgramIndicator.{ProgramIndicator}
use Rattle.dh_metadata.specs.Approval.{unit_rows}
use Rattle.table_rows.specs.declared.event.EventRow.{EventRow}
use Rattle.cell_values.specs.Places.{is_at_some}
use Rattle.program_cells.specs.Enrollments.{first_is, enrollments}
use Rattle.program_cells.specs.Order.{whole_cmp, in_order}
use Rattle.program_cells.specs.Value.{ProgramValue, NoValue, program_value}

-- the day lies in some of the periods
abbrev pub is_on_some : List PeriodName → ℤ → Bool
is_on_some periods day = list_any (is_day_in day) periods

-- the event is of the program, its day lies in some of the periods, and its unit is under some of the units
unfoldable pub is_event_in : Records → ℕ → List PeriodName → List ℕ → EventRow → Bool
is_event_in r program periods units event =
    nat_eq event.program program && (is_on_some periods event.day && is_at_some (unit_rows r) false units event.order)

-- the events of a cell, by day and identifier
abbrev pub cell_events : Records → ℕ → List PeriodName → List ℕ → List EventRow → List EventRow
cell_events r program periods units events = in_order whole_cmp (filter (is_event_in r program periods units) events)

-- the day of the event's enrollment lies in some of the periods
abbrev pub is_enrolled_on : List PeriodName → EventRow → Bool
is_enrolled_on periods event = option_map_or (is_on_some periods) event.enrolled false

-- the event's enrollment began in some of the periods, and its unit is under some of the units
unfoldable pub is_enrolled_at : Records → List PeriodName → List ℕ → EventRow → Bool
is_enrolled_at r periods units event = is_enrolled_on periods event && is_at_some (unit_rows r) false units event.order

-- the enrollments of a cell, by the day on which each began and its identifier: each lies where its first event lies
abbrev pub cell_enrollments : Records → ℕ → List PeriodName → List ℕ → List EventRow → List (List EventRow)
cell_enrollments r program periods units events = filter (first_is (is_enrolled_at r periods units)) (enrollments program events)

abbrev pub alone : EventRow → List EventRow
alone event = event ∷ []

-- the subjects of a cell: each of its events alone, or its enrollments
abbrev pub subjects_by : Records → AnalyticsType → ℕ → List PeriodName → List ℕ → List EventRow → List (List EventRow)
subjects_by r analytics.Event program periods units events = map alone (cell_events r program periods units events)
subjects_by r analytics.Enrollment program periods units events = cell_enrollments r program periods units events

abbrev pub indicator_cell : Records → List PeriodName → List ℕ → List EventRow → ProgramIndicator → ProgramValue
indicator_cell r periods units events indicator =
    program_value r indicator (subjects_by r indicator.analytics_type indicator.program periods units events)

-- the value of the program indicator with that number in a cell, over the events that a user sees
unfoldable pub cell_value : Records → ℕ → List PeriodName → List ℕ → List EventRow → ProgramValue
cell_value r n periods units events = option_map_or (indicator_cell r periods units events) (slice_get r.program_indicators n) NoValue
