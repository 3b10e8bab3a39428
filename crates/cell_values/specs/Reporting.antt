-- Reporting rates: how many reports of a data set are due, and how many were registered.
use Rattle.std.specs.Prelude.{ℕ, ◌*◌, nat_eq, Bool, true, false, ◌&&◌, cond, pos, ◌-ℤ◌, ℤ, int_le, List, map, length, slice_get}
use Rattle.std.specs.Prelude.{Option, None, Some, option_and_then}
use Rattle.std.specs.List.{filter, list_any}
use Rattle.std.specs.Option.{option_map_or}
use Rattle.std.specs.Ordering.{int_eq}
use denote.Enum.Bare.{sameb}
use Rattle.dh_base.specs.Fractions.{Fraction, fraction_of}
use Rattle.dh_base.specs.declared.limits.TheConstants.{COUNTED_DAYS}
use Rattle.dh_base.specs.declared.plain.Rate.{Rate}
use Rattle.dh_base.specs.declared.plain.Rate.TheVariants as rate
use Rattle.dh_periods.specs.contracts.kind.PeriodType.{the_type}
use Rattle.dh_periods.specs.declared.kind.PeriodType.{PeriodType}
use Rattle.dh_periods.specs.declared.name.PeriodName.{PeriodName}
use Rattle.dh_periods.specs.Calendar.{unix_day}
use Rattle.dh_periods.specs.Days.{first_day, last_day, is_inside}
use Rattle.dh_periods.specs.Keys.{same_period}
use Rattle.dh_periods.specs.Places.{containing_of}
use Rattle.org_tree.specs.Count.{count_below}
use Rattle.dh_metadata.specs.declared.held.Records.{Records}
use Rattle.dh_metadata.specs.declared.records.DataSet.{DataSet}
use Rattle.dh_metadata.specs.Approval.{unit_rows}
use Rattle.dh_metadata.specs.Sets.{is_assigned}
use Rattle.table_rows.specs.declared.event.RegRow.{RegRow}
use Rattle.table_rows.specs.Events.{is_reg_of}
use Rattle.table_rows.specs.Groups.{each_once}
use Rattle.cell_values.specs.declared.reports.Report.{Report}
use Rattle.cell_values.specs.Places.{unit_with, is_at_some}
use Rattle.cell_values.specs.Cells.{is_in_some}

-- ---- how many are due

-- on the day that is so many after 1 January 1900 a period of the type begins that lies in this one
unfoldable pub begins_in : PeriodType → PeriodName → ℕ → Bool
begins_in kind period n =
    option_map_or (λ p. int_eq (first_day p) (unix_day n) && is_inside p period) (containing_of kind (unix_day n) (unix_day n)) false

abbrev pub begins_in_some : PeriodType → List PeriodName → ℕ → Bool
begins_in_some kind periods n = list_any (λ period. begins_in kind period n) periods

-- how many periods of the type lie in some of these; a period is counted by its first day
unfoldable pub periods_due : PeriodType → List PeriodName → ℕ
periods_due kind periods = count_below (begins_in_some kind periods) COUNTED_DAYS

-- the order is that of a unit that is assigned to the data set
unfoldable pub is_assigned_at : Records → ℕ → ℕ → Bool
is_assigned_at r set order = option_map_or (λ unit. is_assigned r set unit) (unit_with (unit_rows r) order) false

-- how many units that are assigned are under some of these; a unit is counted by its order
unfoldable pub units_due : Records → ℕ → List ℕ → Bool → ℕ
units_due r set units alone =
    count_below (λ order. is_assigned_at r set order && is_at_some (unit_rows r) alone units order) (length r.organisation_units)

-- ---- how many were registered

-- the unit and the period of a registration
abbrev pub report_of : RegRow → Report
report_of reg = record { period = reg.period; order = reg.order }

abbrev pub same_report : Report → Report → Bool
same_report a b = same_period a.period b.period && nat_eq a.order b.order

-- the day is at most so many days after the last of the registration's period
unfoldable pub is_timely : ℤ → RegRow → Bool
is_timely days reg = int_le (reg.day -ℤ last_day reg.period) days

-- a rate over what was registered on time
abbrev pub asks_timely : Rate → Bool
asks_timely rate.Expected = false
asks_timely rate.Actual = false
asks_timely rate.OnTime = true
asks_timely rate.Reported = false
asks_timely rate.ReportedOnTime = true

-- the registration is on time, where that is asked
abbrev pub is_in_time : Rate → ℤ → RegRow → Bool
is_in_time which days reg = cond (asks_timely which) (is_timely days reg) true

-- the registration is of the data set, for a period of its type, at a unit that is assigned, and on time where that is asked
unfoldable pub is_counted : Records → Rate → ℕ → DataSet → RegRow → Bool
is_counted r which set found reg =
    is_reg_of set reg && (sameb the_type found.period_type reg.period.kind
    && (is_assigned_at r set reg.order && is_in_time which found.timely_days reg))

-- the pairs of a unit and a period that such registrations have, each once
unfoldable pub reports_of : Records → Rate → ℕ → DataSet → List RegRow → List Report
reports_of r which set found regs = each_once same_report (map report_of (filter (is_counted r which set found) regs))

-- the pair is of a period that lies in some of these, and of a unit under some of these
abbrev pub is_report_in : Records → List PeriodName → List ℕ → Bool → Report → Bool
is_report_in r periods units alone report =
    is_in_some periods report.period && is_at_some (unit_rows r) alone units report.order

unfoldable pub reported : Records → Rate → ℕ → DataSet → List PeriodName → List ℕ → List RegRow → Bool → ℕ
reported r which set found periods units regs alone = length (filter (is_report_in r periods units alone) (reports_of r which set found regs))

-- ---- the rate

-- a count as a fraction
abbrev pub whole : ℕ → Fraction
whole n = fraction_of (pos n) 1

abbrev pub percentage : ℕ → ℕ → Fraction
percentage due registered = fraction_of (pos (100 * registered)) due

-- the five rates, from how many are due and how many were registered; the last two are percentages
abbrev pub rate_by : Rate → ℕ → ℕ → Fraction
rate_by rate.Expected due registered = whole due
rate_by rate.Actual due registered = whole registered
rate_by rate.OnTime due registered = whole registered
rate_by rate.Reported due registered = percentage due registered
rate_by rate.ReportedOnTime due registered = percentage due registered

-- there is no rate where nothing is due
abbrev pub if_due : ℕ → Fraction → Option Fraction
if_due due value = cond (nat_eq due 0) None (Some value)

abbrev pub rate_with : Rate → ℕ → ℕ → Option Fraction
rate_with which due registered = if_due due (rate_by which due registered)

-- due is a report of each assigned unit under the units of the cell for each period of the data set's type inside its periods;
-- registered are the pairs of such a unit and such a period that have a registration among these
unfoldable pub rate_of : Records → Rate → ℕ → List PeriodName → List ℕ → List RegRow → Bool → Option Fraction
rate_of r which set periods units regs alone =
    option_and_then
    (λ (found : DataSet). rate_with which (units_due r set units alone * periods_due found.period_type periods)
    (reported r which set found periods units regs alone))
    (slice_get r.data_sets set)
