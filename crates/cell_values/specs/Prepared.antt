-- What is worked out before a rate is asked.
use Rattle.std.specs.Prelude.{◌≡◌, ℕ, ◌-◌, ◌*◌, ◌^◌, ◌<◌, ◌≤◌, Bool, true, not, ◌&&◌, cond, List, [], ◌∷◌, ◌++◌, length, slice_get, Option, Some, None}
use Rattle.std.specs.List.{filter}
use Rattle.dh_base.specs.Fractions.{Fraction}
use Rattle.dh_base.specs.declared.limits.TheConstants.{COUNTED_DAYS}
use Rattle.dh_base.specs.declared.plain.Rate.{Rate}
use Rattle.dh_periods.specs.declared.name.PeriodName.{PeriodName}
use Rattle.org_tree.specs.Count.{count_below}
use Rattle.dh_metadata.specs.declared.held.Records.{Records}
use Rattle.dh_metadata.specs.declared.records.DataSet.{DataSet}
use Rattle.table_rows.specs.declared.event.RegRow.{RegRow}
use Rattle.cell_values.specs.declared.reports.Report.{Report}
use Rattle.cell_values.specs.declared.reports.Reports.{Reports}
use Rattle.cell_values.specs.declared.due.Due.{Due}
use Rattle.cell_values.specs.Reporting.{is_assigned_at, same_report, reports_of, periods_due, rate_with}
use Rattle.cell_values.specs.Cells.{is_in_some}
use Rattle.cell_values.specs.Counts.{IsAscending, how_many_within}

abbrev pub differs_from : Option Report → Report → Bool
differs_from None report = true
differs_from (Some last) report = not (same_report report last)

-- the report isn't the last of these
abbrev pub differs_from_last : List Report → Report → Bool
differs_from_last reports report = differs_from (slice_get reports (length reports - 1)) report

-- a report more, where it counts and isn't the last
abbrev pub with_report : Bool → List Report → Report → List Report
with_report counts reports report = cond (counts && differs_from_last reports report) (reports ++ report ∷ []) reports

-- the orders of the units that are assigned to a data set, ascending and each once
pub record AreAssigned (r : Records) (set : ℕ) (orders : List ℕ) : Type 0 where
  pub ascend : IsAscending orders
  pub few : length orders < 2 ^ 32
  pub count : (test : ℕ → Bool)
      → length (filter test orders) ≡ count_below (λ order. is_assigned_at r set order && test order) (length r.organisation_units)

-- the reports of a data set for a rate, from these registrations
pub record AreReports (r : Records) (which : Rate) (set : ℕ) (regs : List RegRow) (reports : Reports) : Type 0 where
  pub found : DataSet
  pub is : slice_get r.data_sets set ≡ Some found
  pub which_is : reports.which ≡ which
  pub kind_is : reports.kind ≡ found.period_type
  pub assigned : AreAssigned r set reports.assigned
  pub reports_are : reports.reports ≡ reports_of r which set found regs

-- the orders of the reports whose period lies in some of these, ascending
pub record AreOrders (periods : List PeriodName) (reports : List Report) (orders : List ℕ) : Type 0 where
  pub ascend : IsAscending orders
  pub count : (test : ℕ → Bool)
      → length (filter test orders)
      ≡ length (filter (λ (report : Report). is_in_some periods report.period && test report.order) reports)

-- what of these reports is due in some periods
pub record IsDue (periods : List PeriodName) (reports : Reports) (due : Due) : Type 0 where
  pub periods_are : due.periods ≡ periods_due reports.kind periods
  pub few : due.periods ≤ COUNTED_DAYS
  pub orders : AreOrders periods reports.reports due.orders

-- lists that can be searched, and counts that fit the machine's numbers
pub record IsPrepared (reports : Reports) (due : Due) : Type 0 where
  pub assigned : IsAscending reports.assigned
  pub few : length reports.assigned < 2 ^ 32
  pub orders : IsAscending due.orders
  pub periods : due.periods ≤ COUNTED_DAYS

-- the rate over the units whose orders lie in the ranges, from those of the units that are assigned and of the reports
abbrev pub rate_within : Rate → List ℕ → ℕ → List ℕ → List (ℕ × ℕ) → Option Fraction
rate_within which assigned periods orders ranges = rate_with which (how_many_within assigned ranges * periods) (how_many_within orders ranges)
