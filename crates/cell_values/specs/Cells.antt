-- Cells: the samples of an element in some periods and at some units, and their value.
use Rattle.std.specs.Prelude.{◌≡◌, ◌<◌, ℕ, nat_eq, Bool, true, ◌&&◌, List, Option, None, Some, slice_get, option_and_then}
use Rattle.std.specs.List.{filter, list_any}
use Rattle.dh_base.specs.Fractions.{Fraction}
use Rattle.dh_periods.specs.declared.name.PeriodName.{PeriodName}
use Rattle.dh_periods.specs.Calendar.{unix_day}
use Rattle.dh_periods.specs.Days.{is_day_in, is_inside}
use Rattle.org_tree.specs.Count.{count_below}
use Rattle.dh_metadata.specs.declared.held.Records.{Records}
use Rattle.dh_metadata.specs.declared.records.Element.{Element}
use Rattle.dh_metadata.specs.Approval.{unit_rows}
use Rattle.table_rows.specs.declared.sample.Sample.{Sample}
use Rattle.table_rows.specs.Values.{value_by}
use Rattle.cell_values.specs.Places.{is_at_some}
use Rattle.dh_base.specs.declared.limits.TheConstants.{COUNTED_DAYS}

-- what is asked: an element, its option combination and attribute option combination where they are named, periods and
-- units. `alone`: a unit has only itself under it
pub record Cell : Type 0 where
  pub element : ℕ
  pub combo : Option ℕ
  pub attribute : Option ℕ
  pub periods : List PeriodName
  pub units : List ℕ
  pub alone : Bool

abbrev pub cell_of : ℕ → Option ℕ → Option ℕ → List PeriodName → List ℕ → Bool → Cell
cell_of element combo attribute periods units alone =
    record { element = element; combo = combo; attribute = attribute; periods = periods; units = units; alone = alone }

-- the one that is named, or any where none is
abbrev pub is_named : Option ℕ → ℕ → Bool
is_named None n = true
is_named (Some named) n = nat_eq n named

-- the period lies in some of these
abbrev pub is_in_some : List PeriodName → PeriodName → Bool
is_in_some periods period = list_any (λ asked. is_inside period asked) periods

-- the sample is one of the element and of the combinations that are named, lies in some of the periods and under some of the
-- units
unfoldable pub lies_in : Records → Cell → Sample → Bool
lies_in r cell sample =
    nat_eq sample.series.element cell.element
    && (is_named cell.combo sample.series.combo
    && (is_named cell.attribute sample.series.attribute
    && (is_in_some cell.periods sample.period && is_at_some (unit_rows r) cell.alone cell.units sample.series.unit)))

-- the samples of a cell
abbrev pub samples_of : Records → List Sample → Cell → List Sample
samples_of r samples cell = filter (lies_in r cell) samples

-- the day that is so many after 1 January 1900 lies in some of the periods
abbrev pub is_day_of : List PeriodName → ℕ → Bool
is_day_of periods n = list_any (λ period. is_day_in (unix_day n) period) periods

-- how many different days the periods have. None begins before 1 January 1900 or ends after 30 September 2101, 73,686 days
-- later
unfoldable pub days_in : List PeriodName → ℕ
days_in periods = count_below (is_day_of periods) COUNTED_DAYS

-- periods with so many different days, of which there is one at least
pub record AreCounted (periods : List PeriodName) (days : ℕ) : Type 0 where
  pub is : days ≡ days_in periods
  pub some : 0 < days

-- the value of a cell over some samples, by the aggregation type of its element
unfoldable pub aggregate_of : Records → List Sample → Cell → Option Fraction
aggregate_of r samples cell =
    option_and_then (λ (element : Element). value_by element.aggregation_type (samples_of r samples cell) (days_in cell.periods))
    (slice_get r.data_elements cell.element)
