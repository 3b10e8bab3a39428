-- The days of periods as ranges.
use Rattle.std.specs.Prelude.{◌≡◌, ℕ, ◌≤◌, false, List}
use Rattle.dh_periods.specs.declared.name.PeriodName.{PeriodName}
use Rattle.dh_periods.specs.Calendar.{unix_day}
use Rattle.dh_periods.specs.Days.{is_day_in}
use Rattle.dh_sharing.specs.Ranges.{is_in_range, is_within}
use Rattle.cell_values.specs.Cells.{is_day_of}
use Rattle.dh_base.specs.declared.limits.TheConstants.{COUNTED_DAYS}

-- the range holds exactly the days of the period
pub record IsDayRange (period : PeriodName) (range : ℕ × ℕ) : Type 0 where
  pub members : (n : ℕ) → is_in_range n range ≡ is_day_in (unix_day n) period
  pub below : range.1 ≤ COUNTED_DAYS

-- the ranges hold exactly the days of the periods
pub record AreDayRanges (periods : List PeriodName) (ranges : List (ℕ × ℕ)) : Type 0 where
  pub members : (n : ℕ) → is_within ranges n ≡ is_day_of periods n
  pub below : (n : ℕ) → COUNTED_DAYS ≤ n → is_within ranges n ≡ false
