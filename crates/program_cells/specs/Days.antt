-- The days from the first of some periods to the last.
use Rattle.std.specs.Prelude.{◌≡◌, ◌≤ℤ◌, ℤ, true, List}
use Rattle.dh_periods.specs.declared.name.PeriodName.{PeriodName}
use Rattle.program_cells.specs.Cells.{is_on_some}
use Rattle.program_cells.specs.declared.days.Days.{Days}

-- the day is one of these
pub record IsAmong (day : ℤ) (days : Days) : Type 0 where
  pub from : days.from ≤ℤ day
  pub to : day ≤ℤ days.to

-- each day that lies in some of the periods is one of these
pub record Cover (periods : List PeriodName) (days : Days) : Type 0 where
  pub each : (day : ℤ) → is_on_some periods day ≡ true → IsAmong day days
