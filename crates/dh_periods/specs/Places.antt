-- Periods by their place among those of their type, which is 0 for the earliest.
use Rattle.std.specs.Prelude.{ℕ, ◌+◌, ◌-◌, ◌*◌, ◌/◌, ◌%◌, Bool, ◌&&◌, if◌then◌else◌, Option, Some, None, ℤ, pos, ◌+ℤ◌, ◌≤ℤ◌, unsigned_abs, int_le}
use Rattle.dh_periods.specs.declared.kind.PeriodType.{PeriodType}
use Rattle.dh_periods.specs.declared.kind.Shape.{Shape}
use Rattle.dh_periods.specs.declared.kind.Shape.TheVariants.{Day, Week, Months}
use Rattle.dh_periods.specs.declared.name.PeriodName.{PeriodName}
use Rattle.dh_periods.specs.Calendar.{days_before_month, day_place, month_with, year_with, first_week}
use Rattle.dh_periods.specs.Types.{shape_of}
use Rattle.dh_periods.specs.Days.{first_place, first_day, last_day, is_listed}

-- the place of a period
abbrev pub ordinal_as : Shape → PeriodName → ℕ
ordinal_as Day p = day_place p.year p.number p.day
ordinal_as Week p = first_week p.year + (p.number - 1)
ordinal_as (Months count opening) p = 12 / count * (p.year - 1900) + (p.number - 1)

unfoldable pub ordinal_of : PeriodName → ℕ
ordinal_of p = ordinal_as (shape_of p.kind) p

-- the period with that place; a week is of the year of its Thursday
abbrev pub nth_as : Shape → PeriodType → ℕ → PeriodName
nth_as Day kind i = record { kind = kind; year = year_with i; number = month_with i % 12 + 1; day = i - days_before_month (month_with i) + 1 }
nth_as Week kind i = record { kind = kind; year = year_with (7 * i + 3); number = i - first_week (year_with (7 * i + 3)) + 1; day = 1 }
nth_as (Months count opening) kind i = record { kind = kind; year = 1900 + i / (12 / count); number = i % (12 / count) + 1; day = 1 }

unfoldable pub nth_period : PeriodType → ℕ → PeriodName
nth_period kind i = nth_as (shape_of kind) kind i

-- the place of the period with that day, where there is one
abbrev pub place_as : Shape → ℕ → ℕ
place_as Day n = n
place_as Week n = n / 7
place_as (Months count opening) n = (month_with n - opening) / count

unfoldable pub place_with : PeriodType → ℕ → ℕ
place_with kind n = place_as (shape_of kind) n

-- the only period of that type that can have that day
unfoldable pub candidate : PeriodType → ℤ → PeriodName
candidate kind day = nth_period kind (place_with kind (unsigned_abs (day +ℤ pos 25567)))

-- a period has the days from first to last
abbrev pub Has : PeriodName → ℤ → ℤ → Type 0
Has p first last = (first_day p ≤ℤ first) × (first ≤ℤ last) × (last ≤ℤ last_day p)

-- the same as a test
unfoldable pub has_days : PeriodName → ℤ → ℤ → Bool
has_days p first last = int_le (first_day p) first && (int_le first last && int_le last (last_day p))

-- the period of that type with the days from first to last
unfoldable pub containing_of : PeriodType → ℤ → ℤ → Option PeriodName
containing_of kind first last = if is_listed (candidate kind first) && has_days (candidate kind first) first last then Some (candidate kind first) else None

-- the year of a period's first day
unfoldable pub year_of : PeriodName → ℕ
year_of p = year_with (first_place p)
