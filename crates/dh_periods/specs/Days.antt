-- The days of a period, by its type and what its text says.
use Rattle.std.specs.Prelude.{ℕ, ◌+◌, ◌-◌, ◌*◌, ◌/◌, Bool, ◌&&◌, ◌==◌, nat_le, if◌then◌else◌, Option, Some, None, ℤ, pos, ◌-ℤ◌, int_le}
use Rattle.dh_periods.specs.declared.kind.Shape.{Shape}
use Rattle.dh_periods.specs.declared.kind.Shape.TheVariants.{Day, Week, Months}
use Rattle.dh_periods.specs.declared.name.PeriodName.{PeriodName}
use Rattle.dh_periods.specs.Calendar.{month_length, days_before_month, day_place, first_week, weeks_in_year, unix_day}
use Rattle.dh_periods.specs.Types.{shape_of}

-- the month in which the nth period of a year begins, as months since January 1900
abbrev pub start_month : ℕ → ℕ → ℕ → ℕ → ℕ
start_month count opening y n = 12 * (y - 1900) + opening + count * (n - 1)

-- the place of its first day
abbrev pub first_place_as : Shape → PeriodName → ℕ
first_place_as Day p = day_place p.year p.number p.day
first_place_as Week p = 7 * (first_week p.year + (p.number - 1))
first_place_as (Months count opening) p = days_before_month (start_month count opening p.year p.number)

-- the place of the first day after it
abbrev pub end_place_as : Shape → PeriodName → ℕ
end_place_as Day p = day_place p.year p.number p.day + 1
end_place_as Week p = 7 * (first_week p.year + (p.number - 1)) + 7
end_place_as (Months count opening) p = days_before_month (start_month count opening p.year p.number + count)

unfoldable pub first_place : PeriodName → ℕ
first_place p = first_place_as (shape_of p.kind) p

unfoldable pub end_place : PeriodName → ℕ
end_place p = end_place_as (shape_of p.kind) p

-- its first and last day, as days since 1 January 1970
unfoldable pub first_day : PeriodName → ℤ
first_day p = unix_day (first_place p)

unfoldable pub last_day : PeriodName → ℤ
last_day p = unix_day (end_place p) -ℤ pos 1

-- the year has such a period
abbrev pub is_in_year_as : Shape → PeriodName → Bool
is_in_year_as Day p = nat_le 1 p.number && (nat_le p.number 12 && (nat_le 1 p.day && nat_le p.day (month_length p.year p.number)))
is_in_year_as Week p = nat_le 1 p.number && (nat_le p.number (weeks_in_year p.year) && p.day == 1)
is_in_year_as (Months count opening) p = nat_le 1 p.number && (nat_le p.number (12 / count) && p.day == 1)

-- there is such a period, in a year from 1900 to 2100
unfoldable pub is_listed : PeriodName → Bool
is_listed p = nat_le 1900 p.year && (nat_le p.year 2100 && is_in_year_as (shape_of p.kind) p)

-- the period of that name
abbrev pub listed : PeriodName → Option PeriodName
listed p = if is_listed p then Some p else None

-- a day lies in a period
abbrev pub is_day_in : ℤ → PeriodName → Bool
is_day_in day p = int_le (first_day p) day && int_le day (last_day p)

-- the first and the last day of a period lie in another
unfoldable pub is_inside : PeriodName → PeriodName → Bool
is_inside p q = is_day_in (first_day p) q && is_day_in (last_day p) q
