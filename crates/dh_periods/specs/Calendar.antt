-- The calendar of ISO 8601, counted day by day from Monday 1 January 1900, which is day 0.
use Rattle.std.specs.Prelude.{ℕ, zero, suc, ◌+◌, ◌-◌, ◌*◌, ◌/◌, ◌%◌, Bool, not, ◌&&◌, ◌||◌, ◌==◌, nat_le, if◌then◌else◌, ℤ, pos, ◌-ℤ◌}

-- every fourth year, but of the centuries only every fourth
abbrev pub is_leap_year : ℕ → Bool
is_leap_year y = (y % 4 == 0) && (not (y % 100 == 0) || (y % 400 == 0))

-- thirty days have September, April, June and November
abbrev pub month_length : ℕ → ℕ → ℕ
month_length y m =
    if m == 2 then (if is_leap_year y then 29 else 28)
    else (if (m == 4) || (m == 6) || (m == 9) || (m == 11) then 30 else 31)

-- the days of the first k months from January 1900 on
unfoldable pub days_before_month : ℕ → ℕ
days_before_month zero = 0
days_before_month (suc k) = days_before_month k + month_length (1900 + k / 12) (k % 12 + 1)

-- how many months lie between January 1900 and a month, which is counted from 1
abbrev pub month_place : ℕ → ℕ → ℕ
month_place y m = 12 * (y - 1900) + (m - 1)

-- how many days lie between 1 January 1900 and a date
abbrev pub day_place : ℕ → ℕ → ℕ → ℕ
day_place y m d = days_before_month (month_place y m) + (d - 1)

-- the last of the first k months and the next that has begun by that day
unfoldable pub last_month_by : ℕ → ℕ → ℕ
last_month_by zero n = 0
last_month_by (suc k) n = if nat_le (days_before_month (suc k)) n then suc k else last_month_by k n

-- the month with that day, as months since January 1900: no day lies before as many months as its place
unfoldable pub month_with : ℕ → ℕ
month_with n = last_month_by n n

-- the year with that day
abbrev pub year_with : ℕ → ℕ
year_with n = 1900 + month_with n / 12

-- week 1 of a year is the week with its first Thursday; how many weeks lie before it
abbrev pub first_week : ℕ → ℕ
first_week y = (day_place y 1 1 + 3) / 7

-- a year has 52 or 53 weeks
abbrev pub weeks_in_year : ℕ → ℕ
weeks_in_year y = first_week (y + 1) - first_week y

-- the day as a count from 1 January 1970, which is negative before that
abbrev pub unix_day : ℕ → ℤ
unix_day n = pos n -ℤ pos 25567
