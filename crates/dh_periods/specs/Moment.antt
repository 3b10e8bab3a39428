-- The day of a moment.
use Rattle.std.specs.Prelude.{ℤ, pos}
use Rattle.dh_base.specs.declared.limits.TheConstants.{FIRST_QUERY_DAY, LAST_QUERY_DAY}
use Rattle.std.specs.Int.{int_min, int_max, int_div_euclid}

-- the days of 86,400 seconds since 1970-01-01, rounded down
abbrev pub whole_days : ℤ → ℤ
whole_days moment = int_div_euclid moment (pos 86400)

-- the day of a moment in seconds since 1970-01-01, held between 1910-01-01 and 2099-12-31
unfoldable pub day_of : ℤ → ℤ
day_of moment = int_max FIRST_QUERY_DAY (int_min (whole_days moment) LAST_QUERY_DAY)
