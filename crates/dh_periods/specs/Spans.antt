-- The first and last day of a period, as the code holds them.
use Rattle.std.specs.Prelude.{pos, ◌-ℤ◌}
use Rattle.dh_periods.specs.declared.days.Span.{Span}
use Rattle.dh_periods.specs.declared.kind.Shape.{Shape}
use Rattle.dh_periods.specs.declared.name.PeriodName.{PeriodName}
use Rattle.dh_periods.specs.Calendar.{unix_day}
use Rattle.dh_periods.specs.Days.{first_place_as, end_place_as, first_day, last_day}

abbrev pub span_as : Shape → PeriodName → Span
span_as s p = record { first = unix_day (first_place_as s p); last = unix_day (end_place_as s p) -ℤ pos 1 }

abbrev pub span_of : PeriodName → Span
span_of p = record { first = first_day p; last = last_day p }
