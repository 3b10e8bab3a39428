-- The years of rows, registrations and events.
use Rattle.std.specs.Prelude.{Bool, false, ℤ, pos, List, Option, Some, None, option_map}
use Rattle.std.specs.List.{list_all, list_any}
use Rattle.std.specs.Ordering.{int_cmp, int_eq, is_lt, is_gt}
use Rattle.dh_periods.specs.declared.name.PeriodName.{PeriodName}
use Rattle.dh_periods.specs.declared.kind.PeriodType.TheVariants.{Daily}
use Rattle.dh_periods.specs.Places.{year_of, containing_of}
use Rattle.table_rows.specs.declared.row.Row.{Row}
use Rattle.table_rows.specs.declared.row.Group.{Group}
use Rattle.table_rows.specs.declared.event.EventRow.{EventRow}
use Rattle.table_rows.specs.declared.event.RegRow.{RegRow}

-- the year of the first day of a period
abbrev pub period_year : PeriodName → ℤ
period_year period = pos (year_of period)

-- the year of a day
unfoldable pub day_year : ℤ → Option ℤ
day_year day = option_map period_year (containing_of Daily day day)

-- a row or a registration is of the year in which its period begins, an event of that of its day

abbrev pub is_row_in : ℤ → Row → Bool
is_row_in year row = int_eq (period_year row.period) year

abbrev pub is_group_in : ℤ → Group → Bool
is_group_in year group = int_eq (period_year group.period) year

abbrev pub is_reg_in : ℤ → RegRow → Bool
is_reg_in year reg = int_eq (period_year reg.period) year

abbrev pub is_year_if_any : Option ℤ → ℤ → Bool
is_year_if_any None year = false
is_year_if_any (Some found) year = int_eq found year

abbrev pub is_event_in : ℤ → EventRow → Bool
is_event_in year event = is_year_if_any (day_year event.day) year

-- each member of a list is of one of the years
abbrev pub have_years : {X : Type 0} → (ℤ → X → Bool) → List ℤ → List X → Bool
have_years is_in years xs = list_all (λ x. list_any (λ year. is_in year x) years) xs

-- the year comes before another one, or after it, if that one is there

abbrev pub comes_before : Option ℤ → ℤ → Bool
comes_before None year = false
comes_before (Some other) year = is_lt (int_cmp year other)

abbrev pub comes_after : Option ℤ → ℤ → Bool
comes_after None year = false
comes_after (Some other) year = is_gt (int_cmp year other)
