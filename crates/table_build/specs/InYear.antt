-- What writes name of one year.
use Rattle.std.specs.Prelude.{Bool, ℤ}
use Rattle.std.specs.Ordering.{int_eq}
use Rattle.dh_changes.specs.declared.keys.ValueKey.{ValueKey}
use Rattle.dh_changes.specs.declared.keys.RegKey.{RegKey}
use Rattle.table_sums.specs.Years.{period_year, day_year, is_year_if_any}
use Rattle.table_build.specs.declared.events.EventPlace.{EventPlace}

-- a key is of the year in which its period begins

abbrev pub is_value_key_in : ℤ → ValueKey → Bool
is_value_key_in year key = int_eq (period_year key.period) year

abbrev pub is_reg_key_in : ℤ → RegKey → Bool
is_reg_key_in year key = int_eq (period_year key.period) year

-- a place of an event is of the year of its day

abbrev pub is_place_in : ℤ → EventPlace → Bool
is_place_in year place = is_year_if_any (day_year place.day) year
