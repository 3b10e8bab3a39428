-- Equality of periods, as the comparison of their fields computes it.
use Rattle.std.specs.Prelude.{Bool, ◌&&◌, nat_eq}
use Rattle.std.specs.Ordering.{int_eq}
use denote.Enum.Bare.{sameb}
use Rattle.dh_periods.specs.contracts.kind.PeriodType.{the_type}
use Rattle.dh_periods.specs.declared.name.PeriodName.{PeriodName}
use Rattle.dh_periods.specs.Days.{first_day, last_day}

abbrev pub same_name : PeriodName → PeriodName → Bool
same_name a b = sameb the_type a.kind b.kind && (nat_eq a.year b.year && (nat_eq a.number b.number && nat_eq a.day b.day))

abbrev pub same_period : PeriodName → PeriodName → Bool
same_period a b = int_eq (last_day a) (last_day b) && (int_eq (first_day a) (first_day b) && same_name a b)
