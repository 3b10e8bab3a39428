-- The order of periods.
use Rattle.std.specs.Prelude.{ℕ}
use Rattle.std.specs.Ordering.{ordering_then, nat_cmp, int_cmp}
use Rattle.std.specs.declared.cmp.Ordering.{Ordering}
use Rattle.dh_periods.specs.declared.kind.PeriodType.{PeriodType}
use Rattle.dh_periods.specs.declared.kind.PeriodType.TheVariants.{Daily, Weekly, Monthly, BiMonthly, Quarterly, SixMonthly, SixMonthlyApril, Yearly}
use Rattle.dh_periods.specs.declared.kind.PeriodType.TheVariants.{FinancialApril, FinancialJuly, FinancialOct}
use Rattle.dh_periods.specs.declared.name.PeriodName.{PeriodName}
use Rattle.dh_periods.specs.Days.{first_day, last_day}

-- the place of a type among all types, which stand in the order of the lengths of their periods
abbrev pub type_place : PeriodType → ℕ
type_place Daily = 0
type_place Weekly = 1
type_place Monthly = 2
type_place BiMonthly = 3
type_place Quarterly = 4
type_place SixMonthly = 5
type_place SixMonthlyApril = 6
type_place Yearly = 7
type_place FinancialApril = 8
type_place FinancialJuly = 9
type_place FinancialOct = 10

-- periods by their last day, then by their first day, then by their type
unfoldable pub period_order : PeriodName → PeriodName → Ordering
period_order a b =
    ordering_then (int_cmp (last_day a) (last_day b))
    (ordering_then (int_cmp (first_day a) (first_day b)) (nat_cmp (type_place a.kind) (type_place b.kind)))
