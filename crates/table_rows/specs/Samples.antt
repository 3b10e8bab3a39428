-- Samples, their series and their order.
use Rattle.std.specs.Prelude.{ℕ, Bool, true, not, ◌&&◌, nat_eq, is_some, ℤ, pos, ◌+ℤ◌, ◌-ℤ◌, ◌*ℤ◌, unsigned_abs, List, [], ◌∷◌, map, Option, Some, None}
use Rattle.std.specs.List.{filter, list_any, list_all}
use Rattle.std.specs.Ordering.{ordering_then, nat_cmp, is_gt, is_le}
use Rattle.std.specs.declared.cmp.Ordering.{Ordering}
use Rattle.dh_periods.specs.declared.name.PeriodName.{PeriodName}
use Rattle.dh_periods.specs.Days.{first_day, last_day}
use Rattle.dh_periods.specs.Keys.{same_period}
use Rattle.table_rows.specs.Groups.{each_once}
use Rattle.table_rows.specs.Order.{period_cmp}
use Rattle.table_rows.specs.declared.sample.Sample.{Sample}
use Rattle.table_rows.specs.declared.sample.Series.{Series}

-- series by element, option combination, attribute combination and unit
abbrev pub series_cmp : Series → Series → Ordering
series_cmp a b =
    ordering_then (nat_cmp a.element b.element) (ordering_then (nat_cmp a.combo b.combo)
    (ordering_then (nat_cmp a.attribute b.attribute) (nat_cmp a.unit b.unit)))

-- two series are one
abbrev pub same_series : Series → Series → Bool
same_series a b = nat_eq a.element b.element && (nat_eq a.combo b.combo && (nat_eq a.attribute b.attribute && nat_eq a.unit b.unit))

-- samples by series and period
abbrev pub sample_cmp : Sample → Sample → Ordering
sample_cmp a b = ordering_then (series_cmp a.series b.series) (period_cmp a.period b.period)

-- a sample may stand before another one: its series isn't after the other's, and the two aren't of one series and one period
abbrev pub may_precede : Sample → Sample → Bool
may_precede a b = is_le (series_cmp a.series b.series) && not (same_series a.series b.series && same_period a.period b.period)

-- the samples are in series order, and a series and a period name a sample once
abbrev pub in_series_order : List Sample → Bool
in_series_order [] = true
in_series_order (sample ∷ samples) = list_all (may_precede sample) samples && in_series_order samples

-- ---- numbers

abbrev pub has_number : Sample → Bool
has_number sample = is_some sample.micros

-- the samples that have a number
abbrev pub numbered : List Sample → List Sample
numbered samples = filter has_number samples

abbrev pub number_in : Option ℤ → ℤ
number_in None = pos 0
number_in (Some micros) = micros

-- the number of a sample, in millionths
abbrev pub number_of : Sample → ℤ
number_of sample = number_in sample.micros

-- how many days a period has
unfoldable pub days_of : PeriodName → ℕ
days_of period = unsigned_abs ((last_day period -ℤ first_day period) +ℤ pos 1)

-- the number times the days of the period
abbrev pub weighted : Sample → ℤ
weighted sample = number_of sample *ℤ pos (days_of sample.period)

-- the sum of what f gives of each member
abbrev pub total : {X : Type 0} → (X → ℤ) → List X → ℤ
total f [] = pos 0
total f (x ∷ xs) = f x +ℤ total f xs

-- ---- series

-- the series of some samples, each once
abbrev pub series_of : List Sample → List Series
series_of samples = each_once same_series (map (λ (sample : Sample). sample.series) samples)

-- of two samples of one series the first goes beyond the second in an order of periods
abbrev pub goes_beyond : (PeriodName → PeriodName → Ordering) → Sample → Sample → Bool
goes_beyond order a b = same_series a.series b.series && is_gt (order a.period b.period)

-- the samples of which no other of their series goes beyond them
abbrev pub outermost : (PeriodName → PeriodName → Ordering) → List Sample → List Sample
outermost order samples = filter (λ sample. not (list_any (λ other. goes_beyond order other sample) samples)) samples

-- periods from the last to the first
abbrev pub backwards : PeriodName → PeriodName → Ordering
backwards p q = period_cmp q p

-- of each series the sample of the last period, and of the first
abbrev pub lasts : List Sample → List Sample
lasts samples = outermost period_cmp samples

abbrev pub firsts : List Sample → List Sample
firsts samples = outermost backwards samples
