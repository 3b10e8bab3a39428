-- A period's days are in order, and the last of all lies in the year 2101.
use Rattle.std.proofs.Common.{◌≡◌, ℕ, ◌+◌, ◌-◌, ◌*◌, ◌/◌, ◌%◌, ◌<◌, ◌≤◌, ◌⊎◌, inl, inr, true, ◌&&◌, nat_le, refl, sym, subst, arith, pos, neg_ℤ, ◌≤ℤ◌}
use Rattle.std.specs.Prelude.{◌==◌}
use Rattle.std.proofs.lemmas.Bool.{and_parts, leb-true, eqb-true}
use Rattle.jiff_core.proofs.SignedLemmas.{signed_arith}
use Rattle.dh_periods.specs.declared.kind.PeriodType.{PeriodType}
use Rattle.dh_periods.specs.declared.kind.PeriodType.TheVariants.{Daily, Weekly, Monthly, BiMonthly, Quarterly, SixMonthly, SixMonthlyApril, Yearly}
use Rattle.dh_periods.specs.declared.kind.PeriodType.TheVariants.{FinancialApril, FinancialJuly, FinancialOct}
use Rattle.dh_periods.specs.declared.kind.Shape.{Shape}
use Rattle.dh_periods.specs.declared.kind.Shape.TheVariants.{Day, Week, Months}
use Rattle.dh_periods.specs.declared.name.PeriodName.{PeriodName}
use Rattle.dh_periods.specs.Calendar.{month_length, days_before_month, month_place, weeks_in_year}
use Rattle.dh_periods.specs.Types.{shape_of}
use Rattle.dh_periods.specs.Days.{is_in_year_as, is_listed, first_place_as, end_place_as, first_place, end_place, first_day, last_day, start_month}
use Rattle.dh_periods.proofs.CalendarLemmas.{days_before_month-next, days_before_month-later}
use Rattle.dh_periods.proofs.JiffLemmas.{weeks_in_year_bounds, days_before_month-end}
use Rattle.dh_periods.proofs.ListedLemmas.{listed-parts}

-- a year has as many periods of a type as its months allow
pub IsCount : ℕ → Type 0
IsCount c = (c ≡ 1) ⊎ (c ≡ 2) ⊎ (c ≡ 3) ⊎ (c ≡ 6) ⊎ (c ≡ 12)

abbrev pub HasCount : Shape → Type 0
HasCount Day = Unit {0}
HasCount Week = Unit {0}
HasCount (Months count opening) = IsCount count × (opening ≤ 9) × (opening < count)

pub shape_of-count : (kind : PeriodType) → HasCount (shape_of kind)
unfolding IsCount
shape_of-count Daily = tt
shape_of-count Weekly = tt
shape_of-count Monthly = (inl refl, omega arith, omega arith)
shape_of-count BiMonthly = (inr (inl refl), omega arith, omega arith)
shape_of-count Quarterly = (inr (inr (inl refl)), omega arith, omega arith)
shape_of-count SixMonthly = (inr (inr (inr (inl refl))), omega arith, omega arith)
shape_of-count SixMonthlyApril = (inr (inr (inr (inl refl))), omega arith, omega arith)
shape_of-count Yearly = (inr (inr (inr (inr refl))), omega arith, omega arith)
shape_of-count FinancialApril = (inr (inr (inr (inr refl))), omega arith, omega arith)
shape_of-count FinancialJuly = (inr (inr (inr (inr refl))), omega arith, omega arith)
shape_of-count FinancialOct = (inr (inr (inr (inr refl))), omega arith, omega arith)

-- what holds of these five holds of each count
pub by_count : (P : ℕ → Type 0) → P 1 → P 2 → P 3 → P 6 → P 12 → (c : ℕ) → IsCount c → P c
unfolding IsCount
by_count P one two three six twelve c (inl e) = subst P (sym e) one
by_count P one two three six twelve c (inr (inl e)) = subst P (sym e) two
by_count P one two three six twelve c (inr (inr (inl e))) = subst P (sym e) three
by_count P one two three six twelve c (inr (inr (inr (inl e)))) = subst P (sym e) six
by_count P one two three six twelve c (inr (inr (inr (inr e)))) = subst P (sym e) twelve

-- a period of months begins in or after its year and ends by September of the next
InYear : ℕ → Type 0
InYear c = (year opening n : ℕ) → 1 ≤ n → n ≤ 12 / c → opening ≤ 9
    → (12 * year ≤ 12 * year + opening + c * (n - 1)) × (12 * year + opening + c * (n - 1) < 12 * year + opening + c * (n - 1) + c)
    × (12 * year + opening + c * (n - 1) + c ≤ 12 * year + 21) × (n ≤ 12)

months-in_year : (c : ℕ) → IsCount c → InYear c
unfolding InYear
months-in_year =
    by_count InYear (λ year o n low high opens. (omega arith, omega arith, omega arith, omega arith)) (λ year o n low high opens.
    (omega arith, omega arith, omega arith, omega arith)) (λ year o n low high opens. (omega arith, omega arith, omega arith, omega arith))
    (λ year o n low high opens. (omega arith, omega arith, omega arith, omega arith)) (λ year o n low high opens.
    (omega arith, omega arith, omega arith, omega arith))

pub date-parts : (p : PeriodName) → is_in_year_as Day p ≡ true → (1 ≤ p.number) × (p.number ≤ 12) × (1 ≤ p.day) × (p.day ≤ month_length p.year p.number)
date-parts p h =
    let a = and_parts (nat_le 1 p.number) (nat_le p.number 12 && (nat_le 1 p.day && nat_le p.day (month_length p.year p.number))) h in
    let b = and_parts (nat_le p.number 12) (nat_le 1 p.day && nat_le p.day (month_length p.year p.number)) a.1 in
    let c = and_parts (nat_le 1 p.day) (nat_le p.day (month_length p.year p.number)) b.1 in
    (leb-true 1 p.number a.0, leb-true p.number 12 b.0, leb-true 1 p.day c.0, leb-true p.day (month_length p.year p.number) c.1)

pub number-parts : (top : ℕ) (p : PeriodName) → (nat_le 1 p.number && (nat_le p.number top && p.day == 1)) ≡ true
    → (1 ≤ p.number) × (p.number ≤ top) × (p.day ≡ 1)
number-parts top p h =
    let a = and_parts (nat_le 1 p.number) (nat_le p.number top && p.day == 1) h in
    let b = and_parts (nat_le p.number top) (p.day == 1) a.1 in
    (leb-true 1 p.number a.0, leb-true p.number top b.0, eqb-true p.day 1 b.1)

-- a period has a day, ends by September 2101, and its number is at most that of a year's last week
abbrev IsBounded : Shape → PeriodName → Type 0
IsBounded s p = (first_place_as s p < end_place_as s p) × (end_place_as s p ≤ days_before_month 2421) × (p.number ≤ 53)

place_as-bounds : (s : Shape) (p : PeriodName) → HasCount s → 1900 ≤ p.year → p.year ≤ 2100 → is_in_year_as s p ≡ true → IsBounded s p
unfolding InYear
place_as-bounds Day p c low high h =
    let parts = date-parts p h in
    let k = month_place p.year p.number in
    let year : 1900 + k / 12 ≡ p.year = omega arith in
    let month : k % 12 + 1 ≡ p.number = omega arith in
    let next : days_before_month (k + 1) ≡ days_before_month k + month_length p.year p.number = rw (year, month) at (days_before_month-next k) in
    let later = days_before_month-later (k + 1) 2421 (omega arith) in
    (omega arith, omega arith, omega arith)
place_as-bounds Week p c low high h =
    let parts = number-parts (weeks_in_year p.year) p h in
    let weeks = weeks_in_year_bounds p.year low (omega arith) in
    let later = days_before_month-later (month_place (p.year + 1) 1) 2421 (omega arith) in
    (omega arith, omega arith, omega arith)
place_as-bounds (Months count opening) p c low high h =
    let parts = number-parts (12 / count) p h in
    let months = months-in_year count c.0 (p.year - 1900) opening p.number parts.0 parts.1 c.1 in
    let start = start_month count opening p.year p.number in
    let longer = days_before_month-later start (start + count) (omega arith) in
    let later = days_before_month-later (start + count) 2421 (omega arith) in
    (omega arith, omega arith, omega arith)

pub place-bounds : (p : PeriodName) → is_listed p ≡ true
    → (first_place p < end_place p) × (end_place p ≤ days_before_month 2421) × (p.number ≤ 53) × (p.year ≤ 2100)
unfolding first_place end_place
place-bounds p h =
    let parts = listed-parts p h in
    let b = place_as-bounds (shape_of p.kind) p (shape_of-count p.kind) parts.0 parts.1 parts.2 in
    (b.0, b.1, b.2, parts.1)

-- the first day is not after the last, and both are small
pub day-bounds : (p : PeriodName) → is_listed p ≡ true → (neg_ℤ (pos 25567) ≤ℤ first_day p) × (first_day p ≤ℤ last_day p) × (last_day p ≤ℤ pos 48119)
unfolding first_day last_day
day-bounds p h =
    let b = place-bounds p h in
    let far = days_before_month-end in
    (omega (arith, signed_arith), omega (arith, signed_arith), omega (arith, signed_arith))
