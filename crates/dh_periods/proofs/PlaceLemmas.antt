-- A period is found again by its place, and by each of its days.
use Rattle.std.proofs.Common.{◌≡◌, ◌∙◌, ℕ, ◌+◌, ◌-◌, ◌*◌, ◌/◌, ◌%◌, ◌<◌, ◌≤◌, true, refl, sym, ap, arith, ◌^◌, ℤ, pos, ◌+ℤ◌, to_z, of_z, to_z-of_z}
use Rattle.std.proofs.Common.{FitsSigned, w16}
use Rattle.std.specs.Prelude.{unsigned_abs}
use Rattle.jiff_core.proofs.SignedLemmas.{signed_arith}
use Rattle.dh_periods.specs.declared.kind.PeriodType.{PeriodType}
use Rattle.dh_periods.specs.declared.kind.Shape.{Shape}
use Rattle.dh_periods.specs.declared.kind.Shape.TheVariants.{Day, Week, Months}
use Rattle.dh_periods.specs.declared.name.PeriodName.{PeriodName}
use Rattle.dh_periods.specs.Calendar.{month_length, days_before_month, month_place, day_place, first_week, weeks_in_year, month_with, year_with}
use Rattle.dh_periods.specs.Types.{shape_of}
use Rattle.dh_periods.specs.Days.{is_in_year_as, is_listed, first_place_as, end_place_as, first_place, end_place, first_day, last_day, start_month}
use Rattle.dh_periods.specs.Places.{ordinal_as, ordinal_of, nth_as, nth_period, place_as, place_with, year_of}
use Rattle.dh_periods.proofs.CalendarLemmas.{days_before_month-next, days_before_month-later, month_with-is, month_with-from, month_with-before}
use Rattle.dh_periods.proofs.CalendarLemmas.{month_with-bounds, days_before_month-zero}
use Rattle.dh_periods.proofs.JiffLemmas.{weeks_in_year_bounds}
use Rattle.dh_periods.proofs.InverseLemmas.{week-of}
use Rattle.dh_periods.proofs.ListedLemmas.{listed-parts}
use Rattle.dh_periods.proofs.BoundLemmas.{IsCount, HasCount, shape_of-count, by_count, date-parts, number-parts}

name-is : (kind : PeriodType) (y n d : ℕ) (p : PeriodName) → kind ≡ p.kind → y ≡ p.year → n ≡ p.number → d ≡ p.day
    → record { kind = kind; year = y; number = n; day = d } ≡ p
name-is kind y n d p a b c e = rw (a, b, c, e) refl

-- the month with a date
date-month : (p : PeriodName) → 1900 ≤ p.year → is_in_year_as Day p ≡ true → month_with (day_place p.year p.number p.day) ≡ month_place p.year p.number
date-month p low h =
    let parts = date-parts p h in
    let k = month_place p.year p.number in
    let year : 1900 + k / 12 ≡ p.year = omega arith in
    let month : k % 12 + 1 ≡ p.number = omega arith in
    let next : days_before_month (k + 1) ≡ days_before_month k + month_length p.year p.number = rw (year, month) at (days_before_month-next k) in
    month_with-is k (day_place p.year p.number p.day) (omega arith) (omega arith)

-- the month with a month's first day
first-month : (k : ℕ) → month_with (days_before_month k) ≡ k
first-month k =
    let later = days_before_month-later k (k + 1) (omega arith) in
    month_with-is k (days_before_month k) (omega arith) (omega arith)

-- the months of a year, in periods of so many
InMonths : ℕ → Type 0
InMonths c = (year opening n month : ℕ) → 1 ≤ n → n ≤ 12 / c → opening < c
    → 12 * year + opening + c * (n - 1) ≤ month → month < 12 * year + opening + c * (n - 1) + c
    → ((month - opening) / c ≡ 12 / c * year + (n - 1)) × ((12 / c * year + (n - 1)) / (12 / c) ≡ year) × ((12 / c * year + (n - 1)) % (12 / c) + 1 ≡ n)
    × ((12 * year + opening + c * (n - 1)) / 12 ≡ year)

in-months : (c : ℕ) → IsCount c → InMonths c
unfolding InMonths
in-months = by_count InMonths
    (λ year o n m low high opens from to. (omega arith, omega arith, omega arith, omega arith))
    (λ year o n m low high opens from to. (omega arith, omega arith, omega arith, omega arith))
    (λ year o n m low high opens from to. (omega arith, omega arith, omega arith, omega arith))
    (λ year o n m low high opens from to. (omega arith, omega arith, omega arith, omega arith))
    (λ year o n m low high opens from to. (omega arith, omega arith, omega arith, omega arith))

count-least : (c : ℕ) → IsCount c → 1 ≤ c
count-least = by_count (λ (c : ℕ). 1 ≤ c) (omega arith) (omega arith) (omega arith) (omega arith) (omega arith)

months-at : (c : ℕ) → IsCount c → (year opening n month : ℕ) → 1 ≤ n → n ≤ 12 / c → opening < c
    → 12 * year + opening + c * (n - 1) ≤ month → month < 12 * year + opening + c * (n - 1) + c
    → ((month - opening) / c ≡ 12 / c * year + (n - 1)) × ((12 / c * year + (n - 1)) / (12 / c) ≡ year) × ((12 / c * year + (n - 1)) % (12 / c) + 1 ≡ n)
    × ((12 * year + opening + c * (n - 1)) / 12 ≡ year)
unfolding InMonths
months-at c h = in-months c h

pub nth_as-kind : (s : Shape) (kind : PeriodType) (i : ℕ) → (nth_as s kind i).kind ≡ kind
nth_as-kind Day kind i = refl
nth_as-kind Week kind i = refl
nth_as-kind (Months count opening) kind i = refl

-- what a shape's places say of a period
record IsPlaced (s : Shape) (p : PeriodName) : Type 0 where
  pub again : nth_as s p.kind (ordinal_as s p) ≡ p
  pub days : (n : ℕ) → first_place_as s p ≤ n → n < end_place_as s p → place_as s n ≡ ordinal_as s p

placed-as : (s : Shape) (p : PeriodName) → HasCount s → 1900 ≤ p.year → p.year ≤ 2100 → is_in_year_as s p ≡ true → IsPlaced s p
placed-as Day p c low high h =
    let parts = date-parts p h in
    let month = date-month p low h in
    record {
      again = name-is p.kind _ _ _ p refl (rw month (omega arith)) (rw month (omega arith)) (rw month (omega arith));
      days = λ n from to. omega arith;
    }
placed-as Week p c low high h =
    let parts = number-parts (weeks_in_year p.year) p h in
    let weeks = weeks_in_year_bounds p.year low (omega arith) in
    let year = week-of p.year (first_week p.year + (p.number - 1)) low (omega arith) (omega arith) in
    record {
      again = name-is p.kind _ _ _ p refl year (rw year (omega arith)) (sym parts.2);
      days = λ n from to. omega arith;
    }
placed-as (Months count opening) p c low high h =
    let parts = number-parts (12 / count) p h in
    let year = p.year - 1900 in
    let start = start_month count opening p.year p.number in
    let least = count-least count c.0 in
    let here = months-at count c.0 year opening p.number start parts.0 parts.1 c.2 (omega arith) (omega arith) in
    record {
      again = name-is p.kind _ _ _ p refl (rw here.1 (omega arith)) here.2 (sym parts.2);
      days =
          λ n from to. (months-at count c.0 year opening p.number (month_with n) parts.0 parts.1 c.2 (month_with-from start n from)
          (month_with-before (start + count) n to)).0;
    }

-- the year of the first day, but for weeks
year-as : (s : Shape) (p : PeriodName) → HasCount s → 1900 ≤ p.year → is_in_year_as s p ≡ true → (s ≡ Week → ⊥) → year_with (first_place_as s p) ≡ p.year
year-as Day p c low h other = let parts = date-parts p h in rw (date-month p low h) (omega arith)
year-as Week p c low h other = absurd (other refl)
year-as (Months count opening) p c low h other =
    let parts = number-parts (12 / count) p h in
    let start = start_month count opening p.year p.number in
    let least = count-least count c.0 in
    let here = months-at count c.0 (p.year - 1900) opening p.number start parts.0 parts.1 c.2 (omega arith) (omega arith) in
    rw (first-month start) (rw here.3 (omega arith))

placed : (p : PeriodName) → is_listed p ≡ true → IsPlaced (shape_of p.kind) p
placed p h = let parts = listed-parts p h in placed-as (shape_of p.kind) p (shape_of-count p.kind) parts.0 parts.1 parts.2

-- the period with the place of a period is that period
pub nth_period-ordinal : (p : PeriodName) → is_listed p ≡ true → nth_period p.kind (ordinal_of p) ≡ p
unfolding nth_period ordinal_of
nth_period-ordinal p h = (placed p h).again

-- each day of a period is in the place of that period
pub place_with-day : (p : PeriodName) (n : ℕ) → is_listed p ≡ true → first_place p ≤ n → n < end_place p → place_with p.kind n ≡ ordinal_of p
unfolding place_with ordinal_of first_place end_place
place_with-day p n h from to = (placed p h).days n from to

pub year_of-written : (p : PeriodName) → is_listed p ≡ true → (shape_of p.kind ≡ Week → ⊥) → year_of p ≡ p.year
unfolding year_of first_place
year_of-written p h other = let parts = listed-parts p h in year-as (shape_of p.kind) p (shape_of-count p.kind) parts.0 parts.2 other

pub nth_period-kind : (kind : PeriodType) (i : ℕ) → (nth_period kind i).kind ≡ kind
unfolding nth_period
nth_period-kind kind i = nth_as-kind (shape_of kind) kind i

-- what one shape says is what the whole definition says
pub candidate-as : (s : Shape) (kind : PeriodType) (n : ℕ) (r : PeriodName) → s ≡ shape_of kind → r ≡ nth_as s kind (place_as s n)
    → r ≡ nth_period kind (place_with kind n)
unfolding nth_period place_with
candidate-as s kind n r same e = rw (← same) e

pub nth-as : (s : Shape) (kind : PeriodType) (i : ℕ) (r : PeriodName) → s ≡ shape_of kind → r ≡ nth_as s kind i → r ≡ nth_period kind i
unfolding nth_period
nth-as s kind i r same e = rw (← same) e

-- the places of the periods that there are
abbrev pub IsSmall : Shape → ℕ → Type 0
IsSmall Day i = i ≤ 80_000
IsSmall Week i = i ≤ 12_000
IsSmall (Months count opening) i = i ≤ 3_000

few-months : (c : ℕ) → IsCount c → (i : ℕ) → 1900 + i / (12 / c) ≤ 2100 → i ≤ 3000
few-months =
    by_count (λ (c : ℕ). (i : ℕ) → 1900 + i / (12 / c) ≤ 2100
    → i ≤ 3000) (λ i h. omega arith) (λ i h. omega arith) (λ i h. omega arith) (λ i h. omega arith) (λ i h. omega arith)

year-small : (n : ℕ) → year_with n ≤ 2100 → n ≤ 80000
year-small n h =
    let b = month_with-bounds n in
    let later = days_before_month-later 0 (month_with n + 1) (omega arith) in
    omega (arith, days_before_month-zero)

nth-small-as : (s : Shape) (kind : PeriodType) (i : ℕ) → HasCount s → (nth_as s kind i).year ≤ 2100 → IsSmall s i
nth-small-as Day kind i c h = year-small i h
nth-small-as Week kind i c h = let b = year-small (7 * i + 3) h in omega arith
nth-small-as (Months count opening) kind i c h = few-months count c.0 i h

pub nth-small : (s : Shape) (kind : PeriodType) (i : ℕ) → s ≡ shape_of kind → is_listed (nth_period kind i) ≡ true → IsSmall s i
unfolding nth_period
nth-small s kind i same h =
    let parts = listed-parts (nth_as (shape_of kind) kind i) h in
    let small = nth-small-as (shape_of kind) kind i (shape_of-count kind) parts.1 in
    rw same small

-- the place of a period from its first day, by its shape
pub first_place-day : (p : PeriodName) → Day ≡ shape_of p.kind → first_place p ≡ ordinal_of p
unfolding first_place ordinal_of
first_place-day p same = rw (← same) refl

pub first_place-week : (p : PeriodName) → Week ≡ shape_of p.kind → first_place p ≡ 7 * ordinal_of p
unfolding first_place ordinal_of
first_place-week p same = rw (← same) refl

pub ordinal_of-months : (p : PeriodName) (count opening : ℕ) → Months count opening ≡ shape_of p.kind
    → ordinal_of p ≡ 12 / count * (p.year - 1900) + (p.number - 1)
unfolding ordinal_of
ordinal_of-months p count opening same = rw (← same) refl

small-any : (s : Shape) (i : ℕ) → IsSmall s i → i ≤ 80000
small-any Day i h = h
small-any Week i h = omega arith
small-any (Months count opening) i h = omega arith

pub ordinal_of-small : (p : PeriodName) → is_listed p ≡ true → ordinal_of p ≤ 80000
ordinal_of-small p h =
    let there : is_listed (nth_period p.kind (ordinal_of p)) ≡ true = rw (nth_period-ordinal p h) h in
    small-any (shape_of p.kind) (ordinal_of p) (nth-small (shape_of p.kind) p.kind (ordinal_of p) refl there)

number-as : (s : Shape) (p : PeriodName) → is_in_year_as s p ≡ true → 1 ≤ p.number
number-as Day p h = (date-parts p h).0
number-as Week p h = (number-parts (weeks_in_year p.year) p h).0
number-as (Months count opening) p h = (number-parts (12 / count) p h).0

-- the bounds of a period's year and number
pub name-bounds : (p : PeriodName) → is_listed p ≡ true → (1900 ≤ p.year) × (p.year ≤ 2100) × (1 ≤ p.number)
name-bounds p h = let parts = listed-parts p h in (parts.0, parts.1, number-as (shape_of p.kind) p parts.2)

-- the number of days since 1 January 1900 of a first day is its place
pub first_place-from : (p : PeriodName) (n : ℕ) (first : ℤ) → first ≡ first_day p → pos n ≡ first +ℤ pos 25567 → n ≡ first_place p
unfolding first_day
first_place-from p n first e counted = omega (arith, signed_arith)

-- a year comes back from the machine's number for it
pub year-read : (z : ℤ) (y : ℕ) → z ≡ pos y → y < 2 ^ 15 → unsigned_abs (to_z w16 (of_z w16 z)) ≡ y
year-read z y e h =
    let fits : FitsSigned w16 (pos y) = omega (arith, signed_arith) in
    let back : to_z w16 (of_z w16 (pos y)) ≡ pos y = to_z-of_z fits in
    rw e (rw back refl)

pub year_of-place : (p : PeriodName) (n : ℕ) → n ≡ first_place p → year_with n ≡ year_of p
unfolding year_of
year_of-place p n e = ap (λ (k : ℕ). year_with k) e

pub place-as : (s : Shape) (kind : PeriodType) (n r : ℕ) → s ≡ shape_of kind → r ≡ place_as s n → r ≡ place_with kind n
unfolding place_with
place-as s kind n r same e = rw (← same) e

-- where the period with a place begins, as days since 1 January 1900
start_as : Shape → ℕ → ℕ
start_as Day i = i
start_as Week i = 7 * i
start_as (Months count opening) i = days_before_month (opening + count * i)

-- the months before the nth period of a year
MonthsBefore : ℕ → Type 0
MonthsBefore c = (year opening n : ℕ) → 1 ≤ n
    → (12 * year + opening + c * (n - 1) ≡ opening + c * (12 / c * year + (n - 1)))
    × (12 * year + opening + c * (n - 1) + c ≡ opening + c * (12 / c * year + (n - 1) + 1))

months-before : (c : ℕ) → IsCount c → MonthsBefore c
unfolding MonthsBefore
months-before = by_count MonthsBefore
    (λ year o n low. (omega arith, omega arith))
    (λ year o n low. (omega arith, omega arith))
    (λ year o n low. (omega arith, omega arith))
    (λ year o n low. (omega arith, omega arith))
    (λ year o n low. (omega arith, omega arith))

starts-as : (s : Shape) (p : PeriodName) → HasCount s → is_in_year_as s p ≡ true
    → (first_place_as s p ≡ start_as s (ordinal_as s p)) × (end_place_as s p ≡ start_as s (ordinal_as s p + 1))
unfolding start_as MonthsBefore
starts-as Day p c h = (refl, refl)
starts-as Week p c h = (refl, omega arith)
starts-as (Months count opening) p c h =
    let parts = number-parts (12 / count) p h in
    let months = months-before count c.0 (p.year - 1900) opening p.number parts.0 in
    (ap days_before_month months.0, ap days_before_month months.1)

-- the period with the next place begins on the day after this one
pub ordinal_of-next : (p q : PeriodName) → is_listed p ≡ true → is_listed q ≡ true → q.kind ≡ p.kind → ordinal_of q ≡ ordinal_of p + 1
    → first_day q ≡ last_day p +ℤ pos 1
unfolding first_place end_place first_day last_day ordinal_of
ordinal_of-next p q hp hq same next =
    let lp = listed-parts p hp in
    let lq = listed-parts q hq in
    let sp = starts-as (shape_of p.kind) p (shape_of-count p.kind) lp.2 in
    let sq = starts-as (shape_of q.kind) q (shape_of-count q.kind) lq.2 in
    let place : ordinal_as (shape_of q.kind) q ≡ ordinal_as (shape_of p.kind) p + 1 = next in
    let begin : first_place_as (shape_of q.kind) q ≡ end_place_as (shape_of p.kind) p =
    sq.0 ∙ ap (start_as (shape_of q.kind)) place ∙ ap (λ (k : PeriodType). start_as (shape_of k) (ordinal_as (shape_of p.kind) p + 1)) same ∙ sym sp.1 in
    omega (arith, signed_arith, begin)
