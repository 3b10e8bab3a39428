-- The library's date and week of a day are those of this crate's calendar.
use Rattle.std.proofs.Common.{◌≡◌, ℕ, ◌+◌, ◌-◌, ◌*◌, ◌/◌, ◌%◌, ◌<◌, ◌≤◌, inl, inr, false, refl, ap, subst, ◌∙◌, arith, ℤ, pos, negsuc, neg_ℤ, ◌+ℤ◌, ◌<ℤ◌, ◌≤ℤ◌}
use Rattle.std.specs.Prelude.{int_lt}
use Rattle.std.proofs.lemmas.Bool.{cases_Bool}
use Rattle.jiff_core.specs.declared.civil.date.Date.{Date}
use Rattle.jiff_core.specs.declared.civil.iso_week_date.ISOWeekDate.{ISOWeekDate}
use Rattle.jiff_core.specs.declared.civil.weekday.Weekday.{Weekday}
use Rattle.jiff_core.specs.declared.civil.weekday.Weekday.TheVariants.{Monday, Tuesday, Wednesday, Thursday, Friday, Saturday, Sunday}
use Rattle.jiff_core.specs.Weekday.{monday_zero}
use Rattle.jiff_core.specs.Date.{epoch_day}
use Rattle.jiff_core.specs.IsoWeek.{days_from_iso, weeks_in_year as iso_weeks}
use Rattle.jiff_core.specs.IsoWeekDate.{iso_epoch_day}
use Rattle.std.specs.Int.{IsInRange}
use Rattle.jiff_core.specs.Calendar.{days_in_month, iso_year_start, IsYear}
use Rattle.jiff_core.proofs.DateLemmas.{civil}
use Rattle.jiff_core.proofs.IsoWeekLemmas.{weeks_in_year-next, iso_year_start_near}
use Rattle.jiff_core.proofs.CalendarLemmas.{day_count-lt_year, day_count-later_year, days_from_civil-day_count, days_in_year_bounds}
use Rattle.jiff_core.proofs.SignedLemmas.{signed_arith}
use borrow.Author.Differences.{lt-true, lt-false}
use Rattle.dh_periods.specs.Calendar.{month_length, days_before_month, month_place, day_place, unix_day, first_week, weeks_in_year, month_with, year_with}
use Rattle.dh_periods.proofs.CalendarLemmas.{month_with-is, month_with-from, month_with-before, days_before_month-next, days_before_month-zero}
use Rattle.dh_periods.proofs.JiffLemmas.{day_count-first, epoch_day-is, iso_year_start-is, weeks_in_year-is, days_from_iso-is}

monday_zero-bound : (w : Weekday) → monday_zero w < 7
monday_zero-bound Monday = omega arith
monday_zero-bound Tuesday = omega arith
monday_zero-bound Wednesday = omega arith
monday_zero-bound Thursday = omega arith
monday_zero-bound Friday = omega arith
monday_zero-bound Saturday = omega arith
monday_zero-bound Sunday = omega arith

-- a year that isn't before 1900 is a number
natural : (z : ℤ) → int_lt z (pos 1900) ≡ false → (y : ℕ) × (z ≡ pos y) × (1900 ≤ y)
natural (pos y) e = let h = lt-false (pos y) (pos 1900) e in (y, refl, omega arith)
natural (negsuc y) e = let h = lt-false (negsuc y) (pos 1900) e in absurd (omega (arith, signed_arith))

date-year : (date : Date) (n : ℕ) → epoch_day date ≡ unix_day n → int_lt date.year (pos 1900) ≡ false
date-year date n e =
    elim (cases_Bool (int_lt date.year (pos 1900))) [
      | inr late ↦ late
      | inl early ↦
          let before = lt-true date.year (pos 1900) early in
          let lt : date.year <ℤ pos 1900 = omega (arith, signed_arith) in
          let less = day_count-lt_year date.year date.month date.day (pos 1900) 1 1 (civil date) (omega arith) lt in
          let counted = days_from_civil-day_count date.year date.month date.day in
          let first = day_count-first in
          absurd (omega (arith, signed_arith))
    ]

date-month : (date : Date) (y : ℕ) → date.year ≡ pos y → date.day ≤ month_length y date.month
date-month date y e =
    let days : IsInRange 1 (days_in_month date.year date.month) date.day = (civil date).2 in
    let P : ℤ → Type 0 = λ z. IsInRange 1 (days_in_month z date.month) date.day in
    let same : IsInRange 1 (days_in_month (pos y) date.month) date.day = subst P e days in
    same.1

date-parts-as : (date : Date) (n y : ℕ) → epoch_day date ≡ unix_day n → date.year ≡ pos y → 1900 ≤ y
    → (month_with n ≡ month_place y date.month) × (day_place y date.month date.day ≡ n)
date-parts-as date n y e year low =
    let month_in = date.month_in in
    let day_in = date.day_in in
    let k = month_place y date.month in
    let same : epoch_day date ≡ unix_day (day_place y date.month date.day) = epoch_day-is date y date.month date.day low year refl refl in
    let place : day_place y date.month date.day ≡ n = omega (arith, signed_arith) in
    let ye : 1900 + k / 12 ≡ y = omega arith in
    let me : k % 12 + 1 ≡ date.month = omega arith in
    let next : days_before_month (k + 1) ≡ days_before_month k + month_length y date.month = rw (ye, me) at (days_before_month-next k) in
    let last = date-month date y year in
    (month_with-is k n (omega arith) (omega arith), place)

-- the parts of a day's date
pub date-parts : (date : Date) (n : ℕ) → epoch_day date ≡ unix_day n
    → (date.year ≡ pos (year_with n)) × (date.month ≡ month_with n % 12 + 1) × (date.day ≡ n - days_before_month (month_with n) + 1)
date-parts date n e =
    let year = natural date.year (date-year date n e) in
    let y : ℕ = year.0 in
    let year_is : date.year ≡ pos y = year.1 in
    let low : 1900 ≤ y = year.2 in
    let month_in = date.month_in in
    let day_in = date.day_in in
    let parts = date-parts-as date n y e year_is low in
    let month : month_with n ≡ month_place y date.month = parts.0 in
    let place : day_place y date.month date.day ≡ n = parts.1 in
    let ye : y ≡ 1900 + month_place y date.month / 12 = omega arith in
    rw month (year_is ∙ ap pos ye, omega arith, omega arith)

-- a year of weeks that is followed by one up to 1900 ends before 1900
start-early : (next : ℤ) → neg_ℤ (pos 9999) ≤ℤ next → next ≤ℤ pos 1900 → iso_year_start next ≤ℤ neg_ℤ (pos 25567)
start-early next low high =
    elim (cases_Bool (int_lt next (pos 1900))) [
      | inl early ↦
          let before = lt-true next (pos 1900) early in
          let near = iso_year_start_near next (omega (arith, signed_arith), omega (arith, signed_arith)) in
          let later = day_count-later_year next (pos 1900) (omega (arith, signed_arith)) (omega (arith, signed_arith)) in
          let days = days_in_year_bounds next in
          let counted = days_from_civil-day_count next 1 1 in
          let first = day_count-first in
          omega (arith, signed_arith)
      | inr late ↦
          let after = lt-false next (pos 1900) late in
          let is : next ≡ pos 1900 = omega (arith, signed_arith) in
          let start = iso_year_start-is 1900 (omega arith) in
          let none = days_before_month-zero in
          rw is (omega (arith, signed_arith))
    ]

week-year : (w : ISOWeekDate) (n : ℕ) → iso_epoch_day w ≡ unix_day n → int_lt w.year (pos 1900) ≡ false
unfolding days_from_iso
week-year w n e =
    elim (cases_Bool (int_lt w.year (pos 1900))) [
      | inr late ↦ late
      | inl early ↦
          let before = lt-true w.year (pos 1900) early in
          let year_in = w.year_in in
          let week_in = w.week_in in
          let weeks = weeks_in_year-next w.year (w.year +ℤ pos 1) year_in refl in
          let day = monday_zero-bound w.weekday in
          let end = start-early (w.year +ℤ pos 1) (omega (arith, signed_arith)) (omega (arith, signed_arith)) in
          absurd (omega (arith, signed_arith))
    ]

-- the year with the Thursday of a week is the year of the week
pub week-of : (y i : ℕ) → 1900 ≤ y → first_week y ≤ i → i < first_week (y + 1) → year_with (7 * i + 3) ≡ y
week-of y i low from to =
    let a = month_with-from (month_place y 1) (7 * i + 3) (omega arith) in
    let b = month_with-before (month_place (y + 1) 1) (7 * i + 3) (omega arith) in
    omega arith

week-parts-as : (w : ISOWeekDate) (i y : ℕ) → iso_epoch_day w ≡ unix_day (7 * i) → w.year ≡ pos y → 1900 ≤ y
    → (w.year ≡ pos (year_with (7 * i + 3))) × (w.week ≡ i - first_week (year_with (7 * i + 3)) + 1)
week-parts-as w i y e year low =
    let P : ℤ → Type 0 = λ z. (IsYear z × IsInRange 1 (iso_weeks z) w.week) × (days_from_iso z w.week w.weekday ≡ unix_day (7 * i)) in
    let at : (IsYear (pos y) × IsInRange 1 (iso_weeks (pos y)) w.week) × (days_from_iso (pos y) w.week w.weekday ≡ unix_day (7 * i)) =
    subst P year ((w.year_in, w.week_in), e) in
    let top : y ≤ 9999 = omega (arith, signed_arith, at.0.0.1) in
    let weeks = weeks_in_year-is y low top in
    let day = monday_zero-bound w.weekday in
    let counted = days_from_iso-is y w.week w.weekday low in
    let place : 7 * (first_week y + (w.week - 1)) + monday_zero w.weekday ≡ 7 * i = omega (arith, signed_arith) in
    let last : w.week ≤ weeks_in_year y = rw weeks at (at.0.1.1) in
    let same = week-of y i low (omega arith) (omega arith) in
    rw same (year, omega arith)

-- the year and the number of a week
pub week-parts : (w : ISOWeekDate) (i : ℕ) → iso_epoch_day w ≡ unix_day (7 * i)
    → (w.year ≡ pos (year_with (7 * i + 3))) × (w.week ≡ i - first_week (year_with (7 * i + 3)) + 1)
week-parts w i e =
    let year = natural w.year (week-year w (7 * i) e) in
    week-parts-as w i year.0 e year.1 year.2
