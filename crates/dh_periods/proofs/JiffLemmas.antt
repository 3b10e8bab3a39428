-- The library's dates and weeks are those of this crate's calendar.
use Rattle.std.proofs.Common.{◌≡◌, ℕ, zero, suc, ◌+◌, ◌-◌, ◌*◌, ◌/◌, ◌%◌, ◌≤◌, ◌⊎◌, inl, inr, refl, ap, ◌∙◌, arith, ℤ, pos, ◌+ℤ◌}
use Rattle.std.proofs.lemmas.Bool.{cases_lt}
use Rattle.jiff_core.specs.declared.civil.weekday.Weekday.{Weekday}
use Rattle.jiff_core.specs.declared.civil.weekday.Weekday.TheVariants.{Monday}
use Rattle.jiff_core.specs.Weekday.{monday_zero}
use Rattle.jiff_core.specs.declared.civil.date.Date.{Date}
use Rattle.jiff_core.specs.Date.{epoch_day}
use Rattle.jiff_core.specs.IsoWeek.{days_from_iso, weeks_in_year as iso_weeks}
use Rattle.jiff_core.proofs.IsoWeekLemmas.{weeks_in_year-next}
use Rattle.jiff_core.specs.Calendar.{day_count, days_from_civil, iso_year_start}
use Rattle.jiff_core.proofs.CalendarLemmas.{day_count-next_month, day_count-next_year, day_count-last_of_year, day_count-day, days_from_civil-day_count}
use Rattle.jiff_core.proofs.CalendarLemmas.{weekday_number-parts}
use Rattle.jiff_core.proofs.MarchLemmas.{day_count-early, day_count-late}
use Rattle.jiff_core.proofs.SignedLemmas.{signed_arith}
use Rattle.dh_periods.specs.Calendar.{month_length, days_before_month, month_place, day_place, unix_day, first_week, weeks_in_year}
use Rattle.dh_periods.proofs.CalendarLemmas.{days_before_month-zero, days_before_month-next}

-- the library counts days from 1 January of the year -10000
pub day_count-first : day_count (pos 1900) 1 1 ≡ 4_346_386
day_count-first = day_count-early (pos 1900) 11899 1 1 refl (omega arith) (omega arith) (omega arith)

day_count-december : (y : ℤ) → day_count y 12 1 + 30 ≡ day_count y 12 31
day_count-december y = omega (arith, day_count-day y 12 1 31 (omega arith) (omega arith))

-- the first day of the next month, in the same year or the next
day_count-step : (y m y₂ m₂ : ℕ) → 1 ≤ m → ((y₂ ≡ y) × (m₂ ≡ m + 1)) ⊎ ((m ≡ 12) × (y₂ ≡ y + 1) × (m₂ ≡ 1))
    → day_count (pos y₂) m₂ 1 ≡ day_count (pos y) m 1 + month_length y m
day_count-step y m y₂ m₂ h (inl same) = rw (same.0, same.1) (day_count-next_month (pos y) m h)
day_count-step y m y₂ m₂ h (inr next) =
    let plus : pos (y + 1) ≡ pos y +ℤ pos 1 = refl in
    rw (next.0, next.1, next.2) (omega (
      arith,
      day_count-next_year (pos y) (pos (y + 1)) (omega (arith, signed_arith)) plus,
      day_count-last_of_year (pos y),
      day_count-december (pos y),
    ))

pub day_count-month : (k : ℕ) → day_count (pos (1900 + k / 12)) (k % 12 + 1) 1 ≡ days_before_month k + 4_346_386
day_count-month zero = rw days_before_month-zero day_count-first
day_count-month (suc k) =
    let before = day_count-month k in
    let next = days_before_month-next k in
    let along : ((1900 + suc k / 12 ≡ 1900 + k / 12) × (suc k % 12 + 1 ≡ k % 12 + 1 + 1))
    ⊎ ((k % 12 + 1 ≡ 12) × (1900 + suc k / 12 ≡ 1900 + k / 12 + 1) × (suc k % 12 + 1 ≡ 1)) =
    elim (cases_lt (k % 12) 11) [
      | inl less ↦ inl (omega arith, omega arith)
      | inr last ↦ inr (omega arith, omega arith, omega arith)
    ] in
    let step = day_count-step (1900 + k / 12) (k % 12 + 1) (1900 + suc k / 12) (suc k % 12 + 1) (omega arith) along in
    let back : suc k ≡ k + 1 = omega arith in
    let grown : days_before_month (suc k) ≡ days_before_month k + month_length (1900 + k / 12) (k % 12 + 1) = rw back next in
    omega (arith, step, before, grown)

-- the day number of a date of this crate's years
pub days_from_civil-is : (y m d : ℕ) → 1900 ≤ y → 1 ≤ m → m ≤ 12 → 1 ≤ d → days_from_civil (pos y) m d ≡ unix_day (day_place y m d)
days_from_civil-is y m d year low high day =
    let k = month_place y m in
    let ye : 1900 + k / 12 ≡ y = omega arith in
    let me : k % 12 + 1 ≡ m = omega arith in
    let first : day_count (pos y) m 1 ≡ days_before_month k + 4_346_386 = rw (ye, me) at (day_count-month k) in
    let days = day_count-day (pos y) m 1 d (omega arith) day in
    let counted = days_from_civil-day_count (pos y) m d in
    omega (arith, signed_arith, first, days, counted)

-- the library's year of weeks begins with this crate's week 1
pub iso_year_start-is : (y : ℕ) → 1900 ≤ y → iso_year_start (pos y) ≡ unix_day (7 * first_week y)
iso_year_start-is y year =
    let fourth : days_from_civil (pos y) 1 4 ≡ unix_day (day_place y 1 4) = days_from_civil-is y 1 4 year (omega arith) (omega arith) (omega arith) in
    let weekday = weekday_number-parts (days_from_civil (pos y) 1 4) in
    omega (arith, signed_arith, fourth, weekday)

pub weeks_in_year-is : (y : ℕ) → 1900 ≤ y → y ≤ 9999 → iso_weeks (pos y) ≡ weeks_in_year y
weeks_in_year-is y year top =
    let here = iso_year_start-is y year in
    let there = iso_year_start-is (y + 1) (omega arith) in
    let next = weeks_in_year-next (pos y) (pos (y + 1)) (omega (arith, signed_arith), omega (arith, signed_arith)) refl in
    omega (arith, signed_arith, here, there, next)

pub days_from_iso-is : (y week : ℕ) (w : Weekday) → 1900 ≤ y → days_from_iso (pos y) week w ≡ unix_day (7 * (first_week y + (week - 1)) + monday_zero w)
unfolding days_from_iso
days_from_iso-is y week w year =
    let here = iso_year_start-is y year in
    omega (arith, signed_arith, here)

-- the day number of a date, from what its parts are
pub epoch_day-is : (date : Date) (y m d : ℕ) → 1900 ≤ y → date.year ≡ pos y → date.month ≡ m → date.day ≡ d → epoch_day date ≡ unix_day (day_place y m d)
epoch_day-is date y m d year ye me de =
    let month = date.month_in in
    let day = date.day_in in
    rw (ye, me, de) (days_from_civil-is y m d year (omega arith) (omega arith) (omega arith))

-- a year of weeks has 52 or 53
pub weeks_in_year_bounds : (y : ℕ) → 1900 ≤ y → y ≤ 9999 → (52 ≤ weeks_in_year y) × (weeks_in_year y ≤ 53)
weeks_in_year_bounds y year top =
    let next = weeks_in_year-next (pos y) (pos (y + 1)) (omega (arith, signed_arith), omega (arith, signed_arith)) refl in
    let same = weeks_in_year-is y year top in
    (omega arith, omega arith)

-- the Monday of a week
pub days_from_iso-monday : (y week : ℕ) → 1900 ≤ y → days_from_iso (pos y) week Monday ≡ unix_day (7 * (first_week y + (week - 1)))
days_from_iso-monday y week year =
    let none : 7 * (first_week y + (week - 1)) + 0 ≡ 7 * (first_week y + (week - 1)) = omega arith in
    days_from_iso-is y week Monday year ∙ ap unix_day none

-- 1 October 2101, after the last day of all periods
pub days_before_month-end : days_before_month 2421 ≡ 73_687
days_before_month-end =
    let counted : day_count (pos 2101) 10 1 ≡ days_before_month 2421 + 4_346_386 = day_count-month 2421 in
    let value : day_count (pos 2101) 10 1 ≡ 4_420_073 = day_count-late (pos 2101) 12101 10 1 refl (omega arith) (omega arith) (omega arith) in
    omega (arith, counted, value)
