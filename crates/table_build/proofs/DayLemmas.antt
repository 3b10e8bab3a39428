-- Days that are read lie in the years from 1900 to 2100.
use Rattle.std.proofs.Common.{◌≡◌, ◌∙◌, ℕ, ◌+◌, ◌/◌, ◌%◌, ◌<◌, ◌≤◌, true, List, Some, sym, ap, arith, ℤ, pos, neg_ℤ, ◌-ℤ◌, ◌≤ℤ◌}
use Rattle.std.specs.Prelude.{option_and_then}
use Rattle.std.proofs.lemmas.Bool.{and_from}
use Rattle.std.proofs.lemmas.Int.{ints}
use Rattle.dh_periods.specs.declared.kind.PeriodType.TheVariants.{Daily}
use Rattle.dh_periods.specs.declared.name.PeriodName.{PeriodName}
use Rattle.dh_periods.specs.Calendar.{month_length, days_before_month, month_place, day_place}
use Rattle.dh_periods.specs.Types.{shape_of}
use Rattle.dh_periods.specs.Days.{is_in_year_as, is_listed, listed, first_place, first_place_as, first_day}
use Rattle.dh_periods.specs.Civil.{read_date, civil_of}
use Rattle.dh_periods.proofs.CalendarLemmas.{days_before_month-next, days_before_month-later}
use Rattle.dh_periods.proofs.JiffLemmas.{days_before_month-end}
use Rattle.dh_periods.proofs.ListedLemmas.{listed-parts}
use Rattle.dh_periods.proofs.BoundLemmas.{date-parts}
use Rattle.dh_periods.proofs.HeldLemmas.{int_le-at}
use Rattle.dh_periods.proofs.CivilLemmas.{read_date-is}
use Rattle.dh_periods.proofs.TextLemmas.{some_when, and_then-some, map-some}
use Rattle.dh_base.specs.Limits.{is_day}

-- 1 January 2101
pub last-month : days_before_month 2412 ≡ 73_414
last-month =
    let january : days_before_month 2413 ≡ days_before_month 2412 + 31 = days_before_month-next 2412 in
    let february : days_before_month 2414 ≡ days_before_month 2413 + 28 = days_before_month-next 2413 in
    let march : days_before_month 2415 ≡ days_before_month 2414 + 31 = days_before_month-next 2414 in
    let april : days_before_month 2416 ≡ days_before_month 2415 + 30 = days_before_month-next 2415 in
    let may : days_before_month 2417 ≡ days_before_month 2416 + 31 = days_before_month-next 2416 in
    let june : days_before_month 2418 ≡ days_before_month 2417 + 30 = days_before_month-next 2417 in
    let july : days_before_month 2419 ≡ days_before_month 2418 + 31 = days_before_month-next 2418 in
    let august : days_before_month 2420 ≡ days_before_month 2419 + 31 = days_before_month-next 2419 in
    let september : days_before_month 2421 ≡ days_before_month 2420 + 30 = days_before_month-next 2420 in
    let end = days_before_month-end in
    omega arith

place-bound : (y m d : ℕ) → 1900 ≤ y → y ≤ 2100 → 1 ≤ m → m ≤ 12 → 1 ≤ d → d ≤ month_length y m → day_place y m d < 73_414
place-bound y m d from to low high first last =
    let k = month_place y m in
    let ye : 1900 + k / 12 ≡ y = omega arith in
    let me : k % 12 + 1 ≡ m = omega arith in
    let next : days_before_month (k + 1) ≡ days_before_month k + month_length y m = days_before_month-next k
    ∙ ap (λ n. days_before_month k + month_length n (k % 12 + 1)) ye ∙ ap (λ n. days_before_month k + month_length y n) me in
    let later = days_before_month-later (k + 1) 2412 (omega arith) in
    let end = last-month in
    omega arith

first_place-bound : (p : PeriodName) → p.kind ≡ Daily → is_listed p ≡ true → first_place p < 73_414
unfolding first_place
first_place-bound p daily l =
    let parts = listed-parts p l in
    let date = date-parts p (ap (λ kind. is_in_year_as (shape_of kind) p) (sym daily) ∙ parts.2) in
    let bound = place-bound p.year p.number p.day parts.0 parts.1 date.0 date.1 date.2 date.3 in
    let place : first_place_as (shape_of p.kind) p ≡ day_place p.year p.number p.day = ap (λ kind. first_place_as (shape_of kind) p) daily in
    omega (arith, place, bound)

unix-bound : (n : ℕ) → n < 73_414 → is_day (pos n -ℤ pos 25567) ≡ true
unix-bound n less =
    let from : neg_ℤ (pos 25567) ≤ℤ (pos n -ℤ pos 25567) = omega (arith, ints) in
    let to : (pos n -ℤ pos 25567) ≤ℤ pos 47846 = omega (arith, ints) in
    and_from _ _ (int_le-at _ _ from) (int_le-at _ _ to)

pub civil-day : (text : List ℕ) (day : ℤ) → civil_of text ≡ Some day → is_day day ≡ true
unfolding civil_of first_day
civil-day text day e =
    let found = map-some first_day (option_and_then listed (read_date text)) day e in
    let read = and_then-some listed (read_date text) found.0 found.1 in
    let when = some_when (is_listed read.0) read.0 found.0 read.2 in
    let kind = read_date-is text read.0 read.1 in
    let bound = unix-bound (first_place read.0) (first_place-bound read.0 kind.0 when.0) in
    ap is_day (sym found.2 ∙ sym (ap first_day when.1)) ∙ bound
