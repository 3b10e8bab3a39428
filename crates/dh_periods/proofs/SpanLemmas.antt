-- What the library's answers say of the days of a period.
use Rattle.std.proofs.Common.{◌≡◌, ℕ, ◌+◌, ◌<◌, ◌≤◌, ◌⊎◌, inl, inr, Bool, true, false, ◌&&◌, nat_le, if◌then◌else◌, Option, Some, None, refl, arith, ℤ, pos}
use Rattle.std.proofs.Common.{◌+ℤ◌, ◌-ℤ◌}
use Rattle.std.proofs.lemmas.Bool.{and_parts, and_from, le-leb, lt-leb, leb-true, and_right, eq-eqb, eqb-true, false_from_ne_true}
use Rattle.std.specs.Prelude.{◌==◌}
use Rattle.jiff_core.specs.declared.civil.weekday.Weekday.TheVariants.{Monday}
use Rattle.jiff_core.specs.Calendar.{IsDate}
use Rattle.jiff_core.specs.IsoWeek.{IsIsoWeekDate, weeks_in_year as iso_weeks}
use Rattle.jiff_core.proofs.SignedLemmas.{signed_arith}
use Rattle.dh_periods.specs.declared.kind.Shape.{Shape}
use Rattle.dh_periods.specs.declared.kind.Shape.TheVariants.{Day, Week}
use Rattle.dh_periods.specs.declared.name.PeriodName.{PeriodName}
use Rattle.dh_periods.specs.declared.days.Span.{Span}
use Rattle.dh_periods.specs.Calendar.{month_length, month_place, unix_day, first_week, weeks_in_year}
use Rattle.dh_periods.specs.Types.{shape_of}
use Rattle.dh_periods.specs.Days.{is_in_year_as, is_listed, first_place, end_place, first_day, last_day}
use Rattle.dh_periods.specs.Spans.{span_as, span_of}
use Rattle.dh_periods.proofs.CalendarLemmas.{days_before_month-zero, days_before_month-later}
use Rattle.dh_periods.proofs.JiffLemmas.{weeks_in_year-is, weeks_in_year_bounds, days_from_iso-is}

-- what one shape says is what the whole definition says
pub span_of-as : (s : Shape) (p : PeriodName) (r : Option Span) → s ≡ shape_of p.kind → 1900 ≤ p.year → p.year ≤ 2100
    → r ≡ (if is_in_year_as s p then Some (span_as s p) else None) → r ≡ (if is_listed p then Some (span_of p) else None)
unfolding is_listed first_place end_place first_day last_day
span_of-as s p r same low high e =
    let a : nat_le 1900 p.year ≡ true = le-leb _ _ low in
    let b : nat_le p.year 2100 ≡ true = le-leb _ _ high in
    rw (a, b, ← same) e

pub span_of-outside : (p : PeriodName) → (p.year < 1900) ⊎ (2100 < p.year) → None ≡ (if is_listed p then Some (span_of p) else None)
unfolding is_listed
span_of-outside p (inl low) = let a : nat_le 1900 p.year ≡ false = lt-leb _ _ low in rw a refl
span_of-outside p (inr high) =
    let b : nat_le p.year 2100 ≡ false = lt-leb _ _ high in
    rw b (let c = and_right (nat_le 1900 p.year) (false && is_in_year_as (shape_of p.kind) p) refl in rw c refl)

week-bounds : (y : ℕ) → y ≤ 2101 → first_week y ≤ 20000
week-bounds y top =
    let later = days_before_month-later 0 (month_place y 1) (omega arith) in
    omega (arith, days_before_month-zero, later)

-- the library has a week exactly where the year has it
pub week_listed : (p : PeriodName) → 1900 ≤ p.year → p.year ≤ 2100 → p.day ≡ 1 → IsIsoWeekDate (pos p.year) (pos p.number) Monday → is_in_year_as Week p ≡ true
week_listed p low high one h =
    let weeks = weeks_in_year-is p.year low (omega arith) in
    let n = h.1 in
    let top : p.number ≤ weeks_in_year p.year = rw (← weeks) (omega (arith, signed_arith)) in
    let least : 1 ≤ p.number = omega (arith, signed_arith) in
    and_from _ _ (le-leb _ _ least) (and_from _ _ (le-leb _ _ top) (eq-eqb _ _ one))

pub week_unlisted : (p : PeriodName) → 1900 ≤ p.year → p.year ≤ 2100 → (IsIsoWeekDate (pos p.year) (pos p.number) Monday → ⊥) → is_in_year_as Week p ≡ false
week_unlisted p low high none =
    false_from_ne_true _ (λ (held : is_in_year_as Week p ≡ true).
    let weeks : iso_weeks (pos p.year) ≡ weeks_in_year p.year = weeks_in_year-is p.year low (omega arith) in
    let parts = and_parts (nat_le 1 p.number) (nat_le p.number (weeks_in_year p.year) && p.day == 1) held in
    let least = leb-true 1 p.number parts.0 in
    let top = leb-true p.number (weeks_in_year p.year) (and_parts (nat_le p.number (weeks_in_year p.year)) (p.day == 1) parts.1).0 in
    let first = week-bounds p.year (omega arith) in
    let next = week-bounds (p.year + 1) (omega arith) in
    let day = days_from_iso-is p.year p.number Monday low in
    none (
      (omega (arith, signed_arith), omega (arith, signed_arith)),
      (omega (arith, signed_arith), rw weeks (omega (arith, signed_arith))),
      rw day (omega (arith, signed_arith), omega (arith, signed_arith)),
    ))

pub date_listed : (p : PeriodName) → 1900 ≤ p.year → p.year ≤ 2100 → IsDate (pos p.year) (pos p.number) (pos p.day) → is_in_year_as Day p ≡ true
date_listed p low high h =
    let a : 1 ≤ p.number = omega (arith, signed_arith) in
    let b : p.number ≤ 12 = omega (arith, signed_arith) in
    let d : 1 ≤ p.day = omega (arith, signed_arith) in
    let e : p.day ≤ month_length p.year p.number = omega (arith, signed_arith) in
    and_from _ _ (le-leb _ _ a) (and_from _ _ (le-leb _ _ b) (and_from _ _ (le-leb _ _ d) (le-leb _ _ e)))

pub some_span : (b : Bool) (first last : ℤ) (s : Span) → b ≡ true → first ≡ s.first → last ≡ s.last
    → Some (record { first = first; last = last }) ≡ (if b then Some s else None)
some_span b first last s holds e f = rw (holds, e, f) refl

-- the day before the next is the day
pub unix_day-back : (n : ℕ) → unix_day (n + 1) -ℤ pos 1 ≡ unix_day n
unix_day-back n = omega (arith, signed_arith)

-- a week's last day is six days after its first
pub unix_day-week : (n : ℕ) → unix_day n +ℤ pos 6 ≡ unix_day (n + 7) -ℤ pos 1
unix_day-week n = omega (arith, signed_arith)

pub no_span : (b : Bool) (s : Span) → b ≡ false → None ≡ (if b then Some s else None)
no_span b s no_such = rw no_such refl

pub week_far : (p : PeriodName) → 1900 ≤ p.year → p.year ≤ 2100 → 53 < p.number → None ≡ (if is_in_year_as Week p then Some (span_as Week p) else None)
week_far p low high far =
    no_span _ _ (false_from_ne_true _ (λ (held : is_in_year_as Week p ≡ true).
    let parts = and_parts (nat_le 1 p.number) (nat_le p.number (weeks_in_year p.year) && p.day == 1) held in
    let top = leb-true p.number (weeks_in_year p.year) (and_parts (nat_le p.number (weeks_in_year p.year)) (p.day == 1) parts.1).0 in
    let bounds = weeks_in_year_bounds p.year low (omega arith) in
    absurd (omega arith)))

pub week_other : (p : PeriodName) → (p.day ≡ 1 → ⊥) → None ≡ (if is_in_year_as Week p then Some (span_as Week p) else None)
week_other p other =
    no_span _ _ (false_from_ne_true _ (λ (held : is_in_year_as Week p ≡ true).
    let parts = and_parts (nat_le 1 p.number) (nat_le p.number (weeks_in_year p.year) && p.day == 1) held in
    other (eqb-true _ _ (and_parts (nat_le p.number (weeks_in_year p.year)) (p.day == 1) parts.1).1)))
