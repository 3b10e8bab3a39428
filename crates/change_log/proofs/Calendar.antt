-- The first and the last day that a write may name.
use Rattle.std.proofs.Common.{◌≡◌, ◌+◌, refl, ap, arith, pos}
use Rattle.std.specs.Prelude.{neg_ℤ}
use Rattle.dh_periods.specs.Calendar.{days_before_month, day_place, unix_day}
use Rattle.jiff_core.specs.Calendar.{day_count}
use Rattle.jiff_core.proofs.MarchLemmas.{day_count-late}
use Rattle.dh_periods.proofs.JiffLemmas.{day_count-month}
use Rattle.dh_periods.proofs.CalendarLemmas.{days_before_month-zero}

december : days_before_month 2411 ≡ 73_383
december =
    let counted : day_count (pos 2100) 12 1 ≡ days_before_month 2411 + 4_346_386 = day_count-month 2411 in
    let value : day_count (pos 2100) 12 1 ≡ 4_419_769 = day_count-late (pos 2100) 12100 12 1 refl (omega arith) (omega arith) (omega arith) in
    omega (arith, counted, value)

pub first-day : unix_day (day_place 1900 1 1) ≡ neg_ℤ (pos 25567)
first-day = ap (λ n. unix_day (n + 0)) days_before_month-zero

pub last-day : unix_day (day_place 2100 12 31) ≡ pos 47846
last-day = ap (λ n. unix_day (n + 30)) december
