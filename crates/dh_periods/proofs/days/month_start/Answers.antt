use Rattle.std.proofs.Common.{◌≡◌, ◌≤◌, ◌+◌, ◌-◌, ◌*◌, ◌/◌, ◌%◌, ◌∙◌, arith, w32, pos, ap, to_z-of_z, FitsSigned, rules}
use Rattle.jiff_core.proofs.SignedLemmas.{signed_casts}
use Rattle.dh_periods.specs.Calendar.{unix_day, days_before_month}
use Rattle.dh_periods.proofs.JiffLemmas.{epoch_day-is}
use Rattle.dh_periods.proofs.days.month_start.Goals as goal

pub returns : goal.returns
returns c =
    let k = c.args.place in
    let year : c.constrain.result.year ≡ pos (1900 + k / 12) = c.constrain.ensures.year ∙ omega (arith, signed_casts) in
    let month : c.constrain.result.month ≡ k % 12 + 1 = c.constrain.ensures.month ∙ omega arith in
    let from : 1 ≤ c.constrain.result.day = c.constrain.result.day_in.0 in
    let day : c.constrain.result.day ≡ 1 = omega arith in
    let counted = epoch_day-is c.constrain.result (1900 + k / 12) (k % 12 + 1) 1 (omega arith) year month day in
    let place : 12 * (1900 + k / 12 - 1900) + (k % 12 + 1 - 1) ≡ k = omega arith in
    let none : days_before_month k + (1 - 1) ≡ days_before_month k = omega arith in
    let fits : FitsSigned w32 c.to_unix_epoch_day.result = search rules in
    to_z-of_z fits ∙ c.to_unix_epoch_day.ensures.value ∙ counted ∙ rw place (ap unix_day none)
