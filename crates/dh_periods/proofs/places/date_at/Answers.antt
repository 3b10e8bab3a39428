use Rattle.std.proofs.Common.{◌≡◌, arith}
use Rattle.jiff_core.specs.Date.{epoch_day}
use Rattle.jiff_core.proofs.SignedLemmas.{signed_arith}
use Rattle.dh_periods.specs.Calendar.{unix_day}
use Rattle.dh_periods.proofs.CalendarLemmas.{month_with-small}
use Rattle.dh_periods.proofs.InverseLemmas.{date-parts}
use Rattle.dh_periods.proofs.places.date_at.Goals as goal

pub returns-clause-year : goal.returns-clause-year
returns-clause-year c =
    let e : epoch_day c.from_days_since_min.result ≡ unix_day c.args.place = omega (arith, signed_arith) in
    (date-parts c.from_days_since_min.result c.args.place e).0

pub returns-clause-month : goal.returns-clause-month
returns-clause-month c =
    let e : epoch_day c.from_days_since_min.result ≡ unix_day c.args.place = omega (arith, signed_arith) in
    (date-parts c.from_days_since_min.result c.args.place e).1

pub returns-clause-day : goal.returns-clause-day
returns-clause-day c =
    let e : epoch_day c.from_days_since_min.result ≡ unix_day c.args.place = omega (arith, signed_arith) in
    (date-parts c.from_days_since_min.result c.args.place e).2

pub returns-clause-months : goal.returns-clause-months
returns-clause-months c = month_with-small c.args.place
