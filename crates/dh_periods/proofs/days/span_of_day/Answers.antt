use Rattle.std.proofs.Common.{◌≡◌, ◌∙◌, arith, w8, w16, w32, pos, to_z, of_z, to_z-of_z, refl, sym, FitsSigned, rules}
use Rattle.std.proofs.lemmas.Int.{to_z_pos}
use Rattle.dh_periods.specs.Calendar.{unix_day, day_place}
use Rattle.dh_periods.proofs.JiffLemmas.{epoch_day-is}
use Rattle.dh_periods.proofs.SpanLemmas.{date_listed, some_span, unix_day-back}
use Rattle.dh_periods.specs.declared.kind.Shape.TheVariants.{Day}
use Rattle.dh_periods.specs.Spans.{span_as}
use Rattle.dh_periods.proofs.days.span_of_day.Goals as goal

pub returns-in-Ok : goal.returns-in-Ok
returns-in-Ok c =
    let p = c.args.name in
    let year : to_z w16 p.year ≡ pos p.year = to_z_pos w16 p.year (omega arith) in
    let month : to_z w8 p.number ≡ pos p.number = to_z_pos w8 p.number (omega arith) in
    let day : to_z w8 p.day ≡ pos p.day = to_z_pos w8 p.day (omega arith) in
    let has = rw (year, month, day) at c.in-Ok.ensures.succeeds in
    let parts = rw (year, month, day) at c.in-Ok.ensures.value in
    let year_is : c.in-Ok.date.year ≡ pos p.year = parts.0 in
    let month_is : c.in-Ok.date.month ≡ p.number = cc (parts.1) in
    let day_is : c.in-Ok.date.day ≡ p.day = cc (parts.2) in
    let counted = epoch_day-is c.in-Ok.date p.year p.number p.day c.requires.year_from year_is month_is day_is in
    let fits : FitsSigned w32 c.to_unix_epoch_day-day.result = search rules in
    let first : to_z w32 (of_z w32 c.to_unix_epoch_day-day.result) ≡ unix_day (day_place p.year p.number p.day) =
    to_z-of_z fits ∙ c.to_unix_epoch_day-day.ensures.value ∙ counted in
    some_span _ _ _ (span_as Day p) (date_listed p c.requires.year_from c.requires.year_to (has.0 refl)) first (first
    ∙ sym (unix_day-back (day_place p.year p.number p.day)))
