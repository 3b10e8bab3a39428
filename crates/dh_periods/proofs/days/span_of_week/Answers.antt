use Rattle.std.proofs.Common.{◌≡◌, ◌+◌, ◌-◌, ◌*◌, ◌∙◌, arith, w8, w16, w32, pos, ap, to_z, of_z, to_z-of_z, refl, ◌+ℤ◌, FitsSigned, rules}
use Rattle.std.proofs.lemmas.Int.{to_z_pos}
use Rattle.jiff_core.specs.Date.{epoch_day}
use Rattle.jiff_core.proofs.SignedLemmas.{signed_arith}
use Rattle.dh_periods.specs.Calendar.{unix_day, first_week}
use Rattle.dh_periods.proofs.SpanLemmas.{week_listed, week_unlisted, week_far, week_other, some_span, no_span, unix_day-week}
use Rattle.dh_periods.specs.declared.kind.Shape.TheVariants.{Week}
use Rattle.dh_periods.specs.Spans.{span_as}
use Rattle.dh_periods.proofs.JiffLemmas.{days_from_iso-monday}
use Rattle.dh_periods.proofs.days.span_of_week.Goals.{then-name-gt53-via-then-name-gt53, then-name-gt53-via-else-name-gt53+then-name-ne1}
use Rattle.dh_periods.proofs.days.span_of_week.Goals as goal

pub returns-in-Ok : goal.returns-in-Ok
returns-in-Ok c =
    let p = c.args.name in
    let year : to_z w16 p.year ≡ pos p.year = to_z_pos w16 p.year (omega arith) in
    let week : to_z w8 p.number ≡ pos p.number = to_z_pos w8 p.number (omega arith) in
    let has = rw (year, week) at c.in-Ok.ensures.succeeds in
    let parts = rw (year, week) at c.in-Ok.ensures.value in
    let week_is : c.in-Ok.week.week ≡ p.number = cc (parts.1) in
    let place = 7 * (first_week p.year + (p.number - 1)) in
    let counted : epoch_day c.to_date.result ≡ unix_day place =
    c.to_date.ensures ∙ rw (parts.0, week_is, parts.2) (days_from_iso-monday p.year p.number c.requires.year_from) in
    let fits : FitsSigned w32 c.to_unix_epoch_day-first.result = search rules in
    let first : to_z w32 (of_z w32 c.to_unix_epoch_day-first.result) ≡ unix_day place =
    to_z-of_z fits ∙ c.to_unix_epoch_day-first.ensures.value ∙ counted in
    let back : to_z w32 (of_z w32 c.to_unix_epoch_day-first.result) ≡ c.to_unix_epoch_day-first.result = to_z-of_z fits in
    let room : FitsSigned w32 (to_z w32 (of_z w32 c.to_unix_epoch_day-first.result) +ℤ pos 6) = rw back (omega (arith, signed_arith)) in
    some_span _ _ _ (span_as Week p) (week_listed p c.requires.year_from c.requires.year_to c.if-name-ne1.false (has.0 refl)) first (to_z-of_z room
    ∙ ap (λ z. z +ℤ pos 6) first ∙ unix_day-week place)

pub returns-in-Err : goal.returns-in-Err
returns-in-Err c =
    let p = c.args.name in
    let year : to_z w16 p.year ≡ pos p.year = to_z_pos w16 p.year (omega arith) in
    let week : to_z w8 p.number ≡ pos p.number = to_z_pos w8 p.number (omega arith) in
    let has = rw (year, week) at c.in-Err.ensures.succeeds in
    let none = week_unlisted p c.requires.year_from c.requires.year_to (λ h. cc (has.1 h)) in
    no_span _ _ none

pub returns-then-name-gt53 : goal.returns-then-name-gt53
returns-then-name-gt53 c =
    elim c.then-name-gt53.branch [
      | then-name-gt53-via-then-name-gt53 w ↦ week_far c.args.name c.requires.year_from c.requires.year_to w.if-name-gt53.true
      | then-name-gt53-via-else-name-gt53+then-name-ne1 w ↦ week_other c.args.name w.if-name-ne1.true
    ]
