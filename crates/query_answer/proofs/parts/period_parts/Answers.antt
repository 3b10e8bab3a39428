use Rattle.std.proofs.Common.{◌≡◌, ◌<◌, List, length, get_or, sym, subst, arith}
use Rattle.dh_periods.specs.declared.name.PeriodName.{PeriodName}
use Rattle.query_answer.specs.Rows.{slot_of, slots}
use Rattle.query_answer.specs.declared.parts.PeriodPart.{PeriodPart}
use Rattle.query_answer.specs.Parts.{period_slot}
use Rattle.query_answer.proofs.PartLemmas.{part_step}
use Rattle.query_answer.proofs.parts.period_parts.Goals as goal

pub loop-place-preserved : goal.loop-place-preserved
loop-place-preserved c =
    let axis = c.args.axis.now in
    let all = slots axis.filter axis.items in
    let within : c.loop-place.place < length all = omega arith in
    let label = c.part_at-part.result.label in
    let x : PeriodPart = record { label = label; periods = c.in_ok-periods.periods } in
    let at : period_slot x ≡ get_or all c.loop-place.place (period_slot x) =
    subst (λ (periods : List PeriodName). slot_of label periods ≡ get_or all c.loop-place.place (slot_of label periods)) (sym c.in_ok-periods.ensures)
    c.part_at-part.ensures.part in
    part_step period_slot c.loop-place.parts.items c.push.new.self.items all c.loop-place.place x within at c.in_ok-push.ensures.items
    c.loop-place.invariant
