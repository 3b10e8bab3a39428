use Rattle.std.proofs.Common.{◌<◌, ◌∙◌, ◌+◌, ℕ, List, take, subst, sym, ap}
use Rattle.std.proofs.lemmas.List.{take_all}
use Rattle.dh_sharing.specs.Ranges.{HoldsTheSame}
use Rattle.table_rows.proofs.StoreLemmas.{true_from}
use Rattle.cell_values.specs.Counts.{covered}
use Rattle.cell_values.specs.Spans.{AreDayRanges}
use Rattle.cell_values.proofs.DayLemmas.{days-counted, days-more, days-some}
use Rattle.cell_values.proofs.period_days.days.Goals as goal

pub loop-period-preserved : goal.loop-period-preserved
loop-period-preserved c =
    subst (AreDayRanges (take (c.loop-period.period-index + 1) c.args.periods.now)) (sym c.in_ok-push.ensures.items)
    (days-more c.args.periods.now c.loop-period.period-index c.period-item.result c.loop-period.ranges.items c.day_range.result
    c.loop-period-test.true c.period-item.is c.loop-period.invariant c.day_range.ensures)

pub returns-clause-value : goal.returns-clause-value
returns-clause-value c =
    let are =
    subst (λ ps. AreDayRanges ps c.loop-period.ranges.items) (take_all c.loop-period.period-index c.args.periods.now c.loop-period-test.false)
    c.loop-period.invariant in
    c.covered.ensures ∙ ap covered c.parts.ensures.parts
    ∙ days-counted c.args.periods.now c.loop-period.ranges.items c.in_ok-joined.joined are
    (subst (λ (v : List (ℕ × ℕ)). HoldsTheSame c.in_ok-joined.joined v) c.deref.ensures.value c.in_ok-joined.ensures.members) c.in_ok-joined.ensures.apart

pub returns-clause-some : goal.returns-clause-some
returns-clause-some c =
    subst (λ n. 0 < n) (sym (returns-clause-value c)) (days-some c.args.periods.now c.index-periods-0.result c.requires c.index-periods-0.is
    (true_from _ c.first-day.ensures.listed))
