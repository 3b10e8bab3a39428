use Rattle.std.proofs.Common.{◌∙◌, ◌≤◌, ℕ, List, subst, sym, ap}
use Rattle.std.proofs.lemmas.List.{take_all}
use Rattle.dh_sharing.specs.Ranges.{HoldsTheSame}
use Rattle.cell_values.specs.Counts.{covered, AreBegins}
use Rattle.cell_values.proofs.PeriodLemmas.{begins-counted, begins-more, periods_due-few}
use Rattle.cell_values.proofs.periods.periods_due.Goals as goal

pub loop-period-preserved : goal.loop-period-preserved
loop-period-preserved c =
    begins-more c.args.kind c.args.periods.now c.loop-period.period-index c.period-item.result c.loop-period.begins.items c.add_begins.new.begins.items
    c.loop-period-test.true c.period-item.is c.loop-period.invariant c.in_ok-add_begins.ensures

pub returns-clause-value : goal.returns-clause-value
returns-clause-value c =
    let are =
    subst (λ ps. AreBegins c.args.kind ps c.loop-period.begins.items) (take_all c.loop-period.period-index c.args.periods.now c.loop-period-test.false)
    c.loop-period.invariant in
    c.covered.ensures ∙ ap covered c.parts.ensures.parts
    ∙ begins-counted c.args.kind c.args.periods.now c.loop-period.begins.items c.in_ok-joined.joined are
    (subst (λ (v : List (ℕ × ℕ)). HoldsTheSame c.in_ok-joined.joined v) c.deref.ensures.value c.in_ok-joined.ensures.members) c.in_ok-joined.ensures.apart

pub returns-clause-few : goal.returns-clause-few
returns-clause-few c = subst (λ n. n ≤ 73687) (sym (returns-clause-value c)) (periods_due-few c.args.kind c.args.periods.now)
