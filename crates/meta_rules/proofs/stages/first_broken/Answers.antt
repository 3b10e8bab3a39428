use Rattle.std.proofs.Common.{◌≡◌, ◌∙◌, true, false, is_some, sym, ap}
use Rattle.meta_rules.specs.Stages.{indicator_broken}
use Rattle.meta_rules.proofs.StageLemmas.{stages_broken-here, stages_broken-next}
use Rattle.meta_rules.proofs.stages.first_broken.Goals as goal

pub returns-then-is_some : goal.returns-then-is_some
returns-then-is_some c =
    let some : is_some (indicator_broken c.args.ids.now c.args.stages.now c.indicator-item.result) ≡ true =
    ap is_some (sym c.broken-found.ensures) ∙ sym c.is_some.ensures ∙ c.if-is_some.true in
    c.broken-found.ensures
    ∙ sym (stages_broken-here c.args.ids.now c.args.stages.now c.args.indicators.now c.loop-indicator.indicator-index c.indicator-item.result
    c.loop-indicator-test.true c.indicator-item.is some)
    ∙ sym c.loop-indicator.invariant

pub loop-indicator-preserved : goal.loop-indicator-preserved
loop-indicator-preserved c =
    let none : is_some (indicator_broken c.args.ids.now c.args.stages.now c.indicator-item.result) ≡ false =
    ap is_some (sym c.broken-found.ensures) ∙ sym c.is_some.ensures ∙ c.if-is_some.false in
    c.loop-indicator.invariant
    ∙ stages_broken-next c.args.ids.now c.args.stages.now c.args.indicators.now c.loop-indicator.indicator-index c.indicator-item.result
    c.loop-indicator-test.true c.indicator-item.is none
