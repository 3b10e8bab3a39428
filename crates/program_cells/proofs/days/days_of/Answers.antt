use Rattle.std.proofs.Common.{◌≡◌, ◌∙◌, ◌+◌, ◌<◌, [], ◌∷◌, ◌++◌, length, take, sym, ap, subst, arith}
use Rattle.std.proofs.lemmas.List.{take_more}
use Rattle.program_cells.specs.Days.{Cover}
use Rattle.program_cells.proofs.DayLemmas.{cover_more}
use Rattle.program_cells.proofs.days.days_of.Goals as goal

pub loop-period-preserved : goal.loop-period-preserved
loop-period-preserved c =
    let periods = c.args.periods.now in
    let i = c.loop-period.period-index in
    let x = c.period-item.result in
    let within : i < length periods = omega arith in
    let more : take (i + 1) periods ≡ take i periods ++ x ∷ [] = take_more periods i x within ∙ ap (λ p. take i periods ++ p ∷ []) (sym c.period-item.is) in
    subst (λ ps. Cover ps c.widened-days.result) (sym more)
    (cover_more (take i periods) x c.loop-period.days c.widened-days.result c.loop-period.invariant c.widened-days.ensures.from c.widened-days.ensures.first
    c.widened-days.ensures.to c.widened-days.ensures.last)
