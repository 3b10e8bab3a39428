use Rattle.std.proofs.Common.{◌∙◌, ap, refl, sym}
use Rattle.cell_values.specs.Seen.{seen_events}
use Rattle.program_cells.specs.Enrollments.{enrollments}
use Rattle.program_cells.proofs.CellLemmas.{planned_at}
use Rattle.program_cells.proofs.plan.program_plan.Goals as goal

pub returns : goal.returns
returns g c =
    let r = c.args.source.now.meta.now in
    let user = c.args.source.now.seer.now.user in
    let all = g.S.RowStore.events c.args.source.now.store.now in
    let code = c.in_ok-code.ensures in
    planned_at r user all c.args.number _ _ c.program_indicator-indicator.ensures.value
    (record {
      code = code;
      over = refl;
      enrollments = λ is. c.in_ok-enrollments.ensures is ∙ ap (λ n. enrollments n (seen_events r user all)) (sym code.program);
    })
