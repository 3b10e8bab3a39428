use Rattle.std.proofs.Common.{◌≡◌, ◌∙◌, IfOk, ap, map, subst}
use Rattle.table_rows.proofs.StoreLemmas.{store-holds, true_from}
use Rattle.program_cells.specs.Kept.{seen_enrolled}
use Rattle.program_cells.proofs.CellLemmas.{kept_strictly, enrollments_kept}
use Rattle.program_cells.proofs.enrolled.enrollments.Goals as goal

pub by_enrollment-requires : goal.by_enrollment-requires
by_enrollment-requires g c =
    let s = c.args.source.now.store.now in
    let r = c.args.source.now.meta.now in
    let user = c.args.source.now.seer.now.user in
    let all = g.S.RowStore.events s in
    let lent = map (λ event. event.now) c.in_ok-all.all.items in
    let holds = store-holds (g.S.RowStore.rows s) all (g.S.RowStore.regs s) (g.S.RowStore.built s) (true_from _ c.in_ok-all.ensures.store) in
    let kept : c.in_ok-kept.kept.items ≡ seen_enrolled r user c.args.program lent =
    c.in_ok-kept.ensures ∙ ap (λ events. seen_enrolled r user c.args.program (map (λ event. event.now) events)) c.deref.ensures.value in
    kept_strictly r user c.args.program all lent c.in_ok-kept.kept.items holds.events_rise c.in_ok-all.ensures.events kept

pub returns : goal.returns
returns g c =
    let s = c.args.source.now.store.now in
    let r = c.args.source.now.meta.now in
    let user = c.args.source.now.seer.now.user in
    let all = g.S.RowStore.events s in
    let lent = map (λ event. event.now) c.in_ok-all.all.items in
    let holds = store-holds (g.S.RowStore.rows s) all (g.S.RowStore.regs s) (g.S.RowStore.built s) (true_from _ c.in_ok-all.ensures.store) in
    let kept : c.in_ok-kept.kept.items ≡ seen_enrolled r user c.args.program lent =
    c.in_ok-kept.ensures ∙ ap (λ events. seen_enrolled r user c.args.program (map (λ event. event.now) events)) c.deref.ensures.value in
    subst (λ found. IfOk c.together.result (λ list. list ≡ found))
    (enrollments_kept r user c.args.program all lent c.in_ok-kept.kept.items
    c.in_ok-sorted.sorted.items holds.event_days c.in_ok-all.ensures.events kept c.in_ok-sorted.ensures)
    c.together.ensures
