use Rattle.std.proofs.Common.{◌≡◌, ◌∙◌, ap, map, rules, FitsSigned, to_z, of_z, to_z-of_z, w32}
use Rattle.table_rows.specs.Events.{events_of}
use Rattle.table_rows.proofs.StoreLemmas.{store-holds, true_from}
use Rattle.program_cells.proofs.CellLemmas.{kept_store}
use Rattle.program_cells.proofs.seen.events_during.Goals as goal

pub returns : goal.returns
returns g c =
    let s = c.args.source.now.store.now in
    let r = c.args.source.now.meta.now in
    let user = c.args.source.now.seer.now.user in
    let all = g.S.RowStore.events s in
    let days = c.days_of-days.result in
    let from : FitsSigned w32 days.from = search rules in
    let to : FitsSigned w32 days.to = search rules in
    let holds =
    store-holds (g.S.RowStore.rows s) all (g.S.RowStore.regs s) (g.S.RowStore.built s) (true_from _ c.in_ok-all.ensures.store) in
    let lent = map (λ event. event.now) c.in_ok-all.all.items in
    let taken : lent ≡ events_of c.args.program days.from days.to all =
    c.in_ok-all.ensures.events
    ∙ ap (λ day. events_of c.args.program day (to_z w32 (of_z w32 days.to)) all) (to_z-of_z from)
    ∙ ap (λ day. events_of c.args.program days.from day all) (to_z-of_z to) in
    kept_store r user c.args.program c.args.periods.now c.periods-asked.result.now days all lent
    c.kept.result c.periods-asked.ensures c.days_of-days.ensures holds.events_rise taken c.kept.ensures
