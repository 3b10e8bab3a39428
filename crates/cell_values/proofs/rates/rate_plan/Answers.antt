use Rattle.std.proofs.Common.{◌∙◌, ap}
use Rattle.table_rows.specs.Events.{reg_cmp}
use Rattle.table_rows.specs.Store.{rises}
use Rattle.table_rows.proofs.StoreLemmas.{store-holds, true_from}
use Rattle.cell_values.proofs.SeenLemmas.{kept-rises}
use Rattle.cell_values.specs.Seen.{seen_regs, is_reg_seen}
use Rattle.cell_values.proofs.rates.rate_plan.Goals as goal

pub of-requires-clause-rise : goal.of-requires-clause-rise
of-requires-clause-rise g c =
    let s = c.args.source.now.store.now in
    let r = c.args.source.now.meta.now in
    let user = c.args.source.now.seer.now.user in
    let holds =
    store-holds (g.S.RowStore.rows s) (g.S.RowStore.events s) (g.S.RowStore.regs s) (g.S.RowStore.built s) (true_from _ c.in_ok-all.ensures.store) in
    ap (rises reg_cmp) (c.as_slice-2.ensures.value ∙ c.in_ok-kept.ensures ∙ ap (seen_regs r user) (c.as_slice.ensures ∙ c.in_ok-all.ensures.regs))
    ∙ kept-rises c.args.asked.set (is_reg_seen r user) (g.S.RowStore.regs s) holds.regs_rise
