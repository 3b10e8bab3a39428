use Rattle.std.proofs.Common.{◌∙◌}
use Rattle.table_rows.proofs.StoreLemmas.{store-holds, true_from}
use Rattle.table_latest.proofs.ReplacedLemmas.{touched-store}
use Rattle.table_latest.proofs.replaced.store_at.Goals as goal

pub rows_at-requires-clause-rise : goal.rows_at-requires-clause-rise
rows_at-requires-clause-rise g c =
    (store-holds (g.S.RowStore.rows c.args.base.now) (g.S.RowStore.events c.args.base.now) (g.S.RowStore.regs c.args.base.now)
    (g.S.RowStore.built c.args.base.now) (true_from _ c.years-years.ensures.store)).rows_rise

pub store_of-requires : goal.store_of-requires
store_of-requires g c =
    touched-store c.args.places.now (g.S.RowStore.rows c.args.base.now) c.deref.result.now (g.S.RowStore.events c.args.base.now)
    (g.S.RowStore.regs c.args.base.now) (g.S.RowStore.built c.args.base.now) (true_from _ c.years-years.ensures.store)
    (c.deref.ensures.value ∙ c.in_ok-rows.ensures)
