use Rattle.std.proofs.Common.{◌∙◌, ap, sym}
use Rattle.table_rows.specs.Rows.{wanted_rows}
use Rattle.table_rows.specs.Store.{Contents, contents_in}
use Rattle.table_rows.specs.Sums.{joined, sum_of_rows}
use Rattle.table_latest.specs.Latest.{listed_from, rows_over}
use Rattle.table_latest.proofs.GapLemmas.{none-summed}
use Rattle.table_latest.proofs.OverLemmas.{kept-few, sum-sized, sums-over}
use Rattle.table_latest.proofs.overlay.sum_over.Goals as goal

pub kept_sum-kept-requires-clause-few : goal.kept_sum-kept-requires-clause-few
kept_sum-kept-requires-clause-few g c =
    kept-few (listed_from (g.S.RowStore.rows c.args.base.now) (g.S.RowStore.events c.args.base.now) (g.S.RowStore.regs c.args.base.now)
    (g.S.RowStore.built c.args.base.now))
    c.args.latest.now c.requires.over

pub returns-then-asked-clause-sum : goal.returns-then-asked-clause-sum
returns-then-asked-clause-sum g c =
    let held = c.range_sum-now.ensures.sum
    ∙ ap (λ (h : Contents). sum_of_rows (wanted_rows c.args.asked.now.group c.args.asked.now.need c.args.asked.now.from c.args.asked.now.to h.rows))
    c.store.ensures in
    c.join.ensures.sum ∙ (λ i. joined (c.kept_sum-kept.ensures.sum i) (held i))
    ∙ sym (sums-over (listed_from (g.S.RowStore.rows c.args.base.now) (g.S.RowStore.events c.args.base.now) (g.S.RowStore.regs c.args.base.now)
    (g.S.RowStore.built c.args.base.now))
    c.args.latest.now c.requires.over
    c.args.asked.now.group c.args.asked.now.need c.args.asked.now.from c.args.asked.now.to)

pub returns-then-asked-clause-size : goal.returns-then-asked-clause-size
returns-then-asked-clause-size g c =
    let held = c.range_sum-now.ensures.sum
    ∙ ap (λ (h : Contents). sum_of_rows (wanted_rows c.args.asked.now.group c.args.asked.now.need c.args.asked.now.from c.args.asked.now.to h.rows))
    c.store.ensures in
    sum-sized (listed_from (g.S.RowStore.rows c.args.base.now) (g.S.RowStore.events c.args.base.now) (g.S.RowStore.regs c.args.base.now)
    (g.S.RowStore.built c.args.base.now))
    c.args.latest.now c.requires.over
    c.args.asked.now.group c.args.asked.now.need c.args.asked.now.from c.args.asked.now.to c.join.result
    (c.join.ensures.sum ∙ (λ i. joined (c.kept_sum-kept.ensures.sum i) (held i))
    ∙ sym (sums-over (listed_from (g.S.RowStore.rows c.args.base.now) (g.S.RowStore.events c.args.base.now) (g.S.RowStore.regs c.args.base.now)
    (g.S.RowStore.built c.args.base.now))
    c.args.latest.now c.requires.over
    c.args.asked.now.group c.args.asked.now.need c.args.asked.now.from c.args.asked.now.to))
    c.join.ensures.size c.join.ensures.plain

pub returns-else-asked-clause-sum : goal.returns-else-asked-clause-sum
returns-else-asked-clause-sum g c =
    c.none.ensures
    ∙ sym (none-summed c.args.asked.now.group c.args.asked.now.need c.args.asked.now.from c.args.asked.now.to
    (rows_over (contents_in (listed_from (g.S.RowStore.rows c.args.base.now) (g.S.RowStore.events c.args.base.now) (g.S.RowStore.regs c.args.base.now)
    (g.S.RowStore.built c.args.base.now)))
    c.args.latest.now) c.if-asked.false)
