use Rattle.std.proofs.Common.{◌≡◌, ◌∙◌, true, ap, sym, rules}
use Rattle.std.specs.List.{filter}
use Rattle.table_rows.specs.Rows.{is_wanted}
use Rattle.table_rows.specs.Store.{Contents, rises}
use Rattle.table_rows.proofs.StoreLemmas.{store-holds, true_from}
use Rattle.table_rows.specs.Order.{row_cmp}
use Rattle.table_rows.proofs.OrderLemmas.{row_total}
use Rattle.table_latest.specs.Latest.{is_row_touched}
use Rattle.table_latest.proofs.OverLemmas.{kept-order, now-order, parts-over}
use Rattle.table_latest.proofs.overlay.rows_in.Goals as goal

pub merged-requires-clause-total : goal.merged-requires-clause-total
merged-requires-clause-total g c = row_total

pub merged-requires-clause-first : goal.merged-requires-clause-first
merged-requires-clause-first g c =
    let rise : rises row_cmp (g.S.RowStore.rows c.args.base.now) ≡ true =
    (store-holds (g.S.RowStore.rows c.args.base.now) (g.S.RowStore.events c.args.base.now) (g.S.RowStore.regs c.args.base.now)
    (g.S.RowStore.built c.args.base.now)
    (true_from _ c.rows_of.ensures.store)).rows_rise in
    let all : c.all.inside.items.items ≡ filter (is_wanted c.args.group.now c.args.need c.args.from c.args.to)
    (g.S.RowStore.rows c.args.base.now) = search rules in
    kept-order row_cmp row_total (is_wanted c.args.group.now c.args.need c.args.from c.args.to) (is_row_touched c.args.latest.now.touched)
    (g.S.RowStore.rows c.args.base.now) c.args.latest.now.holds.rows
    c.in_ok-kept.kept.items c.all.inside.items.items rise all c.in_ok-kept.ensures

pub merged-requires-clause-more : goal.merged-requires-clause-more
merged-requires-clause-more g c =
    let own : rises row_cmp c.store.result.now.rows ≡ true =
    (store-holds c.store.result.now.rows c.store.result.now.events c.store.result.now.regs c.store.result.now.years
    (true_from _ c.rows_of-2.ensures.store)).rows_rise in
    let rise : rises row_cmp c.args.latest.now.holds.rows ≡ true = ap (λ (h : Contents). rises row_cmp h.rows) (sym c.store.ensures) ∙ own in
    let held : c.now.inside.items.items ≡ filter (is_wanted c.args.group.now c.args.need c.args.from c.args.to) c.store.result.now.rows = search rules in
    now-order row_cmp row_total (is_wanted c.args.group.now c.args.need c.args.from c.args.to) (is_row_touched c.args.latest.now.touched)
    (g.S.RowStore.rows c.args.base.now) c.args.latest.now.holds.rows
    c.now.inside.items.items rise (held ∙ ap (λ (h : Contents). filter (is_wanted c.args.group.now c.args.need c.args.from c.args.to) h.rows) c.store.ensures)

pub returns : goal.returns
returns g c =
    let all : c.all.inside.items.items ≡ filter (is_wanted c.args.group.now c.args.need c.args.from c.args.to)
    (g.S.RowStore.rows c.args.base.now) = search rules in
    let held : c.now.inside.items.items ≡ filter (is_wanted c.args.group.now c.args.need c.args.from c.args.to) c.store.result.now.rows = search rules in
    c.from.ensures
    ∙ parts-over row_cmp row_total (is_wanted c.args.group.now c.args.need c.args.from c.args.to) (is_row_touched c.args.latest.now.touched)
    (g.S.RowStore.rows c.args.base.now) c.args.latest.now.holds.rows
    c.in_ok-rows.rows.items c.in_ok-kept.kept.items c.all.inside.items.items c.now.inside.items.items all
    (held ∙ ap (λ (h : Contents). filter (is_wanted c.args.group.now c.args.need c.args.from c.args.to) h.rows) c.store.ensures) c.in_ok-kept.ensures
    c.in_ok-rows.ensures
