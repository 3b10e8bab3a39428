use Rattle.std.proofs.Common.{◌≡◌, ◌∙◌, true, ap, sym, rules}
use Rattle.std.specs.List.{filter}
use Rattle.table_rows.specs.Events.{reg_cmp, is_reg_of}
use Rattle.table_rows.specs.Store.{Contents, rises}
use Rattle.table_rows.proofs.StoreLemmas.{store-holds, true_from}
use Rattle.table_sums.proofs.YearPartLemmas.{reg_total}
use Rattle.table_latest.specs.Latest.{is_reg_touched}
use Rattle.table_latest.proofs.OverLemmas.{kept-order, now-order, parts-over}
use Rattle.table_latest.proofs.overlay.regs_in.Goals as goal

pub merged-requires-clause-total : goal.merged-requires-clause-total
merged-requires-clause-total g c = reg_total

pub merged-requires-clause-first : goal.merged-requires-clause-first
merged-requires-clause-first g c =
    let rise : rises reg_cmp (g.S.RowStore.regs c.args.base.now) ≡ true =
    (store-holds (g.S.RowStore.rows c.args.base.now) (g.S.RowStore.events c.args.base.now) (g.S.RowStore.regs c.args.base.now)
    (g.S.RowStore.built c.args.base.now)
    (true_from _ c.regs_of.ensures.store)).regs_rise in
    let all : c.all.inside.items.items ≡ filter (is_reg_of c.args.set) (g.S.RowStore.regs c.args.base.now) = search rules in
    kept-order reg_cmp reg_total (is_reg_of c.args.set) (is_reg_touched c.args.latest.now.touched)
    (g.S.RowStore.regs c.args.base.now) c.args.latest.now.holds.regs
    c.in_ok-kept.kept.items c.all.inside.items.items rise all c.in_ok-kept.ensures

pub merged-requires-clause-more : goal.merged-requires-clause-more
merged-requires-clause-more g c =
    let own : rises reg_cmp c.store.result.now.regs ≡ true =
    (store-holds c.store.result.now.rows c.store.result.now.events c.store.result.now.regs c.store.result.now.years
    (true_from _ c.regs_of-2.ensures.store)).regs_rise in
    let rise : rises reg_cmp c.args.latest.now.holds.regs ≡ true = ap (λ (h : Contents). rises reg_cmp h.regs) (sym c.store.ensures) ∙ own in
    let held : c.now.inside.items.items ≡ filter (is_reg_of c.args.set) c.store.result.now.regs = search rules in
    now-order reg_cmp reg_total (is_reg_of c.args.set) (is_reg_touched c.args.latest.now.touched)
    (g.S.RowStore.regs c.args.base.now) c.args.latest.now.holds.regs
    c.now.inside.items.items rise (held ∙ ap (λ (h : Contents). filter (is_reg_of c.args.set) h.regs) c.store.ensures)

pub returns : goal.returns
returns g c =
    let all : c.all.inside.items.items ≡ filter (is_reg_of c.args.set) (g.S.RowStore.regs c.args.base.now) = search rules in
    let held : c.now.inside.items.items ≡ filter (is_reg_of c.args.set) c.store.result.now.regs = search rules in
    c.from.ensures
    ∙ parts-over reg_cmp reg_total (is_reg_of c.args.set) (is_reg_touched c.args.latest.now.touched)
    (g.S.RowStore.regs c.args.base.now) c.args.latest.now.holds.regs
    c.in_ok-regs.regs.items c.in_ok-kept.kept.items c.all.inside.items.items c.now.inside.items.items all
    (held ∙ ap (λ (h : Contents). filter (is_reg_of c.args.set) h.regs) c.store.ensures) c.in_ok-kept.ensures c.in_ok-regs.ensures
