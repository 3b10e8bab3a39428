use Rattle.std.proofs.Common.{◌≡◌, ◌∙◌, true, ap, sym, subst, rules}
use Rattle.std.specs.List.{filter}
use Rattle.std.specs.List.Sorted.{IsStrictlySortedBy}
use Rattle.table_rows.specs.Groups.{groups_of}
use Rattle.table_rows.specs.Order.{group_cmp, row_cmp}
use Rattle.table_rows.specs.Store.{Contents, rises}
use Rattle.table_rows.proofs.OrderLemmas.{group_total}
use Rattle.table_rows.proofs.StoreLemmas.{store-holds, true_from}
use Rattle.table_latest.specs.Latest.{is_kept_group, is_row_touched, listed_from, untouched, untouched_rows}
use Rattle.table_latest.proofs.GroupLemmas.{groups-over, kept-groups-sorted, now-groups-sorted}
use Rattle.table_latest.proofs.OverLemmas.{holds}
use Rattle.table_latest.proofs.ReplacedLemmas.{groups-some}
use Rattle.table_latest.proofs.groups.groups_over.Goals as goal

pub kept_groups-requires-clause-some : goal.kept_groups-requires-clause-some
kept_groups-requires-clause-some g c =
    groups-some c.args.element (g.S.RowStore.rows c.args.base.now) c.as_slice.result.now (c.as_slice.ensures ∙ c.in_ok-groups.ensures.groups)

pub kept_groups-requires-clause-rise : goal.kept_groups-requires-clause-rise
kept_groups-requires-clause-rise g c =
    let rise : rises row_cmp (g.S.RowStore.rows c.args.base.now) ≡ true =
    (store-holds (g.S.RowStore.rows c.args.base.now) (g.S.RowStore.events c.args.base.now) (g.S.RowStore.regs c.args.base.now)
    (g.S.RowStore.built c.args.base.now) (true_from _ c.groups.ensures.store)).rows_rise in
    let own : rises row_cmp c.store.result.now.rows ≡ true =
    (store-holds c.store.result.now.rows c.store.result.now.events c.store.result.now.regs c.store.result.now.years
    (true_from _ c.groups-2.ensures.store)).rows_rise in
    let now_rise : rises row_cmp c.args.latest.now.holds.rows ≡ true = ap (λ (h : Contents). rises row_cmp h.rows) (sym c.store.ensures) ∙ own in
    let whole_rise = (holds (listed_from (g.S.RowStore.rows c.args.base.now) (g.S.RowStore.events c.args.base.now) (g.S.RowStore.regs c.args.base.now)
    (g.S.RowStore.built c.args.base.now))
    c.args.latest.now c.requires.over).rows_rise in
    let found : c.now.inside.items.items ≡ groups_of c.args.element c.store.result.now.rows = search rules in
    let of_now : c.now.inside.items.items ≡ groups_of c.args.element c.args.latest.now.holds.rows =
    found ∙ ap (λ (h : Contents). groups_of c.args.element h.rows) c.store.ensures in
    subst (IsStrictlySortedBy group_cmp) (sym c.deref.ensures.value)
    (now-groups-sorted (is_row_touched c.args.latest.now.touched) c.args.element
    (g.S.RowStore.rows c.args.base.now) c.args.latest.now.holds.rows rise now_rise whole_rise
    c.now.inside.items.items of_now)

pub merged-requires-clause-total : goal.merged-requires-clause-total
merged-requires-clause-total g c = group_total

pub merged-requires-clause-first : goal.merged-requires-clause-first
merged-requires-clause-first g c =
    let rise : rises row_cmp (g.S.RowStore.rows c.args.base.now) ≡ true =
    (store-holds (g.S.RowStore.rows c.args.base.now) (g.S.RowStore.events c.args.base.now) (g.S.RowStore.regs c.args.base.now)
    (g.S.RowStore.built c.args.base.now) (true_from _ c.groups.ensures.store)).rows_rise in
    let own : rises row_cmp c.store.result.now.rows ≡ true =
    (store-holds c.store.result.now.rows c.store.result.now.events c.store.result.now.regs c.store.result.now.years
    (true_from _ c.groups-2.ensures.store)).rows_rise in
    let now_rise : rises row_cmp c.args.latest.now.holds.rows ≡ true = ap (λ (h : Contents). rises row_cmp h.rows) (sym c.store.ensures) ∙ own in
    let whole_rise = (holds (listed_from (g.S.RowStore.rows c.args.base.now) (g.S.RowStore.events c.args.base.now) (g.S.RowStore.regs c.args.base.now)
    (g.S.RowStore.built c.args.base.now))
    c.args.latest.now c.requires.over).rows_rise in
    let left : c.in_ok-kept.kept.items
    ≡ filter (is_kept_group (untouched (is_row_touched c.args.latest.now.touched) (g.S.RowStore.rows c.args.base.now)) c.now.inside.items.items)
    c.in_ok-groups.groups =
    c.in_ok-kept.ensures
    ∙ (λ i. filter (is_kept_group (untouched_rows (c.places.ensures.places i) (g.S.RowStore.rows c.args.base.now)) (c.deref.ensures.value i))
    (c.as_slice.ensures i)) in
    kept-groups-sorted (is_row_touched c.args.latest.now.touched) c.args.element
    (g.S.RowStore.rows c.args.base.now) c.args.latest.now.holds.rows rise now_rise whole_rise
    c.in_ok-kept.kept.items c.in_ok-groups.groups c.now.inside.items.items c.in_ok-groups.ensures.groups left

pub merged-requires-clause-more : goal.merged-requires-clause-more
merged-requires-clause-more g c =
    let rise : rises row_cmp (g.S.RowStore.rows c.args.base.now) ≡ true =
    (store-holds (g.S.RowStore.rows c.args.base.now) (g.S.RowStore.events c.args.base.now) (g.S.RowStore.regs c.args.base.now)
    (g.S.RowStore.built c.args.base.now) (true_from _ c.groups.ensures.store)).rows_rise in
    let own : rises row_cmp c.store.result.now.rows ≡ true =
    (store-holds c.store.result.now.rows c.store.result.now.events c.store.result.now.regs c.store.result.now.years
    (true_from _ c.groups-2.ensures.store)).rows_rise in
    let now_rise : rises row_cmp c.args.latest.now.holds.rows ≡ true = ap (λ (h : Contents). rises row_cmp h.rows) (sym c.store.ensures) ∙ own in
    let whole_rise = (holds (listed_from (g.S.RowStore.rows c.args.base.now) (g.S.RowStore.events c.args.base.now) (g.S.RowStore.regs c.args.base.now)
    (g.S.RowStore.built c.args.base.now))
    c.args.latest.now c.requires.over).rows_rise in
    let found : c.now.inside.items.items ≡ groups_of c.args.element c.store.result.now.rows = search rules in
    let of_now : c.now.inside.items.items ≡ groups_of c.args.element c.args.latest.now.holds.rows =
    found ∙ ap (λ (h : Contents). groups_of c.args.element h.rows) c.store.ensures in
    now-groups-sorted (is_row_touched c.args.latest.now.touched) c.args.element
    (g.S.RowStore.rows c.args.base.now) c.args.latest.now.holds.rows rise now_rise whole_rise
    c.now.inside.items.items of_now

pub returns : goal.returns
returns g c =
    let rise : rises row_cmp (g.S.RowStore.rows c.args.base.now) ≡ true =
    (store-holds (g.S.RowStore.rows c.args.base.now) (g.S.RowStore.events c.args.base.now) (g.S.RowStore.regs c.args.base.now)
    (g.S.RowStore.built c.args.base.now) (true_from _ c.groups.ensures.store)).rows_rise in
    let own : rises row_cmp c.store.result.now.rows ≡ true =
    (store-holds c.store.result.now.rows c.store.result.now.events c.store.result.now.regs c.store.result.now.years
    (true_from _ c.groups-2.ensures.store)).rows_rise in
    let now_rise : rises row_cmp c.args.latest.now.holds.rows ≡ true = ap (λ (h : Contents). rises row_cmp h.rows) (sym c.store.ensures) ∙ own in
    let whole_rise = (holds (listed_from (g.S.RowStore.rows c.args.base.now) (g.S.RowStore.events c.args.base.now) (g.S.RowStore.regs c.args.base.now)
    (g.S.RowStore.built c.args.base.now))
    c.args.latest.now c.requires.over).rows_rise in
    let found : c.now.inside.items.items ≡ groups_of c.args.element c.store.result.now.rows = search rules in
    let of_now : c.now.inside.items.items ≡ groups_of c.args.element c.args.latest.now.holds.rows =
    found ∙ ap (λ (h : Contents). groups_of c.args.element h.rows) c.store.ensures in
    let left : c.in_ok-kept.kept.items
    ≡ filter (is_kept_group (untouched (is_row_touched c.args.latest.now.touched) (g.S.RowStore.rows c.args.base.now)) c.now.inside.items.items)
    c.in_ok-groups.groups =
    c.in_ok-kept.ensures
    ∙ (λ i. filter (is_kept_group (untouched_rows (c.places.ensures.places i) (g.S.RowStore.rows c.args.base.now)) (c.deref.ensures.value i))
    (c.as_slice.ensures i)) in
    c.from.ensures
    ∙ groups-over (is_row_touched c.args.latest.now.touched) c.args.element
    (g.S.RowStore.rows c.args.base.now) c.args.latest.now.holds.rows rise now_rise whole_rise
    c.in_ok-all.all.items c.in_ok-kept.kept.items c.in_ok-groups.groups c.now.inside.items.items c.in_ok-groups.ensures.groups of_now left
    c.in_ok-all.ensures
