use Rattle.std.proofs.Common.{◌<◌, length, rules}
use Rattle.std.specs.List.Sorted.{IsStrictlySortedBy}
use Rattle.table_rows.proofs.OrderLemmas.{row_total}
use Rattle.table_latest.specs.Keys.{place_cmp}
use Rattle.table_latest.proofs.ReplacedLemmas.{fore-sorted, half-less, no-places, parts-there, rest-sorted, touched-sorted}
use Rattle.table_latest.proofs.replaced.+rows_at.Goals as goal

pub returns-then-places-eq0 : goal.returns-then-places-eq0
returns-then-places-eq0 g t c =
    no-places c.args.places.now (g.S.RowStore.rows c.args.base.now) c.new.result.items c.if-places-eq0.true c.new.ensures.items

pub rows_at-requires : goal.rows_at-requires
rows_at-requires g t c =
    let sorted : IsStrictlySortedBy place_cmp c.split_at.result.0.now =
    fore-sorted c.args.places.now c.split_at.result.0.now c.split_at.result.1.now c.split_at.ensures.by_index.0 c.requires.order in
    let smaller : length c.split_at.result.0.now < length c.args.places.now =
    (half-less (length c.args.places.now) (length c.split_at.result.0.now) (length c.split_at.result.1.now) c.split_at.ensures.front_len
    c.split_at.ensures.back_len c.if-places-eq0.false c.if-places-eq1.false).0 in
    search rules

pub rows_at-requires-2 : goal.rows_at-requires-2
rows_at-requires-2 g t c =
    let sorted : IsStrictlySortedBy place_cmp c.split_at.result.1.now =
    rest-sorted c.args.places.now c.split_at.result.0.now c.split_at.result.1.now c.split_at.ensures.by_index.0 c.requires.order in
    let smaller : length c.split_at.result.1.now < length c.args.places.now =
    (half-less (length c.args.places.now) (length c.split_at.result.0.now) (length c.split_at.result.1.now) c.split_at.ensures.front_len
    c.split_at.ensures.back_len c.if-places-eq0.false c.if-places-eq1.false).1 in
    search rules

pub merged-requires-clause-total : goal.merged-requires-clause-total
merged-requires-clause-total g t c = row_total

pub merged-requires-clause-first : goal.merged-requires-clause-first
merged-requires-clause-first g t c =
    touched-sorted c.split_at.result.0.now (g.S.RowStore.rows c.args.base.now) c.in_ok-first.first.items c.requires.rise c.in_ok-first.ensures

pub merged-requires-clause-more : goal.merged-requires-clause-more
merged-requires-clause-more g t c =
    touched-sorted c.split_at.result.1.now (g.S.RowStore.rows c.args.base.now) c.in_ok-more.more.items c.requires.rise c.in_ok-more.ensures

pub returns : goal.returns
returns g t c =
    parts-there c.args.places.now c.split_at.result.0.now c.split_at.result.1.now (g.S.RowStore.rows c.args.base.now) c.in_ok-first.first.items
    c.in_ok-more.more.items c.in_ok-rows.rows.items c.requires.rise c.requires.order c.split_at.ensures.by_index.0 c.in_ok-first.ensures c.in_ok-more.ensures
    c.in_ok-rows.ensures
