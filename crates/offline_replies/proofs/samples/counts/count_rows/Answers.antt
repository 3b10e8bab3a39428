use Rattle.std.proofs.Common.{◌∙◌}
use Rattle.offline_replies.proofs.CountLemmas.{all-groups-counted, few-groups}
use Rattle.offline_replies.proofs.samples.counts.count_rows.Goals as goal

pub count_groups-requires : goal.count_groups-requires
count_groups-requires g c =
    let s = c.args.store.now in
    few-groups c.args.element (g.S.RowStore.rows s) (g.S.RowStore.events s) (g.S.RowStore.regs s) (g.S.RowStore.built s) c.as_slice.result.now
    c.groups.ensures.store
    (c.as_slice.ensures ∙ c.in_ok-groups.ensures.groups)

pub returns : goal.returns
returns g c =
    let rows = g.S.RowStore.rows c.args.store.now in
    all-groups-counted c.args.element c.args.end rows c.as_slice.result.now c.count_groups.result (c.as_slice.ensures
    ∙ c.in_ok-groups.ensures.groups) c.count_groups.ensures
