use Rattle.std.proofs.Common.{length}
use Rattle.std.proofs.lemmas.Bool.{leb-true}
use Rattle.table_rows.proofs.StoreLemmas.{store-holds, true_from}
use Rattle.table_rows.proofs.list_rows.ListRowsRowStore.range_sum.Goals as goal

pub range_sum-requires : goal.range_sum-requires
range_sum-requires c =
    let holds =
    store-holds c.self.inside.rows.items c.self.inside.events.items c.self.inside.regs.items c.self.inside.years.items (true_from _ c.self.invariant) in
    let few = leb-true (length c.self.inside.rows.items) 4194304 holds.few_rows in
    rw c.deref.ensures.value few
