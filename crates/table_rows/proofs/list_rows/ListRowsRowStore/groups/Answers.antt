use Rattle.table_rows.proofs.StoreLemmas.{store-holds, true_from}
use Rattle.table_rows.proofs.list_rows.ListRowsRowStore.groups.Goals as goal

pub groups-requires : goal.groups-requires
groups-requires c =
    let holds =
    store-holds c.self.inside.rows.items c.self.inside.events.items c.self.inside.regs.items c.self.inside.years.items (true_from _ c.self.invariant) in
    rw c.deref.ensures.value holds.rows_rise
