use Rattle.std.proofs.Common.{◌≡◌, ◌++◌, false, take}
use Rattle.std.specs.List.{flat_map, list_any}
use Rattle.cell_values.specs.Seen.{seen_of, contents_of}
use Rattle.query_answer.specs.Rows.{unit_slots, period_slots, period_is_wide, period_rows}
use Rattle.query_answer.proofs.rows.write_periods.Given as goal

abbrev pub invariant-loop-part : goal.invariant-loop-part
invariant-loop-part g l = record {
  none :
      list_any
      (period_is_wide l.asking.source.now.meta.now
      (seen_of l.asking.source.now.meta.now l.asking.source.now.seer.now.user
      (contents_of (g.S.RowStore.rows l.asking.source.now.store.now) (g.S.RowStore.events l.asking.source.now.store.now)
      (g.S.RowStore.regs l.asking.source.now.store.now)))
      l.item.dx.now (unit_slots l.asking.query.now))
      (take l.part-index (period_slots l.asking.query.now)) ≡ false;
  rows :
      l.rows.items ≡ l.initial.rows.items
      ++ flat_map
      (period_rows l.asking.source.now.meta.now
      (seen_of l.asking.source.now.meta.now l.asking.source.now.seer.now.user
      (contents_of (g.S.RowStore.rows l.asking.source.now.store.now) (g.S.RowStore.events l.asking.source.now.store.now)
      (g.S.RowStore.regs l.asking.source.now.store.now)))
      l.item.place l.item.dx.now (unit_slots l.asking.query.now))
      (take l.part-index (period_slots l.asking.query.now));
}
