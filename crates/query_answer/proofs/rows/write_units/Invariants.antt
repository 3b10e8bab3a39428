use Rattle.std.proofs.Common.{◌≡◌, ◌++◌, false, take}
use Rattle.std.specs.List.{flat_map, list_any}
use Rattle.cell_values.specs.Seen.{seen_of, contents_of}
use Rattle.query_answer.specs.Parts.{period_slot}
use Rattle.query_answer.specs.Rows.{unit_slots, unit_is_wide, unit_rows}
use Rattle.query_answer.proofs.rows.write_units.Given as goal

abbrev pub invariant-loop-unit : goal.invariant-loop-unit
invariant-loop-unit g l = record {
  none :
      list_any
      (unit_is_wide l.asking.source.now.meta.now
      (seen_of l.asking.source.now.meta.now l.asking.source.now.seer.now.user
      (contents_of (g.S.RowStore.rows l.asking.source.now.store.now) (g.S.RowStore.events l.asking.source.now.store.now)
      (g.S.RowStore.regs l.asking.source.now.store.now)))
      l.item.dx.now (period_slot l.period.part.now))
      (take l.unit-index (unit_slots l.asking.query.now)) ≡ false;
  rows :
      l.rows.items ≡ l.initial.rows.items
      ++ flat_map
      (unit_rows l.asking.source.now.meta.now
      (seen_of l.asking.source.now.meta.now l.asking.source.now.seer.now.user
      (contents_of (g.S.RowStore.rows l.asking.source.now.store.now) (g.S.RowStore.events l.asking.source.now.store.now)
      (g.S.RowStore.regs l.asking.source.now.store.now)))
      l.item.place l.item.dx.now (period_slot l.period.part.now))
      (take l.unit-index (unit_slots l.asking.query.now));
}
