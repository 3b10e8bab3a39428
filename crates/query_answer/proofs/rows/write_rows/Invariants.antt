use Rattle.std.proofs.Common.{◌≡◌, ◌++◌, false, take, drop}
use Rattle.std.specs.List.{list_any}
use Rattle.cell_values.specs.Seen.{seen_of, contents_of}
use Rattle.query_answer.specs.Rows.{dx_is_wide, rows_from}
use Rattle.query_answer.proofs.rows.write_rows.Given as goal

abbrev pub invariant-loop-place : goal.invariant-loop-place
invariant-loop-place g l = record {
  none : list_any (dx_is_wide l.asking.source.now.meta.now
      (seen_of l.asking.source.now.meta.now l.asking.source.now.seer.now.user
      (contents_of (g.S.RowStore.rows l.asking.source.now.store.now) (g.S.RowStore.events l.asking.source.now.store.now)
      (g.S.RowStore.regs l.asking.source.now.store.now)))
      l.asking.query.now) (take l.place l.items) ≡ false;
  rows :
      l.rows.items ++ rows_from l.asking.source.now.meta.now
      (seen_of l.asking.source.now.meta.now l.asking.source.now.seer.now.user
      (contents_of (g.S.RowStore.rows l.asking.source.now.store.now) (g.S.RowStore.events l.asking.source.now.store.now)
      (g.S.RowStore.regs l.asking.source.now.store.now)))
      l.asking.query.now l.place (drop l.place l.items)
      ≡ rows_from l.asking.source.now.meta.now
      (seen_of l.asking.source.now.meta.now l.asking.source.now.seer.now.user
      (contents_of (g.S.RowStore.rows l.asking.source.now.store.now) (g.S.RowStore.events l.asking.source.now.store.now)
      (g.S.RowStore.regs l.asking.source.now.store.now)))
      l.asking.query.now 0 l.items;
}
