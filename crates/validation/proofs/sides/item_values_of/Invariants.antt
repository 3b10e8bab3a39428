use Rattle.std.proofs.Common.{◌≡◌, map, take}
use Rattle.cell_values.specs.Seen.{seen_of, contents_of}
use Rattle.validation.specs.Check.{given_at}
use Rattle.validation.specs.Run.{AreKnownAt}
use Rattle.validation.proofs.sides.item_values_of.Given as goal

abbrev pub invariant-loop-item : goal.invariant-loop-item
invariant-loop-item g l = record {
  known : AreKnownAt l.source.meta.now l.source.seer.now
      (contents_of (g.S.RowStore.rows l.source.store.now) (g.S.RowStore.events l.source.store.now) (g.S.RowStore.regs l.source.store.now))
      l.spot.place l.known.entries;
  values : l.values.items ≡ map (given_at l.source.meta.now (seen_of l.source.meta.now l.source.seer.now.user
      (contents_of (g.S.RowStore.rows l.source.store.now) (g.S.RowStore.events l.source.store.now) (g.S.RowStore.regs l.source.store.now))) l.spot.place)
      (take l.item-index l.items);
}
