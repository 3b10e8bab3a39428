use Rattle.std.proofs.Common.{◌≡◌, take, map}
use Rattle.cell_values.specs.Seen.{seen_of, contents_of}
use Rattle.cell_values.specs.Plans.{planned_value}
use Rattle.cell_values.proofs.item.item_values.Given as goal

abbrev pub invariant-loop-place : goal.invariant-loop-place
invariant-loop-place g l =
    l.values.items ≡ map (planned_value l.source.meta.now
    (seen_of l.source.meta.now l.source.seer.now.user
    (contents_of (g.S.RowStore.rows l.source.store.now) (g.S.RowStore.events l.source.store.now) (g.S.RowStore.regs l.source.store.now)))
    l.periods l.units.units l.units.alone) (take l.place l.plans)
