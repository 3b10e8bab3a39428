use Rattle.std.proofs.Common.{◌≡◌, ◌++◌, map}
use Rattle.std.specs.Arc.{arc_value}
use Rattle.std.specs.List.{AllByRecursion}
use Rattle.std.specs.Vec.Iter.{into_iter_items}
use Rattle.table_rows.specs.Store.{contents_in}
use Rattle.table_sums.specs.YearParts.{part_of}
use Rattle.table_build.specs.Log.{writes_of}
use Rattle.table_build.specs.Listed.{listed_in}
use Rattle.table_build.specs.Slots.{slot_years, IsSlotOf}
use Rattle.table_build.proofs.slots.parts_for.Given as goal

abbrev pub invariant-loop-slot : goal.invariant-loop-slot
invariant-loop-slot l = record {
  parts : map (part_of (contents_in (listed_in l.meta (writes_of (map arc_value l.changes))))) (slot_years l.fn.slots.items)
      ≡ l.parts.items ++ map (part_of (contents_in (listed_in l.meta (writes_of (map arc_value l.changes))))) (slot_years (into_iter_items l.slot-iterator));
  rest : AllByRecursion (IsSlotOf (contents_in (listed_in l.meta (writes_of (map arc_value l.changes))))) (into_iter_items l.slot-iterator);
}
