use Rattle.std.proofs.Common.{◌≡◌, ◌++◌, take}
use Rattle.std.specs.List.{flat_map, All}
use Rattle.change_log.proofs.put.put_each.Given as goal

abbrev pub invariant-loop-item : goal.invariant-loop-item
invariant-loop-item g l = record {
  grown : l.out.items ≡ l.fn.out.items ++ flat_map g.T.Put.bytes (take l.item-index l.items);
  valid : All g.T.Put.Holds (take l.item-index l.items);
}
