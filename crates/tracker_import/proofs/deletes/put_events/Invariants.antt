use Rattle.std.proofs.Common.{◌≡◌, ◌++◌, map, drop}
use Rattle.dh_changes.specs.declared.change.Write.TheVariants as write
use Rattle.tracker_import.proofs.deletes.put_events.Given as goal

abbrev pub invariant-loop-id : goal.invariant-loop-id
invariant-loop-id l = l.fn.writes ++ map write.EventDeleted l.ids ≡ l.writes ++ map write.EventDeleted (drop l.id-index l.ids)
