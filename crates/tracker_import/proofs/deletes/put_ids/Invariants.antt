use Rattle.std.proofs.Common.{◌≡◌, drop}
use Rattle.tracker_import.specs.Deletes as deletes
use Rattle.tracker_import.proofs.deletes.put_ids.Given as goal

abbrev pub invariant-loop-id : goal.invariant-loop-id
invariant-loop-id l = deletes.put_ids l.fn.all.entries l.ids ≡ deletes.put_ids l.all.entries (drop l.id-index l.ids)
