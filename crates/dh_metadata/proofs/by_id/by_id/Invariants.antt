use Rattle.std.proofs.Common.{◌≡◌, [], drop}
use Rattle.dh_metadata.specs.Sets.{put_by_id, set_ids}
use Rattle.dh_metadata.proofs.by_id.by_id.Given as goal

abbrev pub invariant-loop-set : goal.invariant-loop-set
invariant-loop-set l = (l.number ≡ l.set-index) × (put_by_id [] 0 (set_ids l.sets) ≡ put_by_id l.map.entries l.number (set_ids (drop l.set-index l.sets)))
