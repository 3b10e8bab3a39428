use Rattle.std.proofs.Common.{◌≡◌, drop}
use Rattle.std.specs.List.{filter_map}
use Rattle.tracker_import.specs.Pairs.{put_all, told_by}
use Rattle.tracker_import.proofs.pairs.put_pairs.Given as goal

abbrev pub invariant-loop-pair : goal.invariant-loop-pair
invariant-loop-pair l = put_all l.fn.all.entries (filter_map told_by l.pairs) ≡ put_all l.all.entries (filter_map told_by (drop l.pair-index l.pairs))
