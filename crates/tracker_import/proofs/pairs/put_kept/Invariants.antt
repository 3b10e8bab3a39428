use Rattle.std.proofs.Common.{◌≡◌, drop, filter}
use Rattle.tracker_import.specs.Pairs.{put_all, is_kept}
use Rattle.tracker_import.proofs.pairs.put_kept.Given as goal

abbrev pub invariant-loop-each : goal.invariant-loop-each
invariant-loop-each l = put_all l.fn.all.entries (filter (is_kept l.meta) l.old) ≡ put_all l.all.entries (filter (is_kept l.meta) (drop l.each-index l.old))
