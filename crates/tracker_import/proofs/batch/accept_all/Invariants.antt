use Rattle.std.proofs.Common.{◌≡◌, ◌++◌}
use Rattle.std.specs.Vec.Iter.{into_iter_items}
use Rattle.tracker_import.specs.Known.{AreSaid}
use Rattle.tracker_import.proofs.batch.accept_all.Given as goal

abbrev pub invariant-loop-write : goal.invariant-loop-write
invariant-loop-write l = record {
  writes : l.fn.writes ++ l.fn.more ≡ l.writes ++ into_iter_items l.write-iterator;
  said : AreSaid l.notes.entities l.notes.enrollments l.notes.events l.writes;
}
