-- What is kept beside a verdict so far.
use Rattle.std.specs.Prelude.{length}
use Rattle.tracker_import.specs.declared.batch.Batch.{Batch}
use Rattle.tracker_import.specs.Known.{AreSaid, AreSeen}
use Rattle.tracker_import.specs.Outcomes.{AreAtMost}

-- the notes are those of the writes, and the set those of the objects judged, of which no more are counted than there are
pub record IsBatch (batch : Batch) : Type 0 where
  pub said : AreSaid batch.notes.entities batch.notes.enrollments batch.notes.events batch.verdict.writes
  pub seen : AreSeen batch.seen batch.judged
  pub counts : AreAtMost (length batch.judged) batch.verdict
