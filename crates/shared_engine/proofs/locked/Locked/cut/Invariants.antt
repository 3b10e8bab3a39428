use Rattle.engine.specs.Machine.Act.{begun}
use Rattle.engine.specs.Seen.{update_in}
use Rattle.shared_engine.specs.Entries.{entry_by}
use Rattle.shared_engine.proofs.locked.Locked.cut.Given as goal

abbrev pub ghost-note : goal.ghost-note
ghost-note g a = entry_by a.seat.now.taken (begun a.call.now.kind (update_in a.call.now.reply.now)) a.engine.now.faults
