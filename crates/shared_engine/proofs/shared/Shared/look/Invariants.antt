use Rattle.engine.specs.Machine.Act.{looked}
use Rattle.engine.specs.Seen.{published_in}
use Rattle.shared_engine.specs.Entries.{entry_by}
use Rattle.shared_engine.proofs.shared.Shared.look.Given as goal

abbrev pub ghost-note : goal.ghost-note
ghost-note g a = entry_by a.seat.now.taken (looked a.call.now.asked (published_in a.call.now.reply.now)) a.engine.now.faults
