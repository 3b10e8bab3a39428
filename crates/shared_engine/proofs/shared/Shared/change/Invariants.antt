use Rattle.engine.specs.Machine.Act.{changed}
use Rattle.shared_engine.specs.Entries.{entry_by}
use Rattle.shared_engine.proofs.shared.Shared.change.Given as goal

abbrev pub ghost-note : goal.ghost-note
ghost-note g a =
    entry_by a.seat.now.taken (changed (record { who = a.call.now.who; moment = a.call.now.moment; request = a.call.now.request.now }) a.call.now.reply.now)
    a.engine.now.faults
