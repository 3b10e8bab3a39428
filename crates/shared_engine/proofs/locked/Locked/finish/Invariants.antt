use Rattle.shared_engine.specs.Ends.{end_act}
use Rattle.shared_engine.specs.Entries.{entry_by}
use Rattle.shared_engine.proofs.locked.Locked.finish.Given as goal

abbrev pub ghost-note_end : goal.ghost-note_end
ghost-note_end g a = entry_by a.seat.now.taken (end_act a.ticket a.reply.now) a.engine.now.faults
