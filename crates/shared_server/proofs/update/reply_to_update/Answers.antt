use Rattle.std.proofs.Common.{inl, inr, refl}
use Rattle.shared_server.proofs.update.reply_to_update.Goals as goal

pub returns-in-Ok : goal.returns-in-Ok
returns-in-Ok g c = inr c.reply_in.ensures

pub returns-in-Err : goal.returns-in-Err
returns-in-Err g c = inl (refl, refl)
