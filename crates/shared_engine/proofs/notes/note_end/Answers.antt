use Rattle.std.proofs.Common.{[], ◌∷◌, ap}
use Rattle.shared_engine.proofs.Calls.{is_one}
use Rattle.shared_engine.proofs.notes.note_end.Goals as goal

pub stamp-requires-clause-entry : goal.stamp-requires-clause-entry
stamp-requires-clause-entry g c = is_one _ _ _ _ c.requires.1.1.0 (ap (λ e. e ∷ []) c.requires.1.1.1.1)
