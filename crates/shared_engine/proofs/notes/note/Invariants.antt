use Rattle.std.proofs.Common.{[], ◌∷◌}
use Rattle.shared_engine.proofs.notes.note.Given as goal

abbrev pub ghosts-stamp : goal.ghosts-stamp
ghosts-stamp g a = record { added = g.entry ∷ [] }
