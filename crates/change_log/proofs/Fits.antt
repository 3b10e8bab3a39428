-- A change that is one in full meets what a caller of the encoder keeps.
use Rattle.std.proofs.Common.{ℕ, List}
use Rattle.std.proofs.lemmas.List.Elements.{All-weaker}
use Rattle.dh_changes.specs.declared.change.Write.{Write}
use Rattle.dh_changes.specs.declared.change.Write.TheVariants.{ValueSet, ValueCleared, EventWritten, EventDeleted, EnrollmentWritten, EnrollmentDeleted}
use Rattle.dh_changes.specs.declared.change.Write.TheVariants.{EntityWritten, EntityDeleted, Approve, Unapprove, Accept, Unaccept, Complete, Uncomplete}
use Rattle.dh_changes.specs.declared.change.Change.{Change}
use Rattle.change_log.specs.Words.{IsIdText}
use Rattle.change_log.specs.Forms.{ArePairs, PairsFit, IsWrite, WriteFits, IsChange, ChangeFits}

pairs_fit : (pairs : List (List ℕ × List ℕ)) → ArePairs pairs → PairsFit pairs
pairs_fit pairs g = (g.0, All-weaker IsIdText _ (λ pair h. h.1) pairs g.1)

write_fits : (w : Write) → IsWrite w → WriteFits w
write_fits (ValueSet key value) g = g.1
write_fits (ValueCleared key) g = tt
write_fits (EventWritten event) g = (g.1.0.1, pairs_fit event.values g.1.1)
write_fits (EventDeleted id) g = tt
write_fits (EnrollmentWritten enrollment) g = g.1.1
write_fits (EnrollmentDeleted id) g = tt
write_fits (EntityWritten entity) g = pairs_fit entity.attributes g.1
write_fits (EntityDeleted id) g = tt
write_fits (Approve key) g = tt
write_fits (Unapprove key) g = tt
write_fits (Accept key) g = tt
write_fits (Unaccept key) g = tt
write_fits (Complete key day) g = g.1
write_fits (Uncomplete key) g = tt

pub change_fits : (n : ℕ) (c : Change) → IsChange n c → ChangeFits n c
change_fits n c g = record { some = g.some; count = g.count; writes = All-weaker IsWrite WriteFits write_fits c.writes g.writes; size = g.size }
