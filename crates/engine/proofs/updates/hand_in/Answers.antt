use Rattle.std.proofs.Common.{subst}
use Rattle.change_log.specs.Log.{writes_of}
use Rattle.table_build.specs.Listed.{listed_in}
use Rattle.engine.specs.Seen.{FitSlots}
use Rattle.engine.proofs.SlotLemmas.{part-listed}
use Rattle.engine.proofs.updates.hand_in.Goals as goal

pub returns-in-Some-clause-kept : goal.returns-in-Some-clause-kept
returns-in-Some-clause-kept c = λ meta changes is fit.
    c.put_part.ensures (listed_in meta (writes_of changes)) (part-listed meta changes c.args.part is) (subst (FitSlots meta changes) c.in-Some.is fit)
