use Rattle.std.proofs.Common.{take}
use Rattle.meta_rules.specs.Seen.{HaveSeen}
use Rattle.meta_rules.proofs.workflows.seen_in.Given as goal

abbrev pub invariant-loop-set : goal.invariant-loop-set
invariant-loop-set l = HaveSeen (take l.set-index l.sets) l.count l.seen.items
