use Rattle.std.proofs.Common.{take}
use Rattle.meta_rules.specs.Seen.{TakesEntries}
use Rattle.meta_rules.proofs.workflows.take_entries.Given as goal

abbrev pub invariant-loop-element : goal.invariant-loop-element
invariant-loop-element l = TakesEntries l.initial.seen.items l.seen.items (take l.element-index l.elements) l.workflow
