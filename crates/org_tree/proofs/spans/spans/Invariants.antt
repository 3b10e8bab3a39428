use Rattle.org_tree.specs.Families.{AreSpans}
use Rattle.org_tree.proofs.spans.spans.Given as goal

abbrev pub invariant-loop-i : goal.invariant-loop-i
invariant-loop-i l = AreSpans l.units l.kin l.i l.spans.items
