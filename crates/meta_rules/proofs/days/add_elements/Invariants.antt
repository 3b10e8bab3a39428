use Rattle.std.proofs.Common.{◌≡◌, ◌++◌, drop}
use Rattle.meta_rules.specs.Days.{day_elements}
use Rattle.meta_rules.proofs.days.add_elements.Given as goal

abbrev pub invariant-loop-element : goal.invariant-loop-element
invariant-loop-element l = l.initial.days.items ++ day_elements l.elements ≡ l.days.items ++ day_elements (drop l.element-index l.elements)
