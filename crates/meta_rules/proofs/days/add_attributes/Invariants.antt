use Rattle.std.proofs.Common.{◌≡◌, ◌++◌, drop}
use Rattle.meta_rules.specs.Days.{day_attributes}
use Rattle.meta_rules.proofs.days.add_attributes.Given as goal

abbrev pub invariant-loop-attribute : goal.invariant-loop-attribute
invariant-loop-attribute l = l.initial.days.items ++ day_attributes l.attributes ≡ l.days.items ++ day_attributes (drop l.attribute-index l.attributes)
