use Rattle.std.proofs.Common.{◌≡◌, ◌++◌, drop}
use Rattle.std.specs.List.{flat_map}
use Rattle.query_lang.specs.Parts.{part_units}
use Rattle.query_lang.proofs.parts.parts_units.Given as goal

abbrev pub invariant-loop-part : goal.invariant-loop-part
invariant-loop-part l = flat_map (part_units l.tree l.views) l.parts ≡ l.units.items ++ flat_map (part_units l.tree l.views) (drop l.part-index l.parts)
