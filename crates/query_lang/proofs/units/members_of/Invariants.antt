use Rattle.std.proofs.Common.{◌≡◌, ◌++◌, drop}
use Rattle.std.specs.List.{flat_map}
use Rattle.query_lang.specs.Units.{part_members}
use Rattle.query_lang.proofs.units.members_of.Given as goal

abbrev pub invariant-loop-part : goal.invariant-loop-part
invariant-loop-part l = flat_map (part_members l.meta) l.parts ≡ l.units.items ++ flat_map (part_members l.meta) (drop l.part-index l.parts)
