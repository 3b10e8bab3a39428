use Rattle.std.proofs.Common.{◌≡◌, ◌++◌, drop}
use Rattle.std.specs.List.{filter_map}
use Rattle.query_lang.specs.Parts.{level_in}
use Rattle.query_lang.proofs.parts.levels_of.Given as goal

abbrev pub invariant-loop-part : goal.invariant-loop-part
invariant-loop-part l = filter_map level_in l.parts ≡ l.levels.items ++ filter_map level_in (drop l.part-index l.parts)
