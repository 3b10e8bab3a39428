use Rattle.std.proofs.Common.{◌≡◌, drop, None}
use Rattle.std.specs.Option.{option_copied}
use Rattle.web_routes.specs.Parameters.{last_from}
use Rattle.web_routes.proofs.pairs.value_of.Given as goal

abbrev pub invariant-loop-pair : goal.invariant-loop-pair
invariant-loop-pair l = last_from l.name (option_copied l.found) (drop l.pair-index l.pairs) ≡ last_from l.name None l.pairs
