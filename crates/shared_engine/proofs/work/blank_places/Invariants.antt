use Rattle.std.proofs.Common.{◌≡◌, map, take}
use Rattle.shared_engine.proofs.PlaceLemmas.{empty}
use Rattle.shared_engine.proofs.work.blank_places.Given as goal

abbrev pub invariant-loop : goal.invariant-loop
invariant-loop g l = l.places.items ≡ map empty (take l.index l.fn.years)
