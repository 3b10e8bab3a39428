use Rattle.std.proofs.Common.{◌≡◌, ◌++◌, drop}
use Rattle.latest_build.specs.Held.{places_last}
use Rattle.latest_build.proofs.held.places_last.Given as goal

abbrev pub invariant-loop-i : goal.invariant-loop-i
invariant-loop-i l = places_last l.held ≡ l.places.items ++ places_last (drop l.i l.held)
