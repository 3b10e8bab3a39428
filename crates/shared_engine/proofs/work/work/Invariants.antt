use Rattle.std.specs.List.{All}
use Rattle.shared_engine.specs.Places.{IsBuilt}
use Rattle.shared_engine.proofs.work.work.Given as goal

abbrev pub invariant-loop : goal.invariant-loop
invariant-loop g l = All (IsBuilt (g.B.Builder.is_part l.fn.builder) l.fn.years) l.found.items
