use Rattle.std.specs.List.{All}
use Rattle.std.specs.Vec.Iter.{into_iter_items}
use Rattle.shared_engine.specs.Places.{IsBuilt, ArePlaces}
use Rattle.shared_engine.proofs.work.put_all.Given as goal

abbrev pub invariant-loop-built : goal.invariant-loop-built
invariant-loop-built g l =
    ArePlaces (g.B.Builder.is_part l.fn.builder) l.fn.years l.places.items
    × All (IsBuilt (g.B.Builder.is_part l.fn.builder) l.fn.years) (into_iter_items l.built-iterator)
