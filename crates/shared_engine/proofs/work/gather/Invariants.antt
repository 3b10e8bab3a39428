use Rattle.std.specs.List.{All}
use Rattle.std.specs.Vec.Iter.{into_iter_items}
use Rattle.shared_engine.specs.Places.{IsWork, ArePlaces}
use Rattle.shared_engine.proofs.work.gather.Given as goal

abbrev pub invariant-loop-work : goal.invariant-loop-work
invariant-loop-work g l =
    ArePlaces (g.B.Builder.is_part l.fn.builder) l.fn.years l.places.items
    × All (IsWork (g.B.Builder.is_part l.fn.builder) l.fn.years) (into_iter_items l.work-iterator)
