use Rattle.std.proofs.Common.{◌≡◌, length}
use Rattle.expr_lang.specs.Reading.{frames_reduced, nodes_reduced}
use Rattle.expr_lang.proofs.reading.reduce.Given as goal

abbrev pub invariant-loop-spot : goal.invariant-loop-spot
invariant-loop-spot l =
    (frames_reduced l.least l.frames ≡ frames_reduced l.least l.fn.frames)
    × (nodes_reduced l.least l.frames l.nodes ≡ nodes_reduced l.least l.fn.frames l.fn.nodes)

abbrev pub decreases-loop-spot : goal.decreases-loop-spot
decreases-loop-spot l = length l.frames
