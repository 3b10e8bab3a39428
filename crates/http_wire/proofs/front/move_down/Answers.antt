use Rattle.std.proofs.Common.{arith}
use Rattle.http_wire.proofs.FrontLemmas.{moved_all}
use Rattle.http_wire.proofs.front.move_down.Goals as goal

pub returns-clause-moved : goal.returns-clause-moved
returns-clause-moved c =
    moved_all c.args.bytes.now c.loop-at.bytes c.args.from c.requires c.loop-at.invariant.len (λ k h. c.loop-at.invariant.moved k (omega arith))
