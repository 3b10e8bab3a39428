use Rattle.std.proofs.Common.{◌∙◌}
use Rattle.dh_changes.specs.World.{facts}
use Rattle.table_build.specs.Left.{write_year}
use Rattle.table_build.proofs.LeftLemmas.{settled, write-step}
use Rattle.table_build.proofs.left.put_writes.Goals as goal

pub loop-write-preserved : goal.loop-write-preserved
loop-write-preserved c =
    c.loop-write.invariant
    ∙ write-step (write_year c.args.meta.now (facts c.args.world.now)) c.args.writes.now c.loop-write.write-index c.write-item.result
    c.loop-write.years.entries c.put_write.new.years.entries c.loop-write-test.true c.write-item.is c.in_ok-put_write.ensures

pub returns-then-are_settled : goal.returns-then-are_settled
returns-then-are_settled c =
    settled c.args.meta.now (facts c.args.world.now) c.args.writes.now c.args.years.now.entries (c.are_settled.ensures c.if-are_settled.true)
