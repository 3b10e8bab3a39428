use Rattle.dh_changes.specs.World.{facts}
use Rattle.table_build.proofs.LeftLemmas.{told}
use Rattle.table_build.proofs.left.put_write.Goals as goal

pub returns-then-is_settled : goal.returns-then-is_settled
returns-then-is_settled c = told c.args.meta.now (facts c.args.world.now) c.args.write.now c.args.years.now.entries (c.is_settled.ensures c.if-is_settled.true)
