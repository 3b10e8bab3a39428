use Rattle.shared_engine.proofs.work.work.Goals as goal

pub loop-preserved : goal.loop-preserved
loop-preserved g c = c.build_at.ensures

pub returns : goal.returns
returns g c = c.loop.invariant
