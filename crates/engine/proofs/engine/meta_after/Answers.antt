use Rattle.dh_changes.specs.Facts.{facts_in}
use Rattle.change_log.specs.Log.{writes_of}
use Rattle.engine.proofs.AfterLemmas.{of_writes}
use Rattle.engine.proofs.engine.meta_after.Goals as goal

pub returns-clause-value : goal.returns-clause-value
returns-clause-value c = of_writes c.args.meta.now c.meta_after.result.now c.meta_after.ensures.value

pub returns-clause-after : goal.returns-clause-after
returns-clause-after c = λ log. c.meta_after.ensures.after (facts_in (writes_of log))
