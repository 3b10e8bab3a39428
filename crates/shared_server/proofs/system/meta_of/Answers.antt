use Rattle.std.proofs.Common.{◌∙◌, ap}
use Rattle.engine.proofs.AfterLemmas.{of_writes}
use Rattle.engine.specs.MetaAfter.{meta_after}
use Rattle.shared_server.proofs.system.meta_of.Goals as goal

pub returns : goal.returns
returns g c =
    λ log. of_writes c.meta.result.now c.meta_after.result.now c.meta_after.ensures.value log ∙ ap (λ meta. meta_after meta log) c.meta.ensures
