use Rattle.std.proofs.Common.{◌≡◌, drop}
use Rattle.meta_rules.specs.Stages.{stages_broken}
use Rattle.meta_rules.proofs.stages.first_broken.Given as goal

abbrev pub invariant-loop-indicator : goal.invariant-loop-indicator
invariant-loop-indicator l = stages_broken l.ids l.stages l.indicators ≡ stages_broken l.ids l.stages (drop l.indicator-index l.indicators)
