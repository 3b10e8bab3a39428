use Rattle.std.proofs.Common.{◌∙◌, Ok, ap}
use Rattle.dh_changes.specs.World.{facts}
use Rattle.tracker_import.specs.Outcomes.{finished}
use Rattle.tracker_import.specs.Verdicts.{verdict_of}
use Rattle.tracker_import.proofs.WriteLemmas.{told-fits}
use Rattle.tracker_import.proofs.verdict.verdict.Goals as goal

pub returns-clause-fits : goal.returns-clause-fits
unfolding verdict_of
returns-clause-fits c =
    told-fits (facts c.args.world.now) c.args.meta.now c.args.who c.args.bundle.now (Ok c.finished.result)
    (c.finished.ensures.value ∙ ap (finished c.args.bundle.now.params.atomic) c.in_ok-with_all.ensures.sofar)
