use Rattle.std.proofs.Common.{◌∙◌, Ok, sym}
use Rattle.dh_changes.specs.World.{facts}
use Rattle.engine.proofs.ApprovalLemmas.{decided-fits}
use Rattle.engine.proofs.approval.judge_approval.Goals as goal

pub report-requires : goal.report-requires
report-requires c =
    decided-fits (facts c.args.world.now) c.args.meta.now c.in-User.user c.args.act.now (Ok c.in-Ok.write) (sym c.in-Ok.is ∙ c.decide.ensures)
