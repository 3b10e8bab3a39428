use Rattle.std.proofs.Common.{◌≡◌, IfOk, subst, FitsSigned, to_z-of_z, w64}
use Rattle.engine.specs.Seen.{Seen}
use Rattle.offline_replies.specs.Generated.{generated_text}
use Rattle.offline_replies.proofs.samples.run.report_over.Goals as goal

pub returns-in-Ok : goal.returns-in-Ok
returns-in-Ok c =
    let fits : FitsSigned w64 c.args.moment = c.ranges.moment in
    let made = rw (to_z-of_z fits) at c.report_by-text.ensures in
    subst (λ (s : Seen). IfOk c.report_by-text.result (λ text. text ≡ generated_text s.meta c.args.moment c.args.count)) c.in-Ok.ensures made
