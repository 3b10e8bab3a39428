use Rattle.std.proofs.Common.{◌≡◌, List, IfOk, subst, FitsSigned, to_z-of_z, w64}
use Rattle.json_read.specs.Forms.{Formed}
use Rattle.json_read.specs.Given.{Gives}
use Rattle.engine.specs.Seen.{Seen}
use Rattle.import_forms.specs.declared.set.SetValue.{SetValue}
use Rattle.offline_replies.specs.Answer.{reply_with_values}
use Rattle.offline_replies.proofs.bundle.over.over_metadata.Goals as goal

pub returns-in-Ok : goal.returns-in-Ok
returns-in-Ok c =
    let fits : FitsSigned w64 c.args.moment = c.ranges.moment in
    let made = rw (to_z-of_z fits) at c.reply_to_values-reply.ensures in
    subst
    (λ (s : Seen). IfOk c.reply_to_values-reply.result (λ reply. (formed : Formed (List SetValue)) → Gives formed c.args.values
    → reply ≡ reply_with_values s.meta c.args.user.now c.args.query.now c.args.moment formed)) c.in-Ok.ensures made
