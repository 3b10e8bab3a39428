use Rattle.std.proofs.Common.{ℤ, w64, FitsSigned, subst}
use Rattle.std.proofs.lemmas.Int.{to_z-of_z}
use Rattle.request_replies.specs.Changes.{ChangeReply, asking}
use Rattle.request_replies.specs.Texts.{told}
use Rattle.engine.proofs.AfterLemmas.{user_before}
use Rattle.request_replies.proofs.Statuses.{report_status}
use Rattle.request_replies.proofs.change.reply_to_change.Goals as goal

pub returns-clause-replies : goal.returns-clause-replies
returns-clause-replies g c =
    let fits : FitsSigned w64 c.args.moment = c.ranges.moment in
    subst (λ (m : ℤ). ChangeReply c.args.engine.now (asking m c.args.user c.args.request) c.args.keep (told c.tell.result) c.change-found.new.self)
    (to_z-of_z w64 c.args.moment fits)
    (record {
      found = c.change-found.result;
      steps = c.change-found.ensures.step;
      brought = c.change-found.ensures.brought;
      tells = c.tell.ensures.tells;
      sure = c.tell.ensures.sure;
    })

pub change-found-requires : goal.change-found-requires
change-found-requires g c = user_before c.args.engine.now.meta _ c.args.user c.requires

pub tell-requires : goal.tell-requires
tell-requires g c =
    report_status c.args.engine.now.meta c.args.engine.now.limits c.args.engine.now.state _ c.change-found.result _ c.change-found.ensures.step

pub returns-clause-sound : goal.returns-clause-sound
returns-clause-sound g c = λ sound. c.change-found.ensures.sound

pub returns-clause-sure : goal.returns-clause-sure
returns-clause-sure g c = c.change-found.ensures.sure
