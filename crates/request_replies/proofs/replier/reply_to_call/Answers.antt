use Rattle.std.proofs.Common.{w64, FitsSigned, refl}
use Rattle.std.proofs.lemmas.Int.{to_z-of_z}
use Rattle.web_routes.specs.declared.call.Call.TheVariants as call
use Rattle.request_replies.specs.Texts.{told}
use Rattle.request_replies.proofs.ReplyLemmas.{call_replied}
use Rattle.request_replies.proofs.replier.reply_to_call.Goals as goal

pub returns-in-Values-clause-replies : goal.returns-in-Values-clause-replies
returns-in-Values-clause-replies g c =
    let fits : FitsSigned w64 c.args.moment = c.ranges.moment in
    call_replied c.args.engine.now c.reply_to_change.new.engine c.args.call (call.Values c.in-Values.user c.in-Values.set) c.args.moment _ c.args.keep
    (told c.reply_to_change.result) c.in-Values.is (to_z-of_z w64 c.args.moment fits) c.reply_to_change.ensures.replies

pub returns-in-Completion-clause-replies : goal.returns-in-Completion-clause-replies
returns-in-Completion-clause-replies g c =
    let fits : FitsSigned w64 c.args.moment = c.ranges.moment in
    call_replied c.args.engine.now c.reply_to_change-in-Completion.new.engine c.args.call (call.Completion c.in-Completion.user c.in-Completion.list) c.args.moment _ c.args.keep
    (told c.reply_to_change-in-Completion.result) c.in-Completion.is (to_z-of_z w64 c.args.moment fits) c.reply_to_change-in-Completion.ensures.replies

pub returns-in-Approval-clause-replies : goal.returns-in-Approval-clause-replies
returns-in-Approval-clause-replies g c =
    let fits : FitsSigned w64 c.args.moment = c.ranges.moment in
    call_replied c.args.engine.now c.reply_to_change-in-Approval.new.engine c.args.call (call.Approval c.in-Approval.user c.in-Approval.act) c.args.moment _ c.args.keep
    (told c.reply_to_change-in-Approval.result) c.in-Approval.is (to_z-of_z w64 c.args.moment fits) c.reply_to_change-in-Approval.ensures.replies

pub returns-in-Tracker-clause-replies : goal.returns-in-Tracker-clause-replies
returns-in-Tracker-clause-replies g c =
    let fits : FitsSigned w64 c.args.moment = c.ranges.moment in
    call_replied c.args.engine.now c.reply_to_change-in-Tracker.new.engine c.args.call (call.Tracker c.in-Tracker.user c.in-Tracker.bundle) c.args.moment _ c.args.keep
    (told c.reply_to_change-in-Tracker.result) c.in-Tracker.is (to_z-of_z w64 c.args.moment fits) c.reply_to_change-in-Tracker.ensures.replies

pub returns-in-Update-clause-replies : goal.returns-in-Update-clause-replies
returns-in-Update-clause-replies g c =
    call_replied c.args.engine.now c.reply_to_update.new.engine c.args.call (call.Update c.in-Update.kind) c.args.moment c.args.moment c.args.keep
    (told c.reply_to_update.result) c.in-Update.is refl c.reply_to_update.ensures.replies

pub returns-in-Query-clause-replies : goal.returns-in-Query-clause-replies
returns-in-Query-clause-replies g c =
    call_replied c.args.engine.now c.args.engine.now c.args.call (call.Query c.in-Query.user c.in-Query.asked c.in-Query.query) c.args.moment c.args.moment
    c.args.keep (told c.reply_to_query-reply.result) c.in-Query.is refl (c.reply_to_query-reply.ensures, refl)

pub returns-in-Check-clause-replies : goal.returns-in-Check-clause-replies
returns-in-Check-clause-replies g c =
    call_replied c.args.engine.now c.args.engine.now c.args.call (call.Check c.in-Check.user c.in-Check.asked c.in-Check.checked) c.args.moment c.args.moment
    c.args.keep (told c.reply_to_check.result) c.in-Check.is refl (c.reply_to_check.ensures, refl)
