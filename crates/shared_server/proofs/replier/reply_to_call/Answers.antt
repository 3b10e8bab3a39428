use Rattle.std.proofs.Common.{w64, FitsSigned, refl, subst}
use Rattle.std.proofs.lemmas.Int.{to_z-of_z}
use Rattle.web_routes.specs.Calls.{IsSound}
use Rattle.web_routes.specs.declared.call.Call.TheVariants as call
use Rattle.request_replies.specs.Texts.{told}
use Rattle.shared_server.proofs.ReplyLemmas.{call_replied, user_made}
use Rattle.shared_server.proofs.replier.reply_to_call.Goals as goal

pub returns-in-Query : goal.returns-in-Query
returns-in-Query g c =
    call_replied g.J.Naming.made c.args.moment c.args.moment c.args.call (call.Query c.in-Query.user c.in-Query.asked c.in-Query.query) c.args.keep c.args.pass.now
    c.reply_to_query-reply.new.pass (told c.reply_to_query-reply.result) c.in-Query.is refl c.reply_to_query-reply.ensures

pub returns-in-Check : goal.returns-in-Check
returns-in-Check g c =
    call_replied g.J.Naming.made c.args.moment c.args.moment c.args.call (call.Check c.in-Check.user c.in-Check.asked c.in-Check.checked) c.args.keep c.args.pass.now
    c.reply_to_check.new.pass (told c.reply_to_check.result) c.in-Check.is refl c.reply_to_check.ensures

pub returns-in-Update : goal.returns-in-Update
returns-in-Update g c =
    call_replied g.J.Naming.made c.args.moment c.args.moment c.args.call (call.Update c.in-Update.kind) c.args.keep c.args.pass.now
    c.reply_to_update.new.pass (told c.reply_to_update.result) c.in-Update.is refl c.reply_to_update.ensures

pub returns-in-Values : goal.returns-in-Values
returns-in-Values g c =
    let fits : FitsSigned w64 c.args.moment = c.ranges.moment in
    call_replied g.J.Naming.made c.args.moment _ c.args.call (call.Values c.in-Values.user c.in-Values.set) c.args.keep c.args.pass.now
    c.reply_to_change.new.pass (told c.reply_to_change.result) c.in-Values.is (to_z-of_z w64 c.args.moment fits) c.reply_to_change.ensures

pub returns-in-Completion : goal.returns-in-Completion
returns-in-Completion g c =
    let fits : FitsSigned w64 c.args.moment = c.ranges.moment in
    call_replied g.J.Naming.made c.args.moment _ c.args.call (call.Completion c.in-Completion.user c.in-Completion.list) c.args.keep c.args.pass.now
    c.reply_to_change-in-Completion.new.pass (told c.reply_to_change-in-Completion.result) c.in-Completion.is (to_z-of_z w64 c.args.moment fits) c.reply_to_change-in-Completion.ensures

pub returns-in-Approval : goal.returns-in-Approval
returns-in-Approval g c =
    let fits : FitsSigned w64 c.args.moment = c.ranges.moment in
    call_replied g.J.Naming.made c.args.moment _ c.args.call (call.Approval c.in-Approval.user c.in-Approval.act) c.args.keep c.args.pass.now
    c.reply_to_change-in-Approval.new.pass (told c.reply_to_change-in-Approval.result) c.in-Approval.is (to_z-of_z w64 c.args.moment fits) c.reply_to_change-in-Approval.ensures

pub returns-in-Tracker : goal.returns-in-Tracker
returns-in-Tracker g c =
    let fits : FitsSigned w64 c.args.moment = c.ranges.moment in
    call_replied g.J.Naming.made c.args.moment _ c.args.call (call.Tracker c.in-Tracker.user c.in-Tracker.bundle) c.args.keep c.args.pass.now
    c.reply_to_change-in-Tracker.new.pass (told c.reply_to_change-in-Tracker.result) c.in-Tracker.is (to_z-of_z w64 c.args.moment fits) c.reply_to_change-in-Tracker.ensures

pub reply_to_change-requires : goal.reply_to_change-requires
reply_to_change-requires g c = record {
  user = user_made g.J.Naming.made c.args.meta.now c.in-Values.user c.requires.meta
      (subst (IsSound c.args.meta.now) c.in-Values.is c.requires.sound);
}

pub reply_to_change-requires-in-Completion : goal.reply_to_change-requires-in-Completion
reply_to_change-requires-in-Completion g c = record {
  user = user_made g.J.Naming.made c.args.meta.now c.in-Completion.user c.requires.meta
      (subst (IsSound c.args.meta.now) c.in-Completion.is c.requires.sound);
}

pub reply_to_change-requires-in-Approval : goal.reply_to_change-requires-in-Approval
reply_to_change-requires-in-Approval g c = record {
  user = user_made g.J.Naming.made c.args.meta.now c.in-Approval.user c.requires.meta
      (subst (IsSound c.args.meta.now) c.in-Approval.is c.requires.sound);
}

pub reply_to_change-requires-in-Tracker : goal.reply_to_change-requires-in-Tracker
reply_to_change-requires-in-Tracker g c = record {
  user = user_made g.J.Naming.made c.args.meta.now c.in-Tracker.user c.requires.meta
      (subst (IsSound c.args.meta.now) c.in-Tracker.is c.requires.sound);
}
