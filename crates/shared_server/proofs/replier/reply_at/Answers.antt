use Rattle.std.proofs.Common.{◌≡◌, Ok, rules, refl, w64}
use Rattle.std.proofs.lemmas.Int.{to_z-of_z}
use Rattle.dh_base.specs.Memory.{IsCause}
use Rattle.dh_periods.specs.Moment.{day_of}
use Rattle.web_routes.specs.Given.{cause_of}
use Rattle.web_routes.specs.Calls.{routed}
use Rattle.request_replies.specs.Texts.{told}
use Rattle.shared_server.proofs.ReplyLemmas.{at_known, call_replied, of_call, of_fault}
use Rattle.shared_server.proofs.replier.reply_at.Goals as goal

pub returns-in-Ok : goal.returns-in-Ok
returns-in-Ok g c =
    let is : routed c.meta_of-meta.result.now (day_of c.args.moment) c.args.request.now ≡ Ok c.in-Ok.call = search rules in
    at_known g.J.Naming.made c.args.moment c.args.request.now c.args.keep c.args.pass.now c.reply_to_call.new.pass (told c.reply_to_call.result)
    c.meta_of-meta.result.now c.meta_of-meta.ensures
    (of_call g.J.Naming.made c.args.moment _ c.in-Ok.call c.args.keep _ _ _ is
    (call_replied g.J.Naming.made c.args.moment _ c.in-Ok.call c.in-Ok.call c.args.keep _ _ _ refl (to_z-of_z w64 c.args.moment c.ranges.moment)
    c.reply_to_call.ensures))

pub returns-in-Err : goal.returns-in-Err
returns-in-Err g c =
    let cause : IsCause (routed c.meta_of-meta.result.now (day_of c.args.moment) c.args.request.now) (cause_of c.in-Err.fault) = search rules in
    at_known g.J.Naming.made c.args.moment c.args.request.now c.args.keep c.args.pass.now c.args.pass.now (told c.refuse.result)
    c.meta_of-meta.result.now c.meta_of-meta.ensures
    (of_fault g.J.Naming.made c.args.moment _ (cause_of c.in-Err.fault) c.args.keep _ _ cause c.refuse.ensures)
