use Rattle.std.proofs.Common.{rules}
use Rattle.dh_base.specs.Memory.{IsCause}
use Rattle.dh_periods.specs.Moment.{day_of}
use Rattle.web_routes.specs.Given.{cause_of}
use Rattle.web_routes.specs.Calls.{routed}
use Rattle.engine.specs.MetaAfter.{published_meta}
use Rattle.request_replies.specs.Texts.{told}
use Rattle.request_replies.proofs.ReplyLemmas.{of_fault}
use Rattle.request_replies.proofs.replier.reply_at.Goals as goal

pub returns-in-Err-clause-replies : goal.returns-in-Err-clause-replies
returns-in-Err-clause-replies g c =
    let cause : IsCause (routed (published_meta c.args.engine.now) (day_of c.args.moment) c.args.request.now) (cause_of c.in-Err.fault) = search rules in
    of_fault c.args.engine.now c.args.moment (routed (published_meta c.args.engine.now) (day_of c.args.moment) c.args.request.now) (cause_of c.in-Err.fault)
    c.args.keep (told c.refuse.result) cause c.refuse.ensures
