use Rattle.std.proofs.Common.{ℤ, w64, FitsSigned, subst}
use Rattle.std.proofs.lemmas.Int.{to_z-of_z}
use Rattle.request_replies.specs.Changes.{asking}
use Rattle.request_replies.specs.Texts.{told}
use Rattle.shared_server.specs.Replies.{ChangeReply}
use Rattle.shared_server.proofs.StatusLemmas.{reported}
use Rattle.shared_server.proofs.ReplyLemmas.{change_replied}
use Rattle.shared_server.proofs.change.reply_to_change.Goals as goal

pub tell-requires : goal.tell-requires
tell-requires g c = reported g.J.Naming.made _ _ _ c.change-found.result c.change-found.ensures

pub returns : goal.returns
returns g c =
    let fits : FitsSigned w64 c.args.moment = c.ranges.moment in
    subst
    (λ (m : ℤ). ChangeReply g.J.Naming.made (asking m c.args.user c.args.request) c.args.keep c.args.pass.now (told c.tell.result)
    c.change-found.new.pass)
    (to_z-of_z w64 c.args.moment fits)
    (change_replied g.J.Naming.made _ _ _ c.args.keep c.change-found.result _ c.change-found.ensures c.tell.ensures.tells c.tell.ensures.sure)
