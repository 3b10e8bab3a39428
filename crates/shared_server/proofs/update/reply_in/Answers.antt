use Rattle.shared_server.proofs.ReplyLemmas.{update_replied}
use Rattle.shared_server.proofs.update.reply_in.Goals as goal

pub returns : goal.returns
returns g c = update_replied g.J.Naming.made _ _ c.args.kind c.args.keep c.update-found.result _ c.update-found.ensures c.tell.ensures.tells c.tell.ensures.sure
