use Rattle.request_replies.specs.Texts.{told}
use Rattle.request_replies.proofs.AskLemmas.{can_answer}
use Rattle.shared_server.proofs.ViewLemmas.{query_replied}
use Rattle.shared_server.proofs.look.reply_to_query.Goals as goal

pub tell_answer-requires-clause-query : goal.tell_answer-requires-clause-query
tell_answer-requires-clause-query g c = can_answer _ _ _ c.requires.query

pub returns : goal.returns
returns g c =
    query_replied g.J.Naming.made c.args.pass.now c.look-found.new.pass c.args.asked c.args.user c.args.query.now c.args.keep c.args.meta.now
    c.look-found.result
    (told c.tell_answer.result) c.look-found.ensures.call c.look-found.ensures.tables c.look-found.ensures.told c.requires.meta c.tell_answer.ensures
