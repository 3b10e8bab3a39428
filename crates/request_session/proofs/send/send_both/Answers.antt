use Rattle.request_session.proofs.SendLemmas.{sent_first}
use Rattle.request_session.proofs.send.send_both.Goals as goal

pub returns-in-Err-clause-sent : goal.returns-in-Err-clause-sent
returns-in-Err-clause-sent g c = sent_first _ _ _ _ c.args.first.now c.args.second.now c.in-Err.ensures.sent
