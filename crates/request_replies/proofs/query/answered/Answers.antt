use Rattle.request_replies.proofs.Statuses.{ok_status}
use Rattle.request_replies.proofs.query.answered.Goals as goal

pub whole_reply-requires : goal.whole_reply-requires
whole_reply-requires c = ok_status

pub returns : goal.returns
returns c = c.whole_reply.ensures
