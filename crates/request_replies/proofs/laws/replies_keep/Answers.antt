use Rattle.request_replies.proofs.KeepLaws.{reply-keeps}
use Rattle.request_replies.proofs.laws.replies_keep.Goals as goal

pub returns : goal.returns
returns c = reply-keeps
