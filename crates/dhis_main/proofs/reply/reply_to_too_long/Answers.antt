use Rattle.offline_replies.specs.Bytes.{asked}
use Rattle.dhis_main.proofs.reply.reply_to_too_long.Goals as goal

pub returns : goal.returns
returns c = λ user query moment bytes long. (c.in_ok-made.made, c.in_ok-made.ensures (asked user query moment) bytes long, c.told_as.ensures)
