use Rattle.std.proofs.Common.{FitsSigned, to_z-of_z, w64}
use Rattle.offline_replies.specs.Bytes.{asked}
use Rattle.offline_replies.proofs.ReplyLemmas.{sole_reply}
use Rattle.offline_replies.proofs.UnseenLemmas.{unseen_bytes}
use Rattle.offline_replies.proofs.bundle.bytes.reply_to_bytes.Goals as goal

pub returns-clause-unseen : goal.returns-clause-unseen
returns-clause-unseen c =
    let fits : FitsSigned w64 c.args.moment = c.ranges.moment in
    let over = rw (to_z-of_z fits) at c.over_bytes.ensures in
    unseen_bytes (asked c.args.user.now c.args.query.now c.args.moment) c.args.bytes.now c.over_bytes.result over

pub returns-clause-sole : goal.returns-clause-sole
returns-clause-sole c =
    let fits : FitsSigned w64 c.args.moment = c.ranges.moment in
    let over = rw (to_z-of_z fits) at c.over_bytes.ensures in
    sole_reply (asked c.args.user.now c.args.query.now c.args.moment) c.args.bytes.now c.over_bytes.result over
