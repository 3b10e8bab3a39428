use Rattle.std.proofs.Common.{◌≡◌, ℕ, List, FitsSigned, to_z-of_z, w64, rules, subst}
use Rattle.offline_replies.specs.Bytes.{asked, IsReplyTo}
use Rattle.dhis_main.proofs.reply.reply_to_query.Goals as goal

pub returns : goal.returns
returns c =
    let fits : FitsSigned w64 c.args.moment = c.ranges.moment in
    let user : c.as_bytes.result.now ≡ c.args.user.now = search rules in
    let query : c.as_bytes-2.result.now ≡ c.args.query.now = search rules in
    let over = rw (to_z-of_z fits) at c.in_ok-made.ensures.over in (
      c.in_ok-made.made,
      subst (λ (u : List ℕ). IsReplyTo (asked u c.args.query.now c.args.moment) c.args.bytes.now c.in_ok-made.made) user
          (subst (λ (q : List ℕ). IsReplyTo (asked c.as_bytes.result.now q c.args.moment) c.args.bytes.now c.in_ok-made.made) query over),
      c.told_as.ensures,
    )
