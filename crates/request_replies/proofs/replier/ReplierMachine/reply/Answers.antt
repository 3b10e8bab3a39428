use Rattle.std.proofs.Common.{rules, subst, ℤ, w64, FitsSigned}
use Rattle.std.proofs.lemmas.Int.{to_z-of_z}
use Rattle.request_replies.specs.Texts.{told}
use Rattle.request_replies.specs.Steps.{ReplyAt}
use Rattle.request_replies.proofs.StepLemmas.{step_told, step_wanting}
use Rattle.request_replies.proofs.UnseenLemmas.{unseen_told}
use Rattle.request_replies.proofs.replier.ReplierMachine.reply.Goals as goal

pub returns-clause-replies : goal.returns-clause-replies
returns-clause-replies g c =
    let fits : FitsSigned w64 c.now-moment.result = search rules in
    step_told g.K.Keeper.keeper_faults g.C.Clock.shows c.args.self.now.clock.now c.args.self.now.engine c.reply_at.new.engine c.now-moment.result
    c.args.request.now c.args.keep
    c.reply_at.result c.now-moment.ensures
    (subst (λ (m : ℤ). ReplyAt c.args.self.now.engine m c.args.request.now c.args.keep (told c.reply_at.result) c.reply_at.new.engine)
    (to_z-of_z w64 c.now-moment.result fits)
    c.reply_at.ensures.replies) c.reply_at.ensures.sound c.reply_at.ensures.sure

pub returns-clause-memory : goal.returns-clause-memory
returns-clause-memory g c =
    let fits : FitsSigned w64 c.now-moment.result = search rules in
    step_wanting g.K.Keeper.keeper_faults g.C.Clock.shows c.args.self.now.clock.now c.args.self.now.engine c.reply_at.new.engine c.now-moment.result
    c.args.request.now c.args.keep
    c.reply_at.result c.now-moment.ensures
    (subst (λ (m : ℤ). ReplyAt c.args.self.now.engine m c.args.request.now c.args.keep (told c.reply_at.result) c.reply_at.new.engine)
    (to_z-of_z w64 c.now-moment.result fits)
    c.reply_at.ensures.replies) c.reply_at.ensures.sound c.reply_at.ensures.sure

pub returns-clause-unseen : goal.returns-clause-unseen
returns-clause-unseen g c =
    let fits : FitsSigned w64 c.now-moment.result = search rules in
    unseen_told g.C.Clock.shows c.args.self.now.clock.now c.args.self.now.engine c.reply_at.new.engine c.now-moment.result c.args.request.now c.args.keep
    c.reply_at.result c.now-moment.ensures
    (subst (λ (m : ℤ). ReplyAt c.args.self.now.engine m c.args.request.now c.args.keep (told c.reply_at.result) c.reply_at.new.engine)
    (to_z-of_z w64 c.now-moment.result fits)
    c.reply_at.ensures.replies)
