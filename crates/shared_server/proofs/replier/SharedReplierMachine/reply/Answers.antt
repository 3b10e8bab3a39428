use Rattle.std.proofs.Common.{rules, subst, ℤ, w64, FitsSigned}
use Rattle.std.proofs.lemmas.Int.{to_z-of_z}
use Rattle.request_replies.specs.Texts.{told}
use Rattle.shared_server.specs.Steps.{ReplyAt}
use Rattle.shared_server.proofs.StepLemmas.{step_told, step_wanting}
use Rattle.shared_server.proofs.replier.SharedReplierMachine.reply.Goals as goal

pub returns-clause-replies : goal.returns-clause-replies
returns-clause-replies g c =
    let fits : FitsSigned w64 c.now-moment.result = search rules in
    step_told g.J.Naming.made g.C.Clock.shows c.args.self.now.clock.now c.args.self.now.pass.now c.reply_at.new.pass c.args.self.now.pass.ghost_name
    c.now-moment.result c.args.request.now c.args.keep c.reply_at.result c.now-moment.ensures
    (subst (λ (m : ℤ). ReplyAt g.J.Naming.made m c.args.request.now c.args.keep c.args.self.now.pass.now (told c.reply_at.result) c.reply_at.new.pass)
    (to_z-of_z w64 c.now-moment.result fits) c.reply_at.ensures)

pub returns-clause-memory : goal.returns-clause-memory
returns-clause-memory g c =
    let fits : FitsSigned w64 c.now-moment.result = search rules in
    step_wanting g.J.Naming.made g.C.Clock.shows c.args.self.now.clock.now c.args.self.now.pass.now c.reply_at.new.pass c.args.self.now.pass.ghost_name
    c.now-moment.result c.args.request.now c.args.keep c.reply_at.result c.now-moment.ensures
    (subst (λ (m : ℤ). ReplyAt g.J.Naming.made m c.args.request.now c.args.keep c.args.self.now.pass.now (told c.reply_at.result) c.reply_at.new.pass)
    (to_z-of_z w64 c.now-moment.result fits) c.reply_at.ensures)
