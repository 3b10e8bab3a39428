use Rattle.offline_replies.specs.File.{assigned}
use Rattle.offline_replies.proofs.StepLemmas.{each-none, each-step}
use Rattle.offline_replies.proofs.samples.file.push_each_assigned.Goals as goal

pub loop-n-init : goal.loop-n-init
loop-n-init c = each-none assigned c.args.text.now.items

pub loop-n-preserved : goal.loop-n-preserved
loop-n-preserved c =
    each-step assigned c.args.text.now.items c.loop-n.text.items c.push_assigned.new.text.items c.loop-n.n c.loop-n.invariant c.in_ok-push_assigned.ensures
