use Rattle.offline_replies.specs.File.{district}
use Rattle.offline_replies.proofs.StepLemmas.{each-none, each-step}
use Rattle.offline_replies.proofs.samples.file.push_districts.Goals as goal

pub loop-n-init : goal.loop-n-init
loop-n-init c = each-none district c.args.text.now.items

pub loop-n-preserved : goal.loop-n-preserved
loop-n-preserved c =
    each-step district c.args.text.now.items c.loop-n.text.items c.push_district_unit.new.text.items c.loop-n.n c.loop-n.invariant
    c.in_ok-push_district_unit.ensures
