use Rattle.std.proofs.Common.{◌∙◌, ap}
use Rattle.std.proofs.lemmas.List.{take_all}
use Rattle.cell_values.specs.Seen.{is_reg_seen, seen_regs}
use Rattle.cell_values.proofs.PlanLemmas.{kept-more}
use Rattle.cell_values.proofs.rates.seen_regs.Goals as goal

pub loop-reg-preserved : goal.loop-reg-preserved
loop-reg-preserved c =
    kept-more (is_reg_seen c.args.meta.now c.args.seer.now.user) c.args.regs.now c.loop-reg.kept.items c.push_if.new.list.items c.loop-reg.reg-index
    c.reg-item.result c.sees_reg.result c.loop-reg-test.true c.reg-item.is c.loop-reg.invariant c.in_ok-push_if.ensures c.sees_reg.ensures

pub loop-reg-init : goal.loop-reg-init
loop-reg-init c = c.new-kept.ensures.items

pub returns : goal.returns
returns c =
    c.loop-reg.invariant
    ∙ ap (seen_regs c.args.meta.now c.args.seer.now.user) (take_all c.loop-reg.reg-index c.args.regs.now c.loop-reg-test.false)
