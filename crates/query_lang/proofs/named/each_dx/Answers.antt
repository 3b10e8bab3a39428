use Rattle.std.proofs.Common.{Ok, rules, sym, ap, ◌∙◌}
use Rattle.dh_base.specs.Memory.{IsCause}
use Rattle.query_lang.specs.Given.{cause_of}
use Rattle.query_lang.specs.Each.{each_of}
use Rattle.query_lang.specs.Named.{dx_of}
use Rattle.query_lang.proofs.LoopLemmas.{each-more, each-cause, each-all}
use Rattle.query_lang.proofs.named.each_dx.Goals as goal

pub loop-item-preserved : goal.loop-item-preserved
loop-item-preserved c =
    each-more (dx_of c.args.meta.now c.args.user) c.args.items.now c.loop-item.all.items c.push.new.self.items c.loop-item.item-index
    c.item-item.result c.in_ok-dx.dx _
    c.loop-item-test.true c.item-item.is c.in_ok-dx.ensures c.in_ok-push.ensures.items c.loop-item.invariant

pub returns-in_err-dx : goal.returns-in_err-dx
returns-in_err-dx c =
    let cause : IsCause (each_of (dx_of c.args.meta.now c.args.user) c.args.items.now) (cause_of c.in_err-dx.field-0.0) =
    each-cause (dx_of c.args.meta.now c.args.user) c.args.items.now c.loop-item.all.items c.loop-item.item-index c.item-item.result
    (cause_of c.in_err-dx.field-0.0) _
    c.loop-item-test.true c.item-item.is c.in_err-dx.ensures c.loop-item.invariant in
    search rules

pub returns : goal.returns
returns c =
    let meant = each_of (dx_of c.args.meta.now c.args.user) c.args.items.now in
    each-all (dx_of c.args.meta.now c.args.user) c.args.items.now c.loop-item.all.items c.loop-item.item-index meant c.loop-item-test.false
    c.loop-item.invariant
    ∙ ap Ok (sym c.from.ensures)
