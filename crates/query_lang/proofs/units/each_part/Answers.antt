use Rattle.std.proofs.Common.{Ok, rules, sym, ap, ◌∙◌}
use Rattle.dh_base.specs.Memory.{IsCause}
use Rattle.query_lang.specs.Given.{cause_of}
use Rattle.query_lang.specs.Each.{each_of}
use Rattle.query_lang.specs.Units.{part_of}
use Rattle.query_lang.proofs.LoopLemmas.{each-more, each-cause, each-all}
use Rattle.query_lang.proofs.units.each_part.Goals as goal

pub loop-item-preserved : goal.loop-item-preserved
loop-item-preserved c =
    each-more (part_of c.args.meta.now c.args.user) c.args.items.now c.loop-item.all.items c.push.new.self.items c.loop-item.item-index
    c.item-item.result c.in_ok-part.part _
    c.loop-item-test.true c.item-item.is c.in_ok-part.ensures c.in_ok-push.ensures.items c.loop-item.invariant

pub returns-in_err-part : goal.returns-in_err-part
returns-in_err-part c =
    let cause : IsCause (each_of (part_of c.args.meta.now c.args.user) c.args.items.now) (cause_of c.in_err-part.field-0.0) =
    each-cause (part_of c.args.meta.now c.args.user) c.args.items.now c.loop-item.all.items c.loop-item.item-index c.item-item.result
    (cause_of c.in_err-part.field-0.0) _
    c.loop-item-test.true c.item-item.is c.in_err-part.ensures c.loop-item.invariant in
    search rules

pub returns : goal.returns
returns c =
    let meant = each_of (part_of c.args.meta.now c.args.user) c.args.items.now in
    each-all (part_of c.args.meta.now c.args.user) c.args.items.now c.loop-item.all.items c.loop-item.item-index meant c.loop-item-test.false
    c.loop-item.invariant
    ∙ ap Ok (sym c.from.ensures)
