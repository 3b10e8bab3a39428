use Rattle.std.proofs.Common.{◌∙◌, ◌≡◌, ap, length, arith, rules}
use Rattle.std.proofs.lemmas.List.{length-drop}
use Rattle.dh_base.specs.Memory.{IsFirst}
use Rattle.dh_metadata.specs.declared.records.Rule.{Rule}
use Rattle.meta_rules.specs.Objects.{rule_unread, rule_in, first_unread, expr_cause}
use Rattle.meta_rules.proofs.MadeLemmas.{kept_step, kept_unread, made_all, unread_at}
use Rattle.meta_rules.proofs.rules.rules.Goals as goal

pub loop-each-preserved : goal.loop-each-preserved
loop-each-preserved g c =
    let unread_of = rule_unread g.reading.answer c.args.ids.now c.args.days.now in
    let make = rule_in g.reading.answer c.args.days.now in
    let step =
    kept_step unread_of make c.args.raw.now c.args.links c.loop-each.each-index c.each-item.result c.next-own.result
    c.loop-each.rest c.next-own.new.rest c.loop-each.made.items c.keep.new.made.items c.rule-one.result c.loop-each-test.true c.each-item.is
    c.loop-each.invariant.rest c.next-own.ensures c.rule-one.ensures c.in_ok-keep.ensures c.loop-each.invariant.made in
    record { unread = c.loop-each.invariant.unread ∙ step.unread; rest = step.left; made = step.made }

pub returns : goal.returns
returns g c =
    made_all (rule_unread g.reading.answer c.args.ids.now c.args.days.now) (rule_in g.reading.answer c.args.days.now) c.args.raw.now c.args.links
    c.loop-each.each-index c.loop-each.made.items c.loop-each-test.false c.loop-each.invariant.unread c.loop-each.invariant.made

pub returns-in_err-keep : goal.returns-in_err-keep
returns-in_err-keep g c =
    let unread_of = rule_unread g.reading.answer c.args.ids.now c.args.days.now in
    let made_by = λ (made : Rule). made ≡ rule_in g.reading.answer c.args.days.now c.each-item.result c.next-own.result in
    let told = kept_unread unread_of c.each-item.result made_by c.loop-each.made.items c.keep.new.made.items c.rule-one.result c.in_err-keep.field-0.0
    c.rule-one.ensures c.in_err-keep.ensures in
    let met : IsFirst (first_unread unread_of c.args.raw.now) (expr_cause c.in_err-keep.field-0.0) =
    unread_at unread_of c.args.raw.now c.loop-each.each-index c.each-item.result (expr_cause c.in_err-keep.field-0.0) c.loop-each-test.true
    c.each-item.is c.loop-each.invariant.unread told in
    search rules

pub next-own-requires : goal.next-own-requires
next-own-requires g c =
    let left = ap length c.loop-each.invariant.rest in
    omega (arith, left, length-drop c.loop-each.each-index c.args.links, c.loop-each-test.true, c.requires)
