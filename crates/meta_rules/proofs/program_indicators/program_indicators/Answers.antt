use Rattle.std.proofs.Common.{◌∙◌, ◌≡◌, ap, length, arith, rules}
use Rattle.std.proofs.lemmas.List.{length-drop}
use Rattle.dh_base.specs.Memory.{IsFirst}
use Rattle.dh_metadata.specs.declared.records.ProgramIndicator.{ProgramIndicator}
use Rattle.meta_rules.specs.Objects.{program_indicator_unread, program_indicator_in, first_unread, expr_cause}
use Rattle.meta_rules.proofs.MadeLemmas.{kept_step, kept_unread, made_all, unread_at}
use Rattle.meta_rules.proofs.program_indicators.program_indicators.Goals as goal

pub loop-each-preserved : goal.loop-each-preserved
loop-each-preserved g c =
    let unread_of = program_indicator_unread g.reading.answer c.args.ids.now c.args.days.now in
    let make = program_indicator_in g.reading.answer c.args.days.now in
    let step =
    kept_step unread_of make c.args.raw.now c.args.links c.loop-each.each-index c.each-item.result c.next-own.result
    c.loop-each.rest c.next-own.new.rest c.loop-each.made.items c.keep.new.made.items c.program_indicator-one.result c.loop-each-test.true c.each-item.is
    c.loop-each.invariant.rest c.next-own.ensures c.program_indicator-one.ensures c.in_ok-keep.ensures c.loop-each.invariant.made in
    record { unread = c.loop-each.invariant.unread ∙ step.unread; rest = step.left; made = step.made }

pub returns : goal.returns
returns g c =
    made_all (program_indicator_unread g.reading.answer c.args.ids.now c.args.days.now) (program_indicator_in g.reading.answer c.args.days.now) c.args.raw.now c.args.links
    c.loop-each.each-index c.loop-each.made.items c.loop-each-test.false c.loop-each.invariant.unread c.loop-each.invariant.made

pub returns-in_err-keep : goal.returns-in_err-keep
returns-in_err-keep g c =
    let unread_of = program_indicator_unread g.reading.answer c.args.ids.now c.args.days.now in
    let made_by = λ (made : ProgramIndicator). made ≡ program_indicator_in g.reading.answer c.args.days.now c.each-item.result c.next-own.result in
    let told = kept_unread unread_of c.each-item.result made_by c.loop-each.made.items c.keep.new.made.items c.program_indicator-one.result
    c.in_err-keep.field-0.0 c.program_indicator-one.ensures c.in_err-keep.ensures in
    let met : IsFirst (first_unread unread_of c.args.raw.now) (expr_cause c.in_err-keep.field-0.0) =
    unread_at unread_of c.args.raw.now c.loop-each.each-index c.each-item.result (expr_cause c.in_err-keep.field-0.0) c.loop-each-test.true
    c.each-item.is c.loop-each.invariant.unread told in
    search rules

pub next-own-requires : goal.next-own-requires
next-own-requires g c =
    let left = ap length c.loop-each.invariant.rest in
    omega (arith, left, length-drop c.loop-each.each-index c.args.links, c.loop-each-test.true, c.requires)
