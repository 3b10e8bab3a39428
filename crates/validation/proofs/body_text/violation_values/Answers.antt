use Rattle.std.proofs.Common.{◌∙◌, map, ap}
use Rattle.std.proofs.lemmas.List.{take_all}
use Rattle.serde_json.specs.View.{view}
use Rattle.validation.specs.Body.{violation_of, violations_of}
use Rattle.validation.proofs.LoopLemmas.{viewed-more}
use Rattle.validation.proofs.body_text.violation_values.Goals as goal

pub loop-each-init : goal.loop-each-init
loop-each-init c = ap (map view) c.new-list.ensures.items

pub loop-each-preserved : goal.loop-each-preserved
loop-each-preserved c =
    viewed-more view (violation_of c.args.meta.now) c.args.violations.now c.loop-each.list.items c.push.new.self.items c.loop-each.each-index
    c.each-item.result c.in_ok-value.value c.loop-each-test.true c.each-item.is c.loop-each.invariant c.in_ok-push.ensures.items c.in_ok-value.ensures

pub returns : goal.returns
returns c =
    c.loop-each.invariant ∙ ap (violations_of c.args.meta.now) (take_all c.loop-each.each-index c.args.violations.now c.loop-each-test.false)
