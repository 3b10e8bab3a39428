use Rattle.std.proofs.Common.{◌≡◌, ◌∙◌, ◌<◌, ◌^◌, length, ap, arith}
use Rattle.std.proofs.lemmas.List.{length-map}
use Rattle.cell_values.proofs.AssignedLemmas.{assigned-all}
use Rattle.cell_values.proofs.assigned.assigned.Goals as goal

pub returns : goal.returns
returns c =
    let all : c.count-order-end.result ≡ length c.args.meta.now.organisation_units =
    c.count-order-end.ensures.count ∙ ap length c.tree.ensures ∙ length-map c.args.meta.now.organisation_units _ in
    let end : c.loop-order.order ≡ c.count-order-end.result = omega (arith, c.loop-order-test.false, c.loop-order.auto.order-end) in
    let few : c.loop-order.order < 2 ^ 32 = omega (arith, end, c.count-order-end.ensures.count, c.count-order-end.ensures.tree.few) in
    assigned-all c.args.meta.now c.args.set c.from.result c.loop-order.order (end ∙ all) few (c.from.ensures ∙ c.loop-order.invariant)
