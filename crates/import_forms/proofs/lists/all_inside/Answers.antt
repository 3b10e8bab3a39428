use Rattle.std.proofs.Common.{◌≡◌, ◌∙◌, length, map, arith}
use Rattle.std.specs.Vec.Iter.{into_iter_items}
use Rattle.import_forms.proofs.OwnedLemmas.{made-more, made-all}
use Rattle.import_forms.proofs.lists.all_inside.Goals as goal

pub loop-object-preserved : goal.loop-object-preserved
loop-object-preserved g c =
    let f = g.T.Inner.inside c.args.id.now in
    made-more f (map f c.args.objects) c.loop-object.filled.items c.push.new.self.items (into_iter_items c.loop-object.object-iterator)
    (into_iter_items c.next.new.self) c.in-Some.object c.in_ok-put_inside.field-0 c.loop-object.invariant c.in-Some.ensures.steps.0
    c.in_ok-put_inside.ensures c.in_ok-push.ensures.items

pub returns : goal.returns
returns g c =
    let none : length (into_iter_items c.loop-object.object-iterator) ≡ 0 = omega (arith, c.loop-object.object-iterator.rest.ok.0, c.in-None.ensures.steps.0) in
    let f = g.T.Inner.inside c.args.id.now in
    c.from.ensures
    ∙ made-all f (map f c.args.objects) c.loop-object.filled.items (into_iter_items c.loop-object.object-iterator) c.loop-object.invariant none
