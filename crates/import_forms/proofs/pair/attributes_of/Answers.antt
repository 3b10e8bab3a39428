use Rattle.std.proofs.Common.{◌≡◌, ◌∙◌, length, ap, sym, refl, arith, Ok}
use Rattle.std.specs.Vec.Iter.{into_iter_items}
use Rattle.json_read.specs.Views.{data_of}
use Rattle.import_forms.specs.declared.pair.Pair.{Pair}
use Rattle.import_forms.specs.declared.pair.AttributePair.{AttributePair}
use Rattle.import_forms.specs.Pairs.{attributes_of}
use Rattle.import_forms.proofs.OwnedLemmas.{formed-more, formed-all}
use Rattle.import_forms.proofs.pair.attributes_of.Goals as goal

abbrev own_of : AttributePair → Pair
own_of each = each.pair

pub loop-each-preserved : goal.loop-each-preserved
loop-each-preserved c =
    formed-more own_of (attributes_of (data_of c.args.value.now)) c.loop-each.pairs.items c.push.new.self.items (into_iter_items c.loop-each.each-iterator)
    (into_iter_items c.next.new.self) c.in-Some.each c.in-Some.each.pair c.loop-each.invariant c.in-Some.ensures.steps.0 refl c.in_ok-push.ensures.items

pub returns : goal.returns
returns c =
    let none : length (into_iter_items c.loop-each.each-iterator) ≡ 0 = omega (arith, c.loop-each.each-iterator.rest.ok.0, c.in-None.ensures.steps.0) in
    formed-all own_of (attributes_of (data_of c.args.value.now)) c.loop-each.pairs.items (into_iter_items c.loop-each.each-iterator) c.loop-each.invariant none
    ∙ ap Ok (sym c.from.ensures)
