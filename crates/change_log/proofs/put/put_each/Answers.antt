use Rattle.std.proofs.Common.{◌++◌, ◌∙◌, ap, subst, sym}
use Rattle.std.specs.List.{flat_map, All}
use Rattle.std.proofs.lemmas.List.{take_all}
use Rattle.std.proofs.lemmas.List.Elements.{All-more}
use Rattle.change_log.proofs.Growing.{grown}
use Rattle.change_log.proofs.put.put_each.Goals as goal

pub put-requires : goal.put-requires
put-requires g c = subst g.T.Put.Fits (sym c.item-item.is) (c.requires c.loop-item.item-index _ c.loop-item-test.true)

pub loop-item-preserved : goal.loop-item-preserved
loop-item-preserved g c = record {
  grown =
      grown g.T.Put.bytes c.args.out.now.items c.loop-item.out.items c.put.new.out.items c.args.items.now c.loop-item.item-index c.item-item.result
      c.loop-item-test.true c.item-item.is
      c.loop-item.invariant.grown c.in_ok-put.ensures.grown;
  valid =
      All-more g.T.Put.Holds c.args.items.now c.loop-item.item-index c.item-item.result c.loop-item-test.true c.loop-item.invariant.valid
      (subst g.T.Put.Holds c.item-item.is c.in_ok-put.ensures.valid);
}

pub returns-clause-grown : goal.returns-clause-grown
returns-clause-grown g c =
    c.loop-item.invariant.grown
    ∙ ap (λ xs. c.args.out.now.items ++ flat_map g.T.Put.bytes xs) (take_all c.loop-item.item-index c.args.items.now c.loop-item-test.false)

pub returns-clause-valid : goal.returns-clause-valid
returns-clause-valid g c = subst (All g.T.Put.Holds) (take_all c.loop-item.item-index c.args.items.now c.loop-item-test.false) c.loop-item.invariant.valid
