use Rattle.std.proofs.Common.{◌∙◌, Option, map, ap}
use Rattle.std.proofs.lemmas.List.{take_all}
use Rattle.dh_base.specs.Fractions.{Fraction}
use Rattle.expr_lang.specs.declared.tree.Item.{Item}
use Rattle.table_rows.specs.Store.{Contents}
use Rattle.cell_values.specs.Seen.{SeenRecords, seen_of, contents_of}
use Rattle.cell_values.proofs.PlanLemmas.{mapped-more}
use Rattle.validation.specs.Check.{given_at}
use Rattle.validation.proofs.sides.item_values_of.Goals as goal

pub loop-item-preserved : goal.loop-item-preserved
loop-item-preserved g c =
    let s = c.args.source.now.store.now in
    let held : Contents = contents_of (g.S.RowStore.rows s) (g.S.RowStore.events s) (g.S.RowStore.regs s) in
    let shown : SeenRecords = seen_of c.args.source.now.meta.now c.args.source.now.seer.now.user held in
    let f : Item → Option Fraction = given_at c.args.source.now.meta.now shown c.args.spot.now.place in
    record {
      known = c.in_ok-value.ensures.known;
      values = mapped-more f c.args.items.now c.loop-item.values.items c.push.new.self.items c.loop-item.item-index c.item-item.result c.in_ok-value.value
          c.loop-item-test.true c.item-item.is c.loop-item.invariant.values c.in_ok-push.ensures.items c.in_ok-value.ensures.value;
    }

pub returns-clause-values : goal.returns-clause-values
returns-clause-values g c =
    let s = c.args.source.now.store.now in
    let held : Contents = contents_of (g.S.RowStore.rows s) (g.S.RowStore.events s) (g.S.RowStore.regs s) in
    let shown : SeenRecords = seen_of c.args.source.now.meta.now c.args.source.now.seer.now.user held in
    let f : Item → Option Fraction = given_at c.args.source.now.meta.now shown c.args.spot.now.place in
    c.loop-item.invariant.values ∙ ap (map f) (take_all c.loop-item.item-index c.args.items.now c.loop-item-test.false)
