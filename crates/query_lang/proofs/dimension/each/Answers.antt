use Rattle.std.proofs.Common.{◌∙◌, ◌++◌, Some, sym, ap}
use Rattle.std.specs.Prelude.{option_map}
use Rattle.std.proofs.lemmas.List.{drop_all, append-nil}
use Rattle.query_lang.specs.Items.{each}
use Rattle.query_lang.proofs.EachLemmas.{each_more, each_none}
use Rattle.query_lang.proofs.dimension.each.Goals as goal

pub loop-text-preserved : goal.loop-text-preserved
loop-text-preserved g c =
    let form = g.T.ReadItem.form in
    each_more form c.loop-text.items.items c.push.new.self.items c.args.texts.now c.loop-text.text-index c.text-item.result c.in-Some.item
    (each form c.args.texts.now)
    c.loop-text-test.true c.text-item.is (ap form (sym c.as_slice.ensures) ∙ sym c.in_ok-item.ensures
    ∙ c.in-Some.is) c.in_ok-push.ensures.items c.loop-text.invariant

pub returns-in_default : goal.returns-in_default
returns-in_default g c =
    let form = g.T.ReadItem.form in
    sym (each_none form c.loop-text.items.items c.args.texts.now c.loop-text.text-index c.text-item.result (each form c.args.texts.now)
    c.loop-text-test.true c.text-item.is (ap form (sym c.as_slice.ensures) ∙ sym c.in_ok-item.ensures ∙ c.in_default.is) c.loop-text.invariant)

pub returns : goal.returns
returns g c =
    let form = g.T.ReadItem.form in
    let items = c.loop-text.items.items in
    sym (c.loop-text.invariant
    ∙ ap (λ l. option_map (λ more. items ++ more) (each form l)) (drop_all c.loop-text.text-index c.args.texts.now c.loop-text-test.false)
    ∙ ap Some (append-nil items)
    ∙ ap Some (sym c.from.ensures))
