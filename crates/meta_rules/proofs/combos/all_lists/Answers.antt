use Rattle.std.proofs.Common.{◌∙◌, ℕ, List, map, ap}
use Rattle.std.proofs.lemmas.List.{take_all}
use Rattle.dh_categories.specs.Combos.{shown_combo}
use Rattle.dh_metadata.specs.declared.records.CategoryCombo.{CategoryCombo}
use Rattle.meta_rules.specs.Categories.{options_of, combo_lists}
use Rattle.meta_rules.proofs.LoopLemmas.{viewed-more}
use Rattle.meta_rules.proofs.combos.all_lists.Goals as goal

pub loop-combo-preserved : goal.loop-combo-preserved
loop-combo-preserved c =
    let categories = c.args.categories.now in
    let f : CategoryCombo → List (List ℕ) = λ combo. map (options_of categories) combo.categories in
    viewed-more shown_combo f c.args.combos.now c.loop-combo.all.items c.push.new.self.items c.loop-combo.combo-index c.combo-item.result
    c.in_ok-lists.field-0 c.loop-combo-test.true c.combo-item.is c.loop-combo.invariant c.in_ok-push.ensures.items
    (c.in_ok-lists.ensures ∙ ap (map (options_of categories)) c.as_slice.ensures)

pub returns : goal.returns
returns c = c.loop-combo.invariant ∙ ap (combo_lists c.args.categories.now) (take_all c.loop-combo.combo-index c.args.combos.now c.loop-combo-test.false)
