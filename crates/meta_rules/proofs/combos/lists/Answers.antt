use Rattle.std.proofs.Common.{map, ap, ◌∙◌, ℕ, List, Vec, Global}
use Rattle.std.proofs.lemmas.List.{take_all}
use Rattle.meta_rules.specs.Categories.{options_of}
use Rattle.meta_rules.proofs.LoopLemmas.{viewed-more-at}
use Rattle.meta_rules.proofs.combos.lists.Goals as goal

pub loop-category-preserved : goal.loop-category-preserved
loop-category-preserved c =
    let items : Vec ℕ Global → List ℕ = λ options. options.items in
    viewed-more-at items (options_of c.args.categories.now) c.args.combo.now c.loop-category.lists.items c.push.new.self.items
    c.loop-category.category-index 0 c.in_ok-options.field-0 c.loop-category-test.true c.loop-category.invariant c.in_ok-push.ensures.items
    c.in_ok-options.ensures

pub returns : goal.returns
returns c =
    c.loop-category.invariant
    ∙ ap (map (options_of c.args.categories.now)) (take_all c.loop-category.category-index c.args.combo.now c.loop-category-test.false)
