use Rattle.std.proofs.Common.{◌∙◌, ℕ, List, ap}
use Rattle.std.proofs.lemmas.List.{take_all}
use Rattle.dh_metadata.specs.Rows.{option_combo_rows}
use Rattle.dh_categories.specs.Combos.{shown_option_combo}
use Rattle.dh_metadata.specs.declared.records.OptionCombo.{OptionCombo}
use Rattle.meta_rules.proofs.LoopLemmas.{viewed-more}
use Rattle.meta_rules.proofs.combos.rows.Goals as goal

pub loop-option_combo-preserved : goal.loop-option_combo-preserved
loop-option_combo-preserved c =
    let f : OptionCombo → ℕ × List ℕ = λ option_combo. (option_combo.category_combo, option_combo.category_options) in
    let combo : ℕ = c.option_combo-item.result.category_combo in
    viewed-more shown_option_combo f c.args.option_combos.now c.loop-option_combo.rows.items c.push.new.self.items
    c.loop-option_combo.option_combo-index c.option_combo-item.result (combo, c.in_ok-options.options) c.loop-option_combo-test.true
    c.option_combo-item.is c.loop-option_combo.invariant c.in_ok-push.ensures.items
    (ap (λ (options : List ℕ). (combo, options)) (c.in_ok-options.ensures.items ∙ c.as_slice.ensures))

pub returns : goal.returns
returns c =
    c.loop-option_combo.invariant
    ∙ ap option_combo_rows (take_all c.loop-option_combo.option_combo-index c.args.option_combos.now c.loop-option_combo-test.false)
