use Rattle.std.proofs.Common.{sym, ◌∙◌}
use Rattle.dh_categories.proofs.ComboLemmas.{each_of_shown}
use Rattle.dh_categories.proofs.fits.is_one_of_each.Goals as goal

pub returns-then-options-categories : goal.returns-then-options-categories
returns-then-options-categories c =
    c.each_has_one.ensures ∙ sym (each_of_shown c.args.categories.now c.args.options.now c.if-options-categories.true)
