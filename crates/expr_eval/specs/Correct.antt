-- What a postfix form has to do.
use Rattle.std.specs.Prelude.{◌≡◌, List, Option}
use Rattle.dh_base.specs.declared.plain.Strategy.{Strategy}
use Rattle.dh_base.specs.Fractions.{Fraction}
use Rattle.expr_lang.specs.declared.tree.Item.{Item}
use Rattle.expr_lang.specs.Syntax.{Syntax}
use Rattle.expr_eval.specs.declared.code.Postfix.{Postfix}
use Rattle.expr_eval.specs.declared.value.Value.{Value}
use Rattle.expr_eval.specs.Meaning.{meaning}
use Rattle.expr_eval.specs.Given.{given_by}
use Rattle.expr_eval.specs.Code.{outcome}

-- what a form gives for entries, one for each item
abbrev pub form_outcome : Postfix → Strategy → List (Option Fraction) → Value
form_outcome form s entries = outcome s entries form.code.items form.plain.items

-- the form gives the meaning of the tree over whatever is given for the items, under each strategy
pub record Means (items : List Item) (tree : Syntax) (form : Postfix) : Type 0 where
  pub agrees : (s : Strategy) (entries : List (Option Fraction)) → form_outcome form s entries ≡ meaning s (given_by items entries) tree
