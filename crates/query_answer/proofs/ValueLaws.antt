-- The value of an indicator by its sides in the form that is evaluated.
use Rattle.std.specs.Prelude.{◌≡◌, ℕ, map, Option}
use Rattle.dh_base.specs.Fractions.{Fraction}
use Rattle.expr_lang.specs.declared.tree.Item.{Item}
use Rattle.expr_lang.specs.Expr.{items_in}
use Rattle.dh_metadata.specs.declared.held.Records.{Records}
use Rattle.dh_metadata.specs.declared.records.Indicator.{Indicator}
use Rattle.query_answer.specs.declared.sides.Sides.{Sides}
use Rattle.query_answer.specs.Value.{AreSides, side_of, indicator_value_of, value_over}

-- over the values of the items, the sides give the indicator's value
pub value_over-is : (r : Records) (indicator : Indicator) (sides : Sides) (value : Item → Option Fraction) (days : ℕ) → AreSides r indicator sides
    → value_over sides days (map value (items_in indicator.numerator)) (map value (items_in indicator.denominator)) ≡ indicator_value_of r value days indicator
unfolding value_over indicator_value_of side_of
value_over-is r indicator sides value days are =
    cc (are.numerator.agrees _ (map value (items_in indicator.numerator)), are.denominator.agrees _ (map value (items_in indicator.denominator)))
