-- The value of an indicator by the values of its items.
use Rattle.std.specs.Prelude.{◌≡◌, ℕ, ℤ, pos, List, map, slice_get, Option}
use Rattle.std.specs.Option.{option_map_or}
use Rattle.dh_base.specs.declared.plain.Strategy.TheVariants.{SkipIfAll}
use Rattle.dh_base.specs.Fractions.{Fraction}
use Rattle.expr_lang.specs.declared.expr.Expr.{Expr}
use Rattle.expr_lang.specs.declared.tree.Item.{Item}
use Rattle.expr_lang.specs.Expr.{items_in}
use Rattle.expr_eval.specs.declared.value.Value.{Value}
use Rattle.expr_eval.specs.Meaning.{meaning}
use Rattle.expr_eval.specs.Given.{given_by}
use Rattle.expr_eval.specs.Correct.{Means, form_outcome}
use Rattle.dh_metadata.specs.declared.held.Records.{Records}
use Rattle.dh_metadata.specs.declared.records.Indicator.{Indicator}
use Rattle.dh_metadata.specs.declared.records.IndicatorType.{IndicatorType}
use Rattle.query_answer.specs.declared.arithmetic.CellValue.{CellValue}
use Rattle.query_answer.specs.declared.sides.Sides.{Sides}
use Rattle.query_answer.specs.Scale.{of_sides}

-- what is given for an item of an expression, by the value of each item
abbrev pub given_in : Expr → (Item → Option Fraction) → Item → Option Fraction
given_in expr value = given_by (items_in expr) (map value (items_in expr))

-- the value of a side
unfoldable pub side_of : (Item → Option Fraction) → Expr → Value
side_of value expr = meaning SkipIfAll (given_in expr value) expr.tree

-- the factor of the indicator's type
abbrev pub factor_of : Records → Indicator → ℤ
factor_of r indicator = option_map_or (λ (found : IndicatorType). found.factor) (slice_get r.indicator_types indicator.indicator_type) (pos 1)

-- the value of an indicator over so many days
unfoldable pub indicator_value_of : Records → (Item → Option Fraction) → ℕ → Indicator → CellValue
indicator_value_of r value days indicator =
    of_sides (factor_of r indicator) indicator.annualized days (side_of value indicator.numerator) (side_of value indicator.denominator)

-- the sides in the form that is evaluated
pub record AreSides (r : Records) (indicator : Indicator) (sides : Sides) : Type 0 where
  pub numerator : Means (items_in indicator.numerator) indicator.numerator.tree sides.numerator
  pub denominator : Means (items_in indicator.denominator) indicator.denominator.tree sides.denominator
  pub factor : sides.factor ≡ factor_of r indicator
  pub annualized : sides.annualized ≡ indicator.annualized

-- what the sides give for entries, one for each item
unfoldable pub value_over : Sides → ℕ → List (Option Fraction) → List (Option Fraction) → CellValue
value_over sides days numerator denominator =
    of_sides sides.factor sides.annualized days
    (form_outcome sides.numerator SkipIfAll numerator)
    (form_outcome sides.denominator SkipIfAll denominator)
