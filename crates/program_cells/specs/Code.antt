-- A program indicator in the form that is evaluated.
use Rattle.std.specs.Prelude.{◌≡◌, ⊤, Bool, true, List, [], ◌∷◌, map, Option, Some, None}
use Rattle.dh_base.specs.declared.plain.Strategy.TheVariants.{Never}
use Rattle.dh_base.specs.Fractions.{Fraction}
use Rattle.expr_lang.specs.declared.expr.Expr.{Expr}
use Rattle.expr_lang.specs.Expr.{items_in}
use Rattle.expr_eval.specs.declared.code.Postfix.{Postfix}
use Rattle.expr_eval.specs.declared.indicator.PiCode.{PiCode}
use Rattle.expr_eval.specs.declared.indicator.PiItem.{PiItem}
use Rattle.expr_eval.specs.declared.indicator.PiValue.{PiValue}
use Rattle.expr_eval.specs.declared.indicator.PiValue.TheVariants as taken
use Rattle.expr_eval.specs.declared.value.Value.{Value}
use Rattle.expr_eval.specs.Correct.{Means, form_outcome}
use Rattle.dh_metadata.specs.declared.held.Records.{Records}
use Rattle.dh_metadata.specs.declared.records.ProgramIndicator.{ProgramIndicator}
use Rattle.table_rows.specs.declared.event.EventRow.{EventRow}
use Rattle.program_cells.specs.declared.measure.Measure.{Measure}
use Rattle.program_cells.specs.declared.measure.Measure.TheVariants as measure
use Rattle.program_cells.specs.Items.{named_item, item_in}
use Rattle.program_cells.specs.Value.{passes_by, sample_by, if_passing, collected, measure_of, value_over}

-- ---- the form of an indicator

abbrev pub measure_in : PiValue → Measure
measure_in (taken.Formula form) = measure.Formula
measure_in taken.Events = measure.Events
measure_in taken.Enrollments = measure.Enrollments
measure_in taken.Entities = measure.Entities

abbrev pub IsFormula : Expr → PiValue → Type 0
IsFormula expr (taken.Formula form) = Means (items_in expr) expr.tree form
IsFormula expr _ = ⊤

-- the items of an expression, of which a count variable has none
abbrev pub items_by : Records → Measure → Expr → List PiItem
items_by r measure.Formula expr = map (named_item r) (items_in expr)
items_by r _ expr = []

abbrev pub IsFilter : Option Expr → Option Postfix → Type 0
IsFilter None None = ⊤
IsFilter (Some expr) (Some form) = Means (items_in expr) expr.tree form
IsFilter _ _ = ⊥

abbrev pub filter_items_of : Records → Option Expr → List PiItem
filter_items_of r None = []
filter_items_of r (Some expr) = map (named_item r) (items_in expr)

-- it is the form of the program indicator
pub record IsCodeOf (r : Records) (indicator : ProgramIndicator) (code : PiCode) : Type 0 where
  pub program : code.program ≡ indicator.program
  pub aggregation : code.aggregation ≡ indicator.aggregation_type
  pub measured : measure_in code.value ≡ measure_of indicator.expression.tree
  pub value : IsFormula indicator.expression code.value
  pub value_items : code.value_items ≡ items_by r (measure_in code.value) indicator.expression
  pub filter : IsFilter indicator.filter code.filter
  pub filter_items : code.filter_items ≡ filter_items_of r indicator.filter

-- ---- what the form gives

abbrev pub form_value : Postfix → List PiItem → List EventRow → Value
form_value form items subject = form_outcome form Never (map (item_in subject) items)

abbrev pub passes_form : Option Postfix → List PiItem → List EventRow → Option Bool
passes_form None items subject = Some true
passes_form (Some form) items subject = passes_by (form_value form items subject)

abbrev pub sample_form : PiValue → List PiItem → List EventRow → Option (List Fraction)
sample_form (taken.Formula form) items subject = sample_by (form_value form items subject)
sample_form _ items subject = Some []

unfoldable pub code_value : PiCode → List (List EventRow) → Option (Option Fraction)
code_value code subjects =
    value_over (measure_in code.value) code.aggregation (passes_form code.filter code.filter_items) (sample_form code.value code.value_items) subjects

-- what the form takes of an event alone, where it passes
unfoldable pub sample_alone : PiCode → EventRow → Option (List Fraction)
sample_alone code event =
    if_passing (passes_form code.filter code.filter_items (event ∷ [])) (sample_form code.value code.value_items (event ∷ []))

-- what was taken of each of some subjects, in their order
abbrev pub gathered : {B : Type 0} → List (Option (List B)) → Option (List B)
gathered taken = collected (λ one. Some true) (λ one. one) taken
