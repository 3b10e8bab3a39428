-- What a form gives is what its indicator means.
use Rattle.std.proofs.Common.{◌≡◌, ◌∙◌, ℕ, zero, suc, Bool, List, [], ◌∷◌, ◌++◌, map, Option, Some, None, refl, sym, ap}
use Rattle.std.specs.Option.{unwrap_or}
use Rattle.dh_base.specs.Fractions.{Fraction}
use Rattle.expr_eval.specs.declared.value.Value.{Value}
use Rattle.expr_eval.specs.declared.value.Value.TheVariants as value
use Rattle.expr_eval.specs.Correct.{Means, form_outcome}
use Rattle.expr_eval.specs.Given.{given_by, entry_at}
use Rattle.expr_eval.specs.Meaning.{meaning, zero_fraction}
use Rattle.program_cells.specs.Sampled.{item_sample}
use Rattle.std.proofs.Math.Path.{fun_ext}
use Rattle.std.specs.Prelude.{option_and_then, option_map, slice_get, IfSome}
use Rattle.dh_base.specs.declared.plain.AggType.{AggType}
use Rattle.dh_base.specs.declared.plain.Strategy.TheVariants.{Never}
use Rattle.expr_lang.specs.declared.expr.Expr.{Expr}
use Rattle.expr_lang.specs.declared.tree.Item.{Item}
use Rattle.expr_lang.specs.Expr.{items_in}
use Rattle.expr_eval.specs.declared.code.Postfix.{Postfix}
use Rattle.expr_eval.specs.declared.indicator.PiCode.{PiCode}
use Rattle.expr_eval.specs.declared.indicator.PiItem.{PiItem}
use Rattle.expr_eval.specs.declared.indicator.PiValue.{PiValue}
use Rattle.expr_eval.specs.declared.indicator.PiValue.TheVariants as taken
use Rattle.dh_metadata.specs.declared.held.Records.{Records}
use Rattle.dh_metadata.specs.declared.records.ProgramIndicator.{ProgramIndicator}
use Rattle.table_rows.specs.declared.event.EventRow.{EventRow}
use Rattle.program_cells.specs.Items.{named_item, item_in}
use Rattle.program_cells.specs.Value.{passes_by, sample_by, item_value, subject_value, passes, sample, if_passing, collected, aggregated}
use Rattle.program_cells.specs.Value.{measure_of, value_over, told, program_value}
use Rattle.program_cells.specs.Code.{measure_in, IsFormula, items_by, IsFilter, filter_items_of, IsCodeOf, form_value, passes_form}
use Rattle.program_cells.specs.Code.{sample_form, sample_alone, gathered, code_value}
use Rattle.program_cells.specs.Cells.{alone}
use Rattle.program_cells.specs.declared.measure.Measure.TheVariants as measure

items_are : (r : Records) (subject : List EventRow) (its : List Item) → map (item_in subject) (map (named_item r) its) ≡ map (item_value r subject) its
items_are r subject [] = refl
items_are r subject (it ∷ its) = ap (λ more. item_value r subject it ∷ more) (items_are r subject its)

-- a form of an expression
form_is : (r : Records) (expr : Expr) (form : Postfix) (its : List PiItem) (subject : List EventRow) → Means (items_in expr) expr.tree form
    → its ≡ map (named_item r) (items_in expr) → form_value form its subject ≡ subject_value r expr subject
unfolding subject_value
form_is r expr form its subject means are =
    means.agrees Never (map (item_in subject) its)
    ∙ ap (λ entries. meaning Never (given_by (items_in expr) entries) expr.tree) (ap (map (item_in subject)) are ∙ items_are r subject (items_in expr))

-- a form of a filter, if there is one
filter_is : (r : Records) (filter : Option Expr) (form : Option Postfix) (its : List PiItem) (subject : List EventRow) → IsFilter filter form
    → its ≡ filter_items_of r filter → passes_form form its subject ≡ passes r filter subject
filter_is r None None its subject is are = refl
filter_is r (Some expr) (Some form) its subject is are = ap passes_by (form_is r expr form its subject is are)
filter_is r None (Some form) its subject is are = absurd is
filter_is r (Some expr) None its subject is are = absurd is

-- a form of what is taken of each subject
value_is : (r : Records) (expr : Expr) (value : PiValue) (its : List PiItem) (by : AggType) (passing : List EventRow → Option Bool)
    (subjects : List (List EventRow)) → IsFormula expr value → its ≡ items_by r (measure_in value) expr
    → value_over (measure_in value) by passing (sample_form value its) subjects ≡ value_over (measure_in value) by passing (sample r expr) subjects
value_is r expr (taken.Formula form) its by passing subjects is are =
    ap (λ own. option_and_then (aggregated by) (collected passing own subjects)) (fun_ext (λ subject. ap sample_by (form_is r expr form its subject is are)))
value_is r expr taken.Events its by passing subjects is are = refl
value_is r expr taken.Enrollments its by passing subjects is are = refl
value_is r expr taken.Entities its by passing subjects is are = refl

-- a form of an indicator
pub value_meant : (r : Records) (indicator : ProgramIndicator) (code : PiCode) (subjects : List (List EventRow)) → IsCodeOf r indicator code
    → told (code_value code subjects) ≡ program_value r indicator subjects
unfolding code_value program_value
value_meant r indicator code subjects is =
    let passing : passes_form code.filter code.filter_items ≡ passes r indicator.filter =
    fun_ext (λ subject. filter_is r indicator.filter code.filter code.filter_items subject is.filter is.filter_items) in
    let own : value_over (measure_in code.value) code.aggregation (passes_form code.filter code.filter_items) (sample_form code.value code.value_items) subjects
    ≡ value_over (measure_in code.value) code.aggregation (passes_form code.filter code.filter_items) (sample r indicator.expression) subjects =
    value_is r indicator.expression code.value code.value_items code.aggregation (passes_form code.filter code.filter_items) subjects is.value
    is.value_items in
    ap told own
    ∙ ap (λ which. told (value_over which code.aggregation (passes_form code.filter code.filter_items) (sample r indicator.expression) subjects)) is.measured
    ∙ ap (λ by. told
    (value_over (measure_of indicator.expression.tree) by (passes_form code.filter code.filter_items) (sample r indicator.expression) subjects))
    is.aggregation
    ∙ ap (λ test. told (value_over (measure_of indicator.expression.tree) indicator.aggregation_type test (sample r indicator.expression) subjects)) passing

-- what is taken of events alone
alone_are : (code : PiCode) (events : List EventRow) → gathered (map (sample_alone code) events)
    ≡ collected (passes_form code.filter code.filter_items) (sample_form code.value code.value_items) (map alone events)
unfolding sample_alone
alone_are code [] = refl
alone_are code (event ∷ events) =
    ap (λ rest. option_and_then (λ found. option_map (λ more. found ++ more) rest)
    (if_passing (passes_form code.filter code.filter_items (alone event)) (sample_form code.value code.value_items (alone event))))
    (alone_are code events)

-- the value by the samples of events
pub samples_meant : (code : PiCode) (events : List EventRow) → measure_in code.value ≡ measure.Formula
    → option_and_then (aggregated code.aggregation) (gathered (map (sample_alone code) events)) ≡ code_value code (map alone events)
unfolding code_value
samples_meant code events formula =
    ap (option_and_then (aggregated code.aggregation)) (alone_are code events)
    ∙ ap (λ which. value_over which code.aggregation (passes_form code.filter code.filter_items) (sample_form code.value code.value_items) (map alone events))
    (sym formula)

-- what is given for the item at a place
entry_here : {B : Type 0} (of : B → Option Fraction) (items : List B) (n : ℕ) (item : B) → slice_get items n ≡ Some item
    → entry_at (map of items) n ≡ of item
entry_here of [] n item at = absurd (cc)
entry_here of (x ∷ xs) zero item at = ap (λ o. option_and_then of o) at
entry_here of (x ∷ xs) (suc n) item at = entry_here of xs n item at

-- the sample of a form that is an item alone
pub item_valued : {R : Type 0} (view : R → PiItem) (form : Postfix) (items : List PiItem) (n : ℕ) (found : Option R) (event : EventRow)
    → ((entries : List (Option Fraction)) → form_outcome form Never entries ≡ value.Number (unwrap_or (entry_at entries n) zero_fraction))
    → IfSome found (λ item. slice_get items n ≡ Some (view item))
    → IfSome found (λ item. sample_by (form_value form items (event ∷ [])) ≡ item_sample (view item) event)
item_valued view form items n None event gives at = tt
item_valued view form items n (Some item) event gives at =
    ap sample_by (gives (map (item_in (event ∷ [])) items))
    ∙ ap (λ entry. Some (unwrap_or entry zero_fraction ∷ [])) (entry_here (item_in (event ∷ [])) items n (view item) at)

-- the same of a code without a filter
pub item_sampled : {R : Type 0} (view : R → PiItem) (code : PiCode) (form : Postfix) (items : List PiItem) (found : Option R) (event : EventRow)
    → code.value ≡ taken.Formula form → code.filter ≡ None → items ≡ code.value_items
    → IfSome found (λ item. sample_by (form_value form items (event ∷ [])) ≡ item_sample (view item) event)
    → IfSome found (λ item. sample_alone code event ≡ item_sample (view item) event)
unfolding sample_alone
item_sampled view code form items None event is none same gives = tt
item_sampled view code form items (Some item) event is none same gives =
    ap (λ filter. if_passing (passes_form filter code.filter_items (event ∷ [])) (sample_form code.value code.value_items (event ∷ []))) none
    ∙ ap (λ own. sample_form own code.value_items (event ∷ [])) is
    ∙ ap (λ its. sample_by (form_value form its (event ∷ []))) (sym same) ∙ gives

-- what the filter that is there says of a subject
pub filter_says : (filter : Option Postfix) (form : Postfix) (items given : List PiItem) (subject : List EventRow) (value : Value) (passes : Option Bool)
    → filter ≡ Some form → given ≡ items → value ≡ form_value form given subject → passes ≡ passes_by value → passes ≡ passes_form filter items subject
filter_says filter form items given subject value passes there same is by =
    by
    ∙ ap passes_by (is ∙ ap (λ its. form_value form its subject) same)
    ∙ ap (λ f. passes_form f items subject) (sym there)
