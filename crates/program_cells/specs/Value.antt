-- The value of a program indicator over the subjects of a cell: each an event alone, or the events of an enrollment.
use Rattle.std.specs.Prelude.{◌≡◌, ⊤, ℕ, ◌+◌, ◌==◌, Bool, true, false, if◌then◌else◌, pos, List, [], ◌∷◌, ◌++◌, length, map, Option, Some, None}
use Rattle.std.specs.Prelude.{Result, Ok, Err, option_map, option_and_then}
use Rattle.std.specs.Option.{option_to_list}
use Rattle.dh_base.specs.declared.plain.AggType.{AggType}
use Rattle.dh_base.specs.declared.plain.AggType.TheVariants as kind
use Rattle.dh_base.specs.declared.plain.NumFault.{NumFault}
use Rattle.dh_base.specs.declared.plain.Strategy.TheVariants.{Never}
use Rattle.dh_base.specs.Fractions.{Fraction, fraction_of, add_of, div_of, cmp_of}
use Rattle.expr_lang.specs.declared.expr.Expr.{Expr}
use Rattle.expr_lang.specs.declared.tree.Item.{Item}
use Rattle.expr_lang.specs.declared.tree.Item.TheVariants as item
use Rattle.expr_lang.specs.declared.tree.Leaf.TheVariants as leaf
use Rattle.expr_lang.specs.Expr.{items_in}
use Rattle.expr_lang.specs.Syntax.{Syntax, Operand}
use Rattle.expr_eval.specs.declared.indicator.PiFault.{PiFault}
use Rattle.expr_eval.specs.declared.indicator.PiFault.TheVariants as fault
use Rattle.expr_eval.specs.declared.value.Value.{Value}
use Rattle.expr_eval.specs.declared.value.Value.TheVariants as value
use Rattle.expr_eval.specs.Meaning.{zero_fraction, meaning, takes_next}
use Rattle.expr_eval.specs.Given.{given_by}
use Rattle.dh_metadata.specs.declared.held.Records.{Records}
use Rattle.dh_metadata.specs.declared.records.ProgramIndicator.{ProgramIndicator}
use Rattle.dh_metadata.specs.Places.{is_one_of}
use Rattle.table_rows.specs.declared.event.EventRow.{EventRow}
use Rattle.program_cells.specs.declared.measure.Measure.{Measure}
use Rattle.program_cells.specs.declared.measure.Measure.TheVariants as measure
use Rattle.program_cells.specs.Items.{named_item, item_in, first_of}

pub data ProgramValue : Type 0 where
  Number : Fraction → ProgramValue
  NoValue : ProgramValue
  Wide : ProgramValue

-- In what follows None is a number that is too wide to be computed.

-- ---- one subject

-- a subject passes where the filter is true: not where it is false, where a day of it is missing, or where it divides by 0
abbrev pub passes_by : Value → Option Bool
passes_by (value.Truth b) = Some b
passes_by value.Wide = None
passes_by _ = Some false

-- it gives a sample where the expression has a number: not where a day of it is missing, or where it divides by 0
abbrev pub sample_by : Value → Option (List Fraction)
sample_by (value.Number x) = Some (x ∷ [])
sample_by value.Wide = None
sample_by _ = Some []

-- the value of an item in a subject
abbrev pub item_value : Records → List EventRow → Item → Option Fraction
item_value r subject it = item_in subject (named_item r it)

-- the value of an expression in a subject
unfoldable pub subject_value : Records → Expr → List EventRow → Value
subject_value r expr subject = meaning Never (given_by (items_in expr) (map (item_value r subject) (items_in expr))) expr.tree

-- every subject passes where there is no filter
abbrev pub passes : Records → Option Expr → List EventRow → Option Bool
passes r None subject = Some true
passes r (Some filter) subject = passes_by (subject_value r filter subject)

abbrev pub sample : Records → Expr → List EventRow → Option (List Fraction)
sample r expr subject = sample_by (subject_value r expr subject)

-- ---- all subjects

-- what is taken of a subject, where it passes
abbrev pub if_passing : {B : Type 0} → Option Bool → Option (List B) → Option (List B)
if_passing passing own = option_and_then (λ b. if b then own else Some []) passing

-- it is there where the test holds
abbrev pub some_where : {X : Type 0} → Bool → X → Option X
some_where test x = if test then Some x else None

-- what is taken of each subject that passes, in their order
abbrev pub collected : {A B : Type 0} → (A → Option Bool) → (A → Option (List B)) → List A → Option (List B)
collected passing own [] = Some []
collected passing own (a ∷ rest) =
    option_and_then (λ found. option_map (λ more. found ++ more) (collected passing own rest)) (if_passing (passing a) (own a))

-- ---- one number of samples

abbrev pub whole : ℕ → Fraction
whole n = fraction_of (pos n) 1

abbrev pub unless_fault : {A : Type 0} → Result A NumFault → Option A
unless_fault (Ok x) = Some x
unless_fault (Err e) = None

-- the sum from left to right
abbrev pub sum_from : Fraction → List Fraction → Option Fraction
sum_from sum [] = Some sum
sum_from sum (x ∷ xs) = option_and_then (λ next. sum_from next xs) (unless_fault (add_of sum x))

-- the greater or the lesser of two numbers
abbrev pub better : Bool → Fraction → Fraction → Option Fraction
better greatest best x = option_map (λ o. if takes_next greatest o then x else best) (unless_fault (cmp_of best x))

abbrev pub better_if_any : Bool → Option Fraction → Fraction → Option Fraction
better_if_any greatest None x = Some x
better_if_any greatest (Some best) x = better greatest best x

-- the greatest or the least, compared from left to right
abbrev pub best_from : Bool → Option Fraction → List Fraction → Option (Option Fraction)
best_from greatest best [] = Some best
best_from greatest best (x ∷ xs) = option_and_then (λ next. best_from greatest (Some next) xs) (better_if_any greatest best x)

abbrev pub sum_of : List Fraction → Option Fraction
sum_of samples = sum_from zero_fraction samples

abbrev pub mean_of : List Fraction → Option Fraction
mean_of samples = option_and_then (λ sum. unless_fault (div_of sum (whole (length samples)))) (sum_of samples)

abbrev pub some_of : Option Fraction → Option (Option Fraction)
some_of x = option_map (λ number. Some number) x

abbrev pub value_by : AggType → List Fraction → Option (Option Fraction)
value_by kind.Sum samples = some_of (sum_of samples)
value_by kind.Average samples = some_of (mean_of samples)
value_by kind.Count samples = Some (Some (whole (length samples)))
value_by kind.Min samples = best_from false None samples
value_by kind.Max samples = best_from true None samples
value_by _ samples = Some None

-- there is no value without a sample
unfoldable pub aggregated : AggType → List Fraction → Option (Option Fraction)
aggregated by samples = if length samples == 0 then Some None else value_by by samples

-- ---- one number of what is counted

-- how many different identifiers a list has after others: each counts where it stands first
abbrev pub different_after : List (List ℕ) → List (List ℕ) → ℕ
different_after before [] = 0
different_after before (id ∷ ids) = (if is_one_of before id then 0 else 1) + different_after (before ++ id ∷ []) ids

abbrev pub different : List (List ℕ) → ℕ
different ids = different_after [] ids

abbrev pub if_some : ℕ → Option Fraction
if_some n = if n == 0 then None else Some (whole n)

abbrev pub counted : List (List ℕ) → Option Fraction
counted ids = if_some (different ids)

-- ---- the value

abbrev pub measure_by : Item → Measure
measure_by item.EventCount = measure.Events
measure_by item.EnrollmentCount = measure.Enrollments
measure_by item.EntityCount = measure.Entities
measure_by _ = measure.Formula

-- a count variable is a whole expression
abbrev pub measure_of : Syntax → Measure
measure_of (Operand (leaf.Item it)) = measure_by it
measure_of _ = measure.Formula

-- the identifiers of what is counted of a subject: of each event, or of the first one's enrollment or entity
abbrev pub ids_of : Measure → List EventRow → List (List ℕ)
ids_of measure.Events subject = map (λ (event : EventRow). event.id) subject
ids_of measure.Enrollments subject = option_to_list (option_and_then (λ (event : EventRow). event.enrollment) (first_of subject))
ids_of measure.Entities subject = option_to_list (option_and_then (λ (event : EventRow). event.entity) (first_of subject))
ids_of measure.Formula subject = []

-- the samples are aggregated, or it is counted how many different events, enrollments or entities pass
abbrev pub value_over : Measure → AggType → (List EventRow → Option Bool) → (List EventRow → Option (List Fraction)) → List (List EventRow)
    → Option (Option Fraction)
value_over measure.Formula by passing own subjects = option_and_then (aggregated by) (collected passing own subjects)
value_over which by passing own subjects = option_map counted (collected passing (λ subject. Some (ids_of which subject)) subjects)

abbrev pub told : Option (Option Fraction) → ProgramValue
told None = Wide
told (Some None) = NoValue
told (Some (Some x)) = Number x

-- the value of a program indicator over subjects, in their order
unfoldable pub program_value : Records → ProgramIndicator → List (List EventRow) → ProgramValue
program_value r indicator subjects =
    told (value_over (measure_of indicator.expression.tree) indicator.aggregation_type (passes r indicator.filter) (sample r indicator.expression) subjects)

-- a call's answer tells a value; running out of memory tells none
abbrev pub Values : Result (Option Fraction) PiFault → ProgramValue → Type 0
Values (Ok (Some x)) told = told ≡ Number x
Values (Ok None) told = told ≡ NoValue
Values (Err fault.Wide) told = told ≡ Wide
Values (Err fault.Memory) told = ⊤
