-- Whether the data of a data set, at a unit and for a period, keep to the validation rules.
use Rattle.std.specs.Prelude.{ℕ, Bool, true, false, not, ◌&&◌, ◌||◌, cond, is_some, List, [], ◌∷◌, map, slice_get, Option, Some, None, Result, Ok, Err}
use Rattle.std.specs.List.{list_all}
use Rattle.std.specs.Option.{option_map_or}
use Rattle.std.specs.Ordering.{is_eq, is_lt, is_gt}
use Rattle.std.specs.declared.cmp.Ordering.{Ordering}
use denote.Enum.Bare.{sameb}
use Rattle.dh_base.specs.Fractions.{Fraction, cmp_of}
use Rattle.dh_base.specs.declared.plain.NumFault.{NumFault}
use Rattle.dh_base.specs.declared.plain.Strategy.{Strategy}
use Rattle.dh_periods.specs.contracts.kind.PeriodType.{the_type}
use Rattle.dh_periods.specs.declared.kind.PeriodType.{PeriodType}
use Rattle.dh_sharing.specs.declared.access.Right.TheVariants.{Read}
use Rattle.expr_lang.specs.declared.expr.Expr.{Expr}
use Rattle.expr_lang.specs.declared.tree.Item.{Item}
use Rattle.expr_lang.specs.declared.tree.Item.TheVariants as item
use Rattle.expr_lang.specs.Expr.{items_in}
use Rattle.expr_eval.specs.declared.value.Value.{Value}
use Rattle.expr_eval.specs.declared.value.Value.TheVariants as value
use Rattle.expr_eval.specs.Given.{given_by}
use Rattle.expr_eval.specs.Meaning.{meaning}
use Rattle.dh_metadata.specs.declared.held.Records.{Records}
use Rattle.dh_metadata.specs.declared.kind.Kind.TheVariants as kind
use Rattle.dh_metadata.specs.declared.names.Operator.{Operator}
use Rattle.dh_metadata.specs.declared.names.Operator.TheVariants as operator
use Rattle.dh_metadata.specs.declared.records.Rule.{Rule}
use Rattle.dh_metadata.specs.Objects.{find_of}
use Rattle.dh_metadata.specs.Sets.{by_id, has_element}
use Rattle.dh_metadata.specs.Users.{may_of}
use Rattle.cell_values.specs.Items.{item_value_of}
use Rattle.cell_values.specs.Seen.{SeenRecords}
use Rattle.validation.specs.declared.outcome.Outcome.{Outcome}
use Rattle.validation.specs.declared.outcome.Outcome.TheVariants as outcome
use Rattle.validation.specs.declared.outcome.Violation.{Violation}
use Rattle.validation.specs.declared.place.Place.{Place}

-- ---- which rules are asked

abbrev pub has_element_named : Records → ℕ → List ℕ → Bool
has_element_named r set element = option_map_or (λ n. has_element r set n) (find_of r kind.DataElement element) false

-- an item of an element stands in the data set where the element does; other items may stand in any rule
abbrev pub is_in_set : Records → ℕ → Item → Bool
is_in_set r set (item.Element element combo attribute) = has_element_named r set element
is_in_set r set other = true

unfoldable pub are_in_set : Records → ℕ → Expr → Bool
are_in_set r set expr = list_all (is_in_set r set) (items_in expr)

-- the rule is one of periods of that type, and its elements all stand in the data set
unfoldable pub fits : Records → ℕ → PeriodType → Rule → Bool
fits r set type rule = sameb the_type rule.period_type type && (are_in_set r set rule.left_side.0 && are_in_set r set rule.right_side.0)

-- ---- what a rule says

-- the value of an item at the unit alone and inside the period
abbrev pub given_at : Records → SeenRecords → Place → Item → Option Fraction
given_at r shown place i = item_value_of r shown i (place.period ∷ []) (place.unit ∷ []) true

-- the value of a side under its own missing-value strategy
unfoldable pub side_value : Records → SeenRecords → Place → Expr × Strategy → Value
side_value r shown place side =
    meaning side.1 (given_by (items_in side.0) (map (given_at r shown place) (items_in side.0))) side.0.tree

-- a side whose value isn't a number is missing, one that divides by zero too
abbrev pub number_in : Value → Option Fraction
number_in (value.Number x) = Some x
number_in other = None

abbrev pub is_wide : Value → Bool
is_wide value.Wide = true
is_wide other = false

-- two numbers stand to one another as the operator says
abbrev pub holds : Operator → Ordering → Bool
holds operator.EqualTo o = is_eq o
holds operator.NotEqualTo o = not (is_eq o)
holds operator.GreaterThan o = is_gt o
holds operator.GreaterThanOrEqualTo o = not (is_lt o)
holds operator.LessThan o = is_lt o
holds operator.LessThanOrEqualTo o = not (is_gt o)
holds operator.CompulsoryPair o = true
holds operator.ExclusivePair o = true

-- a violation of the rule, where there is one
abbrev pub violated_if : Bool → ℕ → Option Fraction → Option Fraction → Outcome
violated_if violated n left right = cond violated (outcome.Violated (record { rule = n; left = left; right = right })) outcome.Kept

-- one side alone is there
abbrev pub is_one_alone : Option Fraction → Option Fraction → Bool
is_one_alone None None = false
is_one_alone None (Some y) = true
is_one_alone (Some x) None = true
is_one_alone (Some x) (Some y) = false

-- a comparison can be too wide to be made
abbrev pub compared : Operator → ℕ → Fraction → Fraction → Result Ordering NumFault → Outcome
compared op n x y (Ok o) = violated_if (not (holds op o)) n (Some x) (Some y)
compared op n x y (Err fault) = outcome.Wide

-- a rule that compares is violated where both sides are there and the comparison is false
abbrev pub compared_if : Operator → ℕ → Option Fraction → Option Fraction → Outcome
compared_if op n None right = outcome.Kept
compared_if op n (Some x) None = outcome.Kept
compared_if op n (Some x) (Some y) = compared op n x y (cmp_of x y)

-- a compulsory pair is violated where one side alone is there, an exclusive pair where both are
abbrev pub judged_by : Operator → ℕ → Option Fraction → Option Fraction → Outcome
judged_by operator.CompulsoryPair n left right = violated_if (is_one_alone left right) n left right
judged_by operator.ExclusivePair n left right = violated_if (is_some left && is_some right) n left right
judged_by op n left right = compared_if op n left right

-- a side that is too wide makes the rule so
unfoldable pub judged : Operator → ℕ → Value → Value → Outcome
judged op n left right = cond (is_wide left || is_wide right) outcome.Wide (judged_by op n (number_in left) (number_in right))

abbrev pub rule_outcome : Records → SeenRecords → Place → ℕ → Rule → Outcome
rule_outcome r shown place n rule =
    cond (fits r place.set place.period.kind rule)
    (judged rule.operator n (side_value r shown place rule.left_side) (side_value r shown place rule.right_side)) outcome.Kept

-- what comes of the rule with that number; one that the user may not read isn't asked
unfoldable pub outcome_of : Records → ℕ → SeenRecords → Place → ℕ → Outcome
outcome_of r user shown place n =
    cond (may_of r user Read kind.ValidationRule n)
    (option_map_or (λ rule. rule_outcome r shown place n rule) (slice_get r.validation_rules n) outcome.Kept) outcome.Kept

-- ---- the check

abbrev pub rule_ids : Records → List (List ℕ)
rule_ids r = map (λ (rule : Rule). rule.id) r.validation_rules

abbrev pub id_of : Records → ℕ → List ℕ
id_of r n = option_map_or (λ (rule : Rule). rule.id) (slice_get r.validation_rules n) []

-- a rule before the others: the identifier of the first that is too wide, or the violations
abbrev pub put_first : List ℕ → Outcome → Result (List Violation) (List ℕ) → Result (List Violation) (List ℕ)
put_first id outcome.Wide rest = Err id
put_first id outcome.Kept rest = rest
put_first id (outcome.Violated violation) (Ok violations) = Ok (violation ∷ violations)
put_first id (outcome.Violated violation) (Err wide) = Err wide

abbrev pub check_all : (ℕ → List ℕ) → (ℕ → Outcome) → List ℕ → Result (List Violation) (List ℕ)
check_all id outcome [] = Ok []
check_all id outcome (n ∷ ns) = put_first (id n) (outcome n) (check_all id outcome ns)

-- the violations of the rules in the order of their identifiers, or the identifier of the first rule that is too wide
unfoldable pub check_of : Records → ℕ → SeenRecords → Place → Result (List Violation) (List ℕ)
check_of r user shown place = check_all (id_of r) (outcome_of r user shown place) (by_id (rule_ids r))
