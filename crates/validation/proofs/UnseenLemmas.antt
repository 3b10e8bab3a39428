-- What a user doesn't see changes no violation, nor does the order in which it stands that the user sees.
use Rattle.std.proofs.Common.{◌≡◌, ◌∙◌, ℕ, [], ◌∷◌, Option, None, Some, refl, ap, map, cond, true, slice_get}
use Rattle.std.proofs.Math.Path.{fun_ext}
use Rattle.std.specs.Option.{option_map_or}
use Rattle.dh_base.specs.Fractions.{Fraction}
use Rattle.dh_base.specs.declared.plain.Strategy.{Strategy}
use Rattle.dh_sharing.specs.declared.access.Right.TheVariants.{Read}
use Rattle.dh_metadata.specs.Sets.{by_id}
use Rattle.dh_metadata.specs.Users.{may_of}
use Rattle.expr_lang.specs.declared.expr.Expr.{Expr}
use Rattle.expr_lang.specs.declared.tree.Item.{Item}
use Rattle.expr_lang.specs.Expr.{items_in}
use Rattle.expr_eval.specs.declared.value.Value.{Value}
use Rattle.expr_eval.specs.Given.{given_by}
use Rattle.expr_eval.specs.Meaning.{meaning}
use Rattle.dh_metadata.specs.declared.held.Records.{Records}
use Rattle.dh_metadata.specs.declared.kind.Kind.TheVariants as kind
use Rattle.dh_metadata.specs.declared.records.Rule.{Rule}
use Rattle.cell_values.specs.Seen.{SeenRecords, SameSeen}
use Rattle.cell_values.proofs.ReorderLemmas.{item_value_of-same}
use Rattle.validation.specs.declared.outcome.Outcome.{Outcome}
use Rattle.validation.specs.declared.outcome.Outcome.TheVariants as outcome
use Rattle.validation.specs.declared.place.Place.{Place}
use Rattle.validation.specs.Check.{given_at, side_value, fits, judged, rule_outcome, outcome_of, rule_ids, id_of, check_all, check_of}

side_same : (r : Records) (one other : SeenRecords) (place : Place) (side : Expr × Strategy) → SameSeen one other
    → side_value r one place side ≡ side_value r other place side
unfolding side_value
side_same r one other place side same =
    let first : Item → Option Fraction = given_at r one place in
    let second : Item → Option Fraction = given_at r other place in
    let alike : first ≡ second = fun_ext (λ asked. item_value_of-same r one other asked (place.period ∷ []) (place.unit ∷ []) true same) in
    ap (λ (value : Item → Option Fraction). meaning side.1 (given_by (items_in side.0) (map value (items_in side.0))) side.0.tree) alike

rule_same : (r : Records) (one other : SeenRecords) (place : Place) (n : ℕ) (rule : Rule) → SameSeen one other
    → rule_outcome r one place n rule ≡ rule_outcome r other place n rule
rule_same r one other place n rule same =
    ap (λ (left : Value). cond (fits r place.set place.period.kind rule) (judged rule.operator n left (side_value r one place rule.right_side)) outcome.Kept)
    (side_same r one other place rule.left_side same)
    ∙ ap (λ (right : Value). cond (fits r place.set place.period.kind rule) (judged rule.operator n (side_value r other place rule.left_side) right)
    outcome.Kept)
    (side_same r one other place rule.right_side same)

some_rule : (r : Records) (one other : SeenRecords) (place : Place) (n : ℕ) (found : Option Rule) → SameSeen one other
    → option_map_or (λ rule. rule_outcome r one place n rule) found outcome.Kept
    ≡ option_map_or (λ rule. rule_outcome r other place n rule) found outcome.Kept
some_rule r one other place n None same = refl
some_rule r one other place n (Some rule) same = rule_same r one other place n rule same

outcome_same : (r : Records) (user : ℕ) (one other : SeenRecords) (place : Place) (n : ℕ) → SameSeen one other
    → outcome_of r user one place n ≡ outcome_of r user other place n
unfolding outcome_of
outcome_same r user one other place n same =
    ap (λ (met : Outcome). cond (may_of r user Read kind.ValidationRule n) met outcome.Kept)
    (some_rule r one other place n (slice_get r.validation_rules n) same)

-- where a user sees the same, in whatever order it stands, the violations are the same
pub check_of-same : (r : Records) (user : ℕ) (one other : SeenRecords) (place : Place) → SameSeen one other
    → check_of r user one place ≡ check_of r user other place
unfolding check_of
check_of-same r user one other place same =
    let first : ℕ → Outcome = outcome_of r user one place in
    let second : ℕ → Outcome = outcome_of r user other place in
    let alike : first ≡ second = fun_ext (λ n. outcome_same r user one other place n same) in
    ap (λ (met : ℕ → Outcome). check_all (id_of r) met (by_id (rule_ids r))) alike
