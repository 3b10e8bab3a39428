-- A rule that isn't asked, and what a side of one comes to.
use Rattle.std.proofs.Common.{◌≡◌, ◌∙◌, ℕ, false, cond, List, map, Option, Result, Ok, Err, sym, ap, slice_get}
use Rattle.std.specs.Prelude.{IfOk}
use Rattle.std.specs.Option.{option_map_or}
use Rattle.dh_base.specs.Fractions.{Fraction}
use Rattle.dh_base.specs.declared.memory.Memory.{Memory}
use Rattle.dh_base.specs.declared.plain.Strategy.{Strategy}
use Rattle.dh_sharing.specs.declared.access.Right.TheVariants.{Read}
use Rattle.dh_metadata.specs.Users.{may_of}
use Rattle.dh_metadata.specs.declared.held.Records.{Records}
use Rattle.dh_metadata.specs.declared.kind.Kind.TheVariants as kind
use Rattle.expr_lang.specs.declared.expr.Expr.{Expr}
use Rattle.expr_lang.specs.declared.tree.Item.{Item}
use Rattle.expr_lang.specs.Expr.{items_in}
use Rattle.expr_eval.specs.Code.{outcome as run}
use Rattle.expr_eval.specs.Correct.{Means, form_outcome}
use Rattle.expr_eval.specs.declared.code.Postfix.{Postfix}
use Rattle.expr_eval.specs.declared.value.Value.{Value}
use Rattle.cell_values.specs.Seen.{SeenRecords}
use Rattle.validation.specs.declared.outcome.Outcome.TheVariants as outcome
use Rattle.validation.specs.declared.place.Place.{Place}
use Rattle.validation.specs.Check.{given_at, side_value, rule_outcome, outcome_of}

pub unread : (r : Records) (user : ℕ) (shown : SeenRecords) (place : Place) (n : ℕ) → may_of r user Read kind.ValidationRule n ≡ false
    → outcome.Kept ≡ outcome_of r user shown place n
unfolding outcome_of
unread r user shown place n barred =
    ap (λ may. cond may (option_map_or (λ rule. rule_outcome r shown place n rule) (slice_get r.validation_rules n) outcome.Kept) outcome.Kept) (sym barred)

pub side_run : (r : Records) (shown : SeenRecords) (place : Place) (side : Expr × Strategy) (form : Postfix) (items : List Item) (values : List (Option Fraction))
    (value : Result Value Memory) → Means (items_in side.0) side.0.tree form → items ≡ items_in side.0 → values ≡ map (given_at r shown place) items
    → IfOk value (λ v. v ≡ form_outcome form side.1 values) → IfOk value (λ v. v ≡ side_value r shown place side)
unfolding side_value
side_run r shown place side form items values (Ok v) means all given is =
    is
    ∙ ap (λ entries. run side.1 entries form.code.items form.plain.items) (given ∙ ap (map (given_at r shown place)) all)
    ∙ means.agrees side.1 (map (given_at r shown place) (items_in side.0))
side_run r shown place side form items values (Err fault) means all given is = is
