-- The values of items at a unit alone and inside a period.
use Rattle.std.proofs.Common.{◌≡◌, ◌∙◌, ℕ, Bool, true, List, [], ◌∷◌, map, Option, refl, ap}
use Rattle.dh_base.specs.Fractions.{Fraction}
use Rattle.dh_periods.specs.declared.name.PeriodName.{PeriodName}
use Rattle.expr_lang.specs.declared.tree.Item.{Item}
use Rattle.dh_metadata.specs.declared.held.Records.{Records}
use Rattle.cell_values.specs.declared.item.ItemPlan.{ItemPlan}
use Rattle.cell_values.specs.Plans.{planned_value}
use Rattle.cell_values.specs.Seen.{SeenRecords}
use Rattle.validation.specs.declared.place.Place.{Place}
use Rattle.validation.specs.Check.{given_at}

item-values : (f : Item → Option Fraction) (plans : List ItemPlan)
    → map (λ (plan : ItemPlan). f plan.item) plans ≡ map f (map (λ (plan : ItemPlan). plan.item) plans)
item-values f [] = refl
item-values f (plan ∷ plans) = ap (λ vs. f plan.item ∷ vs) (item-values f plans)

pub values-given : (r : Records) (shown : SeenRecords) (place : Place) (items : List Item) (plans : List ItemPlan) (periods : List PeriodName) (units : List ℕ)
    (alone : Bool) (values : List (Option Fraction)) → values ≡ map (planned_value r shown periods units alone) plans → periods ≡ place.period ∷ []
    → units ≡ place.unit ∷ [] → alone ≡ true → map (λ (plan : ItemPlan). plan.item) plans ≡ items → values ≡ map (given_at r shown place) items
values-given r shown place items plans periods units alone values is one here self all =
    is
    ∙ ap (λ ps. map (planned_value r shown ps units alone) plans) one
    ∙ ap (λ us. map (planned_value r shown (place.period ∷ []) us alone) plans) here
    ∙ ap (λ b. map (planned_value r shown (place.period ∷ []) (place.unit ∷ []) b) plans) self
    ∙ item-values (given_at r shown place) plans
    ∙ ap (map (given_at r shown place)) all
