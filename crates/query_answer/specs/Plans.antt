-- What is made of a dx item before its cells.
use Rattle.std.specs.Prelude.{◌≡◌, ℕ, List, map, slice_get, Some, None}
use Rattle.std.specs.List.{All}
use Rattle.dh_periods.specs.declared.name.PeriodName.{PeriodName}
use Rattle.expr_lang.specs.Expr.{items_in}
use Rattle.dh_metadata.specs.declared.held.Records.{Records}
use Rattle.dh_metadata.specs.declared.records.Indicator.{Indicator}
use Rattle.table_rows.specs.Store.{Contents}
use Rattle.cell_values.specs.declared.item.ItemPlan.{ItemPlan}
use Rattle.cell_values.specs.Prepared.{IsDue}
use Rattle.program_cells.specs.Kept.{IsProgramPlan, AreSubjects}
use Rattle.cell_values.specs.Rates.{IsRatePlan}
use Rattle.cell_values.specs.Plans.{IsElementPlan, IsItemPlan, operand, inside, groups_inside}
use Rattle.query_answer.specs.Value.{AreSides}
use Rattle.query_lang.specs.declared.plain.Dx.{Dx}
use Rattle.query_lang.specs.declared.plain.DxKind.TheVariants as dx_kind
use Rattle.query_answer.specs.declared.plans.IndicatorPlan.{IndicatorPlan}
use Rattle.query_answer.specs.declared.plans.Plan.{Plan}
use Rattle.query_answer.specs.declared.plans.Plan.TheVariants as plan
use Rattle.query_answer.specs.declared.plans.PlanGroups.{PlanGroups}
use Rattle.query_answer.specs.declared.plans.PlanGroups.TheVariants as groups

-- the plan of an indicator: its two sides in the form that is evaluated, and the plans of the items of each
pub record IsIndicatorPlan (r : Records) (user : ℕ) (held : Contents) (indicator : Indicator) (made : IndicatorPlan) : Type 0 where
  pub sides : AreSides r indicator made.sides
  pub over : All (IsItemPlan r user held) made.over
  pub over_items : map (λ (each : ItemPlan). each.item) made.over ≡ items_in indicator.numerator
  pub under : All (IsItemPlan r user held) made.under
  pub under_items : map (λ (each : ItemPlan). each.item) made.under ≡ items_in indicator.denominator

-- the plan is that of the item: of its operand, of its indicator, of its rate, or of its program indicator
abbrev pub IsPlan : Records → ℕ → Contents → Dx → Plan → Type 0
IsPlan r user held dx (plan.Element made) =
    (dx.kind ≡ dx_kind.Element) × (IsElementPlan r user held.rows made × (made.operand ≡ operand dx.number dx.part None))
IsPlan r user held dx (plan.Indicator made) =
    (dx.kind ≡ dx_kind.Indicator)
    × ((indicator : Indicator) → slice_get r.indicators dx.number ≡ Some indicator → IsIndicatorPlan r user held indicator made)
IsPlan r user held dx (plan.Rate made) =
    (dx.kind ≡ dx_kind.Rate made.asked.which) × (IsRatePlan r user held.regs made × (made.asked.set ≡ dx.number))
IsPlan r user held dx (plan.Program made) = (dx.kind ≡ dx_kind.ProgramIndicator) × IsProgramPlan r user held.events dx.number made

-- the plan that groups are of
abbrev pub plan_in : PlanGroups → Plan
plan_in (groups.Element made own) = plan.Element made.now
plan_in (groups.Indicator made over under) = plan.Indicator made.now
plan_in (groups.Rate made due) = plan.Rate made.now
plan_in (groups.Program made subjects) = plan.Program made.now

-- what is made of it once for some periods: its groups inside them, what is due in them, or the subjects of a program indicator
abbrev pub ArePlanGroups : Records → ℕ → Contents → List PeriodName → PlanGroups → Type 0
ArePlanGroups r user held periods (groups.Element made own) = own ≡ inside periods made.now.groups
ArePlanGroups r user held periods (groups.Indicator made over under) =
    (over ≡ map (groups_inside periods) made.now.over) × (under ≡ map (groups_inside periods) made.now.under)
ArePlanGroups r user held periods (groups.Rate made due) = IsDue periods made.now.reports due
ArePlanGroups r user held periods (groups.Program made subjects) = AreSubjects r user held.events periods made.now subjects
