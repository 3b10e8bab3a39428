-- Stages and aggregation of program indicators.
use Rattle.std.specs.Prelude.{◌≡◌, ℕ, Bool, true, false, not, cond, ◌==◌, ◌||◌, List, [], ◌∷◌, Option, None, Some, slice_get, IfSome}
use Rattle.std.specs.List.{list_any}
use Rattle.std.specs.Option.{option_map_or, option_or}
use Rattle.dh_metadata.specs.Places.{place_of}
use Rattle.dh_base.specs.declared.plain.AggType.{AggType}
use Rattle.dh_base.specs.declared.plain.AggType.TheVariants.{Sum, Average, Count, Min, Max}
use Rattle.expr_lang.specs.Expr.{items_in}
use Rattle.expr_lang.specs.declared.expr.Expr.{Expr}
use Rattle.expr_lang.specs.declared.tree.Item.{Item}
use Rattle.expr_lang.specs.declared.tree.Item.TheVariants.{StageElement}
use Rattle.dh_metadata.specs.Ids.{ids_at}
use Rattle.dh_metadata.specs.declared.kind.Kind.TheVariants.{ProgramStage}
use Rattle.dh_metadata.specs.declared.records.Stage.{Stage}
use Rattle.dh_metadata.specs.declared.records.ProgramIndicator.{ProgramIndicator}
use Rattle.meta_rules.specs.declared.fault.BrokenRule.TheVariants as rule
use Rattle.meta_rules.specs.declared.fault.RuleFault.{RuleFault}
use Rattle.meta_rules.specs.Faults.{breaks}
use Rattle.meta_rules.specs.Names.{KindIds}

-- the identifier is that of a stage of the program
abbrev pub is_stage_of : KindIds → List Stage → ℕ → List ℕ → Bool
is_stage_of ids stages program stage =
    option_map_or (λ place. option_map_or (λ (found : Stage). found.program == program) (slice_get stages place) false)
    (place_of (ids_at ids ProgramStage) stage) false

-- a stage is of the program, if one is known
abbrev pub IsStageOf : KindIds → List Stage → ℕ → Option (List ℕ) → Type 0
IsStageOf ids stages program known = IfSome known (λ stage. is_stage_of ids stages program stage ≡ true)

-- the item names a stage that isn't of the program
abbrev pub is_foreign : KindIds → List Stage → ℕ → Item → Bool
is_foreign ids stages program (StageElement stage element) = not (is_stage_of ids stages program stage)
is_foreign ids stages program _ = false

abbrev pub is_foreign_filter : KindIds → List Stage → ℕ → Option Expr → Bool
is_foreign_filter ids stages program None = false
is_foreign_filter ids stages program (Some expr) = list_any (is_foreign ids stages program) (items_in expr)

-- the ways in which program indicators are aggregated
abbrev pub is_aggregated : AggType → Bool
is_aggregated Sum = true
is_aggregated Average = true
is_aggregated Count = true
is_aggregated Min = true
is_aggregated Max = true
is_aggregated _ = false

-- an item of the expression or the filter names a stage of another program, else the indicator is aggregated otherwise
abbrev pub indicator_broken : KindIds → List Stage → ProgramIndicator → Option RuleFault
indicator_broken ids stages indicator =
    cond (list_any (is_foreign ids stages indicator.program) (items_in indicator.expression) || is_foreign_filter ids stages indicator.program indicator.filter)
    (Some (breaks rule.Stage (Some indicator.id)))
    (cond (is_aggregated indicator.aggregation_type) None (Some (breaks rule.Aggregation (Some indicator.id))))

-- the first program indicator that is so
abbrev pub stages_broken : KindIds → List Stage → List ProgramIndicator → Option RuleFault
stages_broken ids stages [] = None
stages_broken ids stages (indicator ∷ indicators) = option_or (indicator_broken ids stages indicator) (stages_broken ids stages indicators)
