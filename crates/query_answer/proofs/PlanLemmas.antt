-- The values by plans are those of the items.
use Rattle.std.proofs.Common.{◌≡◌, ◌∙◌, ℕ, Bool, false, List, [], ◌∷◌, map, Option, Some, None, slice_get, refl, sym, ap}
use Rattle.std.specs.Option.{option_map_or}
use Rattle.dh_base.specs.Fractions.{Fraction}
use Rattle.dh_periods.specs.declared.name.PeriodName.{PeriodName}
use Rattle.expr_lang.specs.declared.tree.Item.{Item}
use Rattle.dh_metadata.specs.declared.held.Records.{Records}
use Rattle.dh_metadata.specs.declared.records.Indicator.{Indicator}
use Rattle.program_cells.specs.Cells.{cell_value as program_value}
use Rattle.table_rows.specs.Store.{Contents}
use Rattle.cell_values.specs.Reporting.{rate_of}
use Rattle.cell_values.specs.declared.cell.Operand.{Operand}
use Rattle.cell_values.specs.declared.rates.RateAsked.{RateAsked}
use Rattle.cell_values.specs.declared.item.ItemPlan.{ItemPlan}
use Rattle.cell_values.specs.Seen.{SeenRecords, seen, seen_events, seen_regs, seen_of}
use Rattle.cell_values.specs.Cells.{cell_of, aggregate_of}
use Rattle.cell_values.specs.Items.{item_value_of}
use Rattle.cell_values.specs.Plans.{planned_value, operand}
use Rattle.query_lang.specs.declared.plain.Dx.{Dx}
use Rattle.query_lang.specs.declared.plain.DxKind.{DxKind}
use Rattle.query_lang.specs.declared.plain.DxKind.TheVariants as dx_kind
use Rattle.query_answer.specs.declared.arithmetic.CellValue.TheVariants as cell
use Rattle.query_answer.specs.Cells.{of_option, of_program, element_cell, rate_cell, indicator_cell, program_cell, cell_by, cell_value}

each_planned : (r : Records) (shown : SeenRecords) (periods : List PeriodName) (units : List ℕ) (alone : Bool) (plans : List ItemPlan)
    → map (planned_value r shown periods units alone) plans
    ≡ map (λ asked. item_value_of r shown asked periods units alone) (map (λ (plan : ItemPlan). plan.item) plans)
each_planned r shown periods units alone [] = refl
each_planned r shown periods units alone (plan ∷ plans) =
    ap (λ (values : List (Option Fraction)). item_value_of r shown plan.item periods units alone ∷ values) (each_planned r shown periods units alone plans)

pub values-planned : (r : Records) (shown : SeenRecords) (periods : List PeriodName) (units : List ℕ) (alone : Bool) (plans : List ItemPlan) (items : List Item)
    → alone ≡ false → map (λ (plan : ItemPlan). plan.item) plans ≡ items
    → map (planned_value r shown periods units alone) plans ≡ map (λ asked. item_value_of r shown asked periods units false) items
values-planned r shown periods units alone plans items not are =
    each_planned r shown periods units alone plans
    ∙ ap (map (λ asked. item_value_of r shown asked periods units alone)) are
    ∙ ap (λ b. map (λ asked. item_value_of r shown asked periods units b) items) not

-- the cell of an operand
pub element-cell : (r : Records) (user : ℕ) (held : Contents) (dx : Dx) (o : Operand) (periods : List PeriodName) (units : List ℕ) (alone : Bool)
    → dx.kind ≡ dx_kind.Element → o ≡ operand dx.number dx.part None → alone ≡ false
    → of_option (aggregate_of r (seen r user held.rows) (cell_of o.element o.combo o.attribute periods units alone))
    ≡ cell_value r (seen_of r user held) dx periods units
unfolding cell_value element_cell seen_of
element-cell r user held dx o periods units alone kind is not =
    ap (λ (v : Operand). of_option (aggregate_of r (seen r user held.rows) (cell_of v.element v.combo v.attribute periods units alone))) is
    ∙ ap (λ b. of_option (aggregate_of r (seen r user held.rows) (cell_of dx.number dx.part None periods units b))) not
    ∙ ap (λ (k : DxKind). cell_by r (seen_of r user held) k dx.number dx.part periods units) (sym kind)

-- the cell of an indicator
pub indicator-cell : (r : Records) (shown : SeenRecords) (dx : Dx) (indicator : Indicator) (periods : List PeriodName) (units : List ℕ)
    → dx.kind ≡ dx_kind.Indicator → slice_get r.indicators dx.number ≡ Some indicator
    → indicator_cell r shown indicator periods units ≡ cell_value r shown dx periods units
unfolding cell_value
indicator-cell r shown dx indicator periods units kind there =
    ap (λ (o : Option Indicator). option_map_or (λ (i : Indicator). indicator_cell r shown i periods units) o cell.None) (sym there)
    ∙ ap (λ (k : DxKind). cell_by r shown k dx.number dx.part periods units) (sym kind)

-- the cell of a rate
pub rate-cell : (r : Records) (user : ℕ) (held : Contents) (dx : Dx) (asked : RateAsked) (periods : List PeriodName) (units : List ℕ) (alone : Bool)
    → dx.kind ≡ dx_kind.Rate asked.which → asked.set ≡ dx.number → alone ≡ false
    → of_option (rate_of r asked.which asked.set periods units (seen_regs r user held.regs) alone) ≡ cell_value r (seen_of r user held) dx periods units
unfolding cell_value rate_cell seen_of
rate-cell r user held dx asked periods units alone kind is not =
    ap (λ n. of_option (rate_of r asked.which n periods units (seen_regs r user held.regs) alone)) is
    ∙ ap (λ b. of_option (rate_of r asked.which dx.number periods units (seen_regs r user held.regs) b)) not
    ∙ ap (λ (k : DxKind). cell_by r (seen_of r user held) k dx.number dx.part periods units) (sym kind)

-- the cell of a program indicator
pub program-cell : (r : Records) (user : ℕ) (held : Contents) (dx : Dx) (periods : List PeriodName) (units : List ℕ) → dx.kind ≡ dx_kind.ProgramIndicator
    → of_program (program_value r dx.number periods units (seen_events r user held.events)) ≡ cell_value r (seen_of r user held) dx periods units
unfolding cell_value program_cell seen_of
program-cell r user held dx periods units kind =
    ap (λ (k : DxKind). cell_by r (seen_of r user held) k dx.number dx.part periods units) (sym kind)
