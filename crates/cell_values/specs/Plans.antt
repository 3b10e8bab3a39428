-- What is worked out once for a data element or an item, before its cells.
use Rattle.std.specs.Prelude.{◌≡◌, ℕ, Bool, ◌&&◌, List, [], Option, None, Some, slice_get, option_map, option_and_then}
use Rattle.std.specs.List.{filter}
use Rattle.dh_base.specs.Fractions.{Fraction}
use Rattle.dh_base.specs.declared.plain.Rate.{Rate}
use Rattle.dh_sharing.specs.declared.access.Right.TheVariants.{Read}
use Rattle.dh_periods.specs.declared.name.PeriodName.{PeriodName}
use Rattle.expr_lang.specs.declared.tree.Item.{Item}
use Rattle.expr_lang.specs.declared.tree.Item.TheVariants as item
use Rattle.dh_metadata.specs.declared.held.Records.{Records}
use Rattle.dh_metadata.specs.declared.kind.Kind.TheVariants as kind
use Rattle.dh_metadata.specs.declared.records.Element.{Element}
use Rattle.dh_metadata.specs.Objects.{find_of}
use Rattle.dh_metadata.specs.Users.{may_of}
use Rattle.table_rows.specs.declared.row.Row.{Row}
use Rattle.table_rows.specs.declared.row.Group.{Group}
use Rattle.table_rows.specs.Groups.{groups_of}
use Rattle.table_rows.specs.Store.{Contents}
use Rattle.cell_values.specs.declared.cell.Operand.{Operand}
use Rattle.cell_values.specs.declared.element.ElementPlan.{ElementPlan}
use Rattle.cell_values.specs.declared.item.ItemPlan.{ItemPlan}
use Rattle.cell_values.specs.declared.item.Way.{Way}
use Rattle.cell_values.specs.declared.item.Way.TheVariants as way
use Rattle.cell_values.specs.declared.rates.RateAsked.{RateAsked}
use Rattle.cell_values.specs.Seen.{SeenRecords, sees_attribute, need_for}
use Rattle.cell_values.specs.Cells.{cell_of, is_named, is_in_some, days_in, aggregate_of}
use Rattle.cell_values.specs.Rates.{IsRatePlan}
use Rattle.cell_values.specs.Reporting.{whole}
use Rattle.cell_values.specs.Items.{named_combo, constant_value, group_value, item_value_of}

-- the group is of the combinations that are named, and the user may read its values
unfoldable pub is_group_read : Records → ℕ → Option ℕ → Option ℕ → Group → Bool
is_group_read r user combo attribute group =
    is_named combo group.combo
    && (is_named attribute group.attribute && (sees_attribute r user group.attribute && may_of r user Read kind.DataElement group.element))

-- the groups whose period lies in some of these
abbrev pub inside : List PeriodName → List Group → List Group
inside periods groups = filter (λ (group : Group). is_in_some periods group.period) groups

-- the plan of an element that is there: its aggregation type, what has to be approved, and its groups that the user may read
pub record IsElementPlan (r : Records) (user : ℕ) (rows : List Row) (plan : ElementPlan) : Type 0 where
  pub kind : option_map (λ (element : Element). element.aggregation_type) (slice_get r.data_elements plan.operand.element) ≡ Some plan.kind
  pub need : plan.need ≡ need_for r user plan.operand.element
  pub groups : plan.groups ≡ filter (is_group_read r user plan.operand.combo plan.operand.attribute) (groups_of plan.operand.element rows)

-- the aggregate of an operand over the samples that the user sees
abbrev pub operand_value : Records → SeenRecords → Operand → List PeriodName → List ℕ → Bool → Option Fraction
operand_value r shown operand periods units alone =
    aggregate_of r shown.samples (cell_of operand.element operand.combo operand.attribute periods units alone)

abbrev pub operand : ℕ → Option ℕ → Option ℕ → Operand
operand element combo attribute = record { element = element; combo = combo; attribute = attribute }

-- the operand that is named by identifiers, where each of them names something
abbrev pub named_operand : Records → List ℕ → Option (List ℕ) → Option (List ℕ) → Option Operand
named_operand r element combo attribute =
    option_and_then (λ e. option_and_then (λ c. option_map (λ a. operand e c a) (named_combo r attribute)) (named_combo r combo))
    (find_of r kind.DataElement element)

abbrev pub operand_of : Records → Item → Option Operand
operand_of r (item.Element element combo attribute) = named_operand r element combo attribute
operand_of r other = None

abbrev pub rate_named : Rate → ℕ → RateAsked
rate_named which set = record { set = set; which = which }

-- the rate that is named by a data set's identifier, where that names one
abbrev pub rate_asked_of : Records → Item → Option RateAsked
rate_asked_of r (item.Rate set which) = option_map (λ n. rate_named which n) (find_of r kind.DataSet set)
rate_asked_of r other = None

-- the value of an item that isn't an element's or a data set's
abbrev pub other_value_of : Records → Item → List PeriodName → List ℕ → Bool → Option Fraction
other_value_of r (item.Constant id) periods units alone = option_and_then (constant_value r) (find_of r kind.Constant id)
other_value_of r (item.Group id) periods units alone = option_and_then (λ n. group_value r n units alone) (find_of r kind.OrganisationUnitGroup id)
other_value_of r item.Days periods units alone = Some (whole (days_in periods))
other_value_of r other periods units alone = None

-- how the item's values are found: by the plan of an element or of a rate, or without one
abbrev pub IsWay : Records → ℕ → Contents → Item → Way → Type 0
IsWay r user held asked (way.Element plan) = IsElementPlan r user held.rows plan × (operand_of r asked ≡ Some plan.operand)
IsWay r user held asked (way.Rate plan) = IsRatePlan r user held.regs plan × (rate_asked_of r asked ≡ Some plan.asked)
IsWay r user held asked way.Other = (operand_of r asked ≡ None) × (rate_asked_of r asked ≡ None)

abbrev pub IsItemPlan : Records → ℕ → Contents → ItemPlan → Type 0
IsItemPlan r user held plan = IsWay r user held plan.item plan.way

-- the groups inside some periods; only an element has any
abbrev pub way_inside : List PeriodName → Way → List Group
way_inside periods (way.Element plan) = inside periods plan.groups
way_inside periods (way.Rate plan) = []
way_inside periods way.Other = []

abbrev pub groups_inside : List PeriodName → ItemPlan → List Group
groups_inside periods plan = way_inside periods plan.way

-- the value of an item in a cell
abbrev pub planned_value : Records → SeenRecords → List PeriodName → List ℕ → Bool → ItemPlan → Option Fraction
planned_value r shown periods units alone plan = item_value_of r shown plan.item periods units alone
