-- How the values that approvals decide are found: by the groups and the ranges of rows that tables hold.
use Rattle.std.specs.Prelude.{ℕ, zero, suc, ◌+◌, ◌==◌, ◌&&◌, nat_eq, Bool, false, cond, List, [], ◌++◌, length, Option, Some, None, option_map, option_and_then}
use Rattle.std.specs.Prelude.{slice_get}
use Rattle.std.specs.List.{filter, filter_map}
use Rattle.std.specs.Option.{option_map_or}
use Rattle.dh_base.specs.declared.plain.Need.TheVariants.{All}
use Rattle.dh_changes.specs.declared.keys.ApprovalKey.{ApprovalKey}
use Rattle.dh_changes.specs.declared.keys.ValueKey.{ValueKey}
use Rattle.dh_periods.specs.declared.name.PeriodName.{PeriodName}
use Rattle.dh_periods.specs.declared.kind.PeriodType.{PeriodType}
use Rattle.dh_periods.specs.Days.{first_day, last_day}
use Rattle.dh_periods.specs.Keys.{same_period}
use Rattle.dh_periods.specs.Places.{containing_of}
use Rattle.org_tree.specs.Count.{first_below}
use Rattle.org_tree.specs.Units.{UnitRow, order_of, size_of}
use Rattle.dh_metadata.specs.declared.held.Records.{Records}
use Rattle.dh_metadata.specs.declared.kind.Kind.TheVariants.{OrganisationUnit, CategoryOptionCombo}
use Rattle.dh_metadata.specs.declared.records.Element.{Element}
use Rattle.dh_metadata.specs.declared.records.OptionCombo.{OptionCombo}
use Rattle.dh_metadata.specs.declared.records.Unit.{Unit}
use Rattle.dh_metadata.specs.declared.records.Workflow.{Workflow}
use Rattle.dh_metadata.specs.Workflows.{workflow_of}
use Rattle.dh_metadata.specs.Approval.{unit_rows}
use Rattle.dh_metadata.specs.Objects.{find_of}
use Rattle.dh_changes.specs.Said.{same_id}
use Rattle.table_rows.specs.declared.row.Group.{Group}
use Rattle.table_rows.specs.declared.row.Row.{Row}
use Rattle.table_rows.specs.Cells.{gathered}
use Rattle.table_rows.specs.Groups.{groups_of}
use Rattle.table_rows.specs.Rows.{wanted_rows}
use Rattle.dh_changes.specs.declared.change.Write.{Write}
use Rattle.table_build.specs.Log.{values_named}
use Rattle.latest_build.specs.Touches.{approvals_named, approved_alone, has_position}
use Rattle.latest_build.specs.declared.found.Reach.{Reach}

-- ---- the key of the value in a row

-- the unit at a place of the tree's order
abbrev pub unit_at : List UnitRow → ℕ → Option ℕ
unit_at us order = first_below (λ x. order_of us x == order) (length us)

abbrev pub unit_number_id : Records → ℕ → Option (List ℕ)
unit_number_id r unit = option_map (λ (found : Unit). found.id) (slice_get r.organisation_units unit)

unfoldable pub unit_id : Records → ℕ → Option (List ℕ)
unit_id r order = option_and_then (unit_number_id r) (unit_at (unit_rows r) order)

unfoldable pub element_id : Records → ℕ → Option (List ℕ)
element_id r element = option_map (λ (found : Element). found.id) (slice_get r.data_elements element)

unfoldable pub combo_id : Records → ℕ → Option (List ℕ)
combo_id r combo = option_map (λ (found : OptionCombo). found.id) (slice_get r.category_option_combos combo)

abbrev pub value_key : List ℕ → PeriodName → List ℕ → List ℕ → List ℕ → ValueKey
value_key element period unit combo attribute =
    record { element = element; period = period; unit = unit; combo = combo; attribute = attribute }

unfoldable pub key_at : Records → Row → Option ValueKey
key_at r row =
    option_and_then (λ element. option_and_then (λ unit. option_and_then (λ combo. option_map (λ attribute.
    value_key element row.period unit combo attribute) (combo_id r row.attribute)) (combo_id r row.combo)) (unit_id r row.order)) (element_id r row.element)

-- ---- the values that an approval is over

abbrev pub reach_with : Records → ℕ → ℕ → Reach
reach_with r unit attribute = record {
  attribute = attribute;
  from = order_of (unit_rows r) unit;
  to = order_of (unit_rows r) unit + size_of (unit_rows r) unit;
}

-- the attribute combination of an approval, and the places of its unit and all under it
unfoldable pub reach_of : Records → ApprovalKey → Option Reach
reach_of r approval =
    option_and_then (λ unit. option_map (λ attribute. reach_with r unit attribute) (find_of r CategoryOptionCombo approval.attribute))
    (find_of r OrganisationUnit approval.unit)

abbrev pub type_by : ApprovalKey → Workflow → Option PeriodType
type_by approval workflow = cond (same_id workflow.id approval.workflow) (Some workflow.period_type) None

abbrev pub type_of : Records → ApprovalKey → ℕ → Option PeriodType
type_of r approval number = option_and_then (type_by approval) (slice_get r.data_approval_workflows number)

-- the type of periods of the element's workflow, where it is the approval's
unfoldable pub type_for : Records → ApprovalKey → ℕ → Option PeriodType
type_for r approval element =
    option_and_then (type_of r approval) (workflow_of r.data_sets element)

-- the approval's period is the one of this type around a period
abbrev pub is_around : PeriodType → ApprovalKey → PeriodName → Bool
is_around kind approval period =
    option_map_or (λ around. same_period around approval.period) (containing_of kind (first_day period) (last_day period)) false

abbrev pub is_reached : PeriodType → ApprovalKey → Reach → Group → Bool
is_reached kind approval reach group = nat_eq group.attribute reach.attribute && is_around kind approval group.period

abbrev pub in_group : Records → List Row → Reach → Group → List ValueKey
in_group r rows reach group = filter_map (key_at r) (wanted_rows group All reach.from reach.to rows)

abbrev pub in_group_reached : Records → List Row → ApprovalKey → Reach → PeriodType → Group → List ValueKey
in_group_reached r rows approval reach kind group = cond (is_reached kind approval reach group) (in_group r rows reach group) []

abbrev pub in_groups : Records → List Row → ApprovalKey → Reach → ℕ → PeriodType → List ValueKey
in_groups r rows approval reach element kind = gathered (in_group_reached r rows approval reach kind) (groups_of element rows)

abbrev pub of_element : Records → List Row → ApprovalKey → Reach → ℕ → List ValueKey
of_element r rows approval reach element = option_map_or (in_groups r rows approval reach element) (type_for r approval element) []

-- of the elements of smaller numbers
abbrev pub of_elements : Records → List Row → ApprovalKey → Reach → ℕ → List ValueKey
of_elements r rows approval reach zero = []
of_elements r rows approval reach (suc element) = of_elements r rows approval reach element ++ of_element r rows approval reach element

abbrev pub in_reach : Records → List Row → ApprovalKey → Reach → List ValueKey
in_reach r rows approval reach = of_elements r rows approval reach (length r.data_elements)

-- the keys of the rows of the approval's workflow, period, attribute combination and unit
abbrev pub found_by : Records → List Row → ApprovalKey → List ValueKey
found_by r rows approval = option_map_or (in_reach r rows approval) (reach_of r approval) []

abbrev pub found : Records → List Row → List ApprovalKey → List ValueKey
found r rows approvals = gathered (found_by r rows) approvals

-- of these the ones whose approval the keys decide
abbrev pub decided_by : Records → List Row → List ApprovalKey → List ValueKey
decided_by r rows approvals = filter (has_position r (approved_alone approvals)) (found r rows approvals)

-- the values that the last writes touch, as they are found by the rows of the base
abbrev pub values_sought : Records → List Row → List Write → List ValueKey
values_sought r rows last = values_named last ++ decided_by r rows (approvals_named last)
