-- Up to which position values are approved.
use Rattle.std.specs.Prelude.{ℕ, Bool, true, false, List, Option, slice_get}
use Rattle.std.specs.Option.{option_map_or, option_and_then}
use Rattle.std.specs.List.{position_from}
use Rattle.org_tree.specs.Units.{ancestor_of}
use Rattle.dh_periods.specs.declared.name.PeriodName.{PeriodName}
use Rattle.dh_periods.specs.Days.{first_day, last_day}
use Rattle.dh_periods.specs.Places.{containing_of}
use Rattle.dh_metadata.specs.declared.held.Records.{Records}
use Rattle.dh_metadata.specs.declared.records.Unit.{Unit}
use Rattle.dh_metadata.specs.declared.records.Workflow.{Workflow}
use Rattle.dh_metadata.specs.Approval.{levels_at}
use Rattle.dh_metadata.specs.Workflows.{workflow_of}
use Rattle.dh_metadata.specs.Objects.{find_of}
use Rattle.dh_metadata.specs.declared.kind.Kind.TheVariants.{OrganisationUnit, DataElement}
use Rattle.dh_changes.specs.Facts.{Facts}
use Rattle.dh_records.specs.Access.{tree}
use Rattle.dh_changes.specs.declared.said.ApprovalState.{ApprovalState}
use Rattle.dh_changes.specs.declared.said.ApprovalState.TheVariants as state
use Rattle.dh_changes.specs.declared.keys.ApprovalKey.{ApprovalKey}
use Rattle.dh_changes.specs.declared.keys.ValueKey.{ValueKey}
use Rattle.dh_records.specs.declared.approved.Scope.{Scope}

-- an accepted key counts as approved
abbrev pub counts : ApprovalState → Bool
counts state.None = false
counts state.Approved = true
counts state.Accepted = true

abbrev pub key_of : Scope → List ℕ → ApprovalKey
key_of scope id = record { workflow = scope.workflow; period = scope.period; unit = id; attribute = scope.attribute }

-- the unit of this identifier is approved
abbrev pub is_approved : Facts → Scope → List ℕ → Bool
is_approved facts scope id = counts (facts.approval (key_of scope id))

-- the unit of this number is approved
abbrev pub is_approved_as : Facts → Records → Scope → ℕ → Bool
is_approved_as facts r scope unit = option_map_or (λ (found : Unit). is_approved facts scope found.id) (slice_get r.organisation_units unit) false

-- the unit's ancestor at this level is approved; a unit counts as its own ancestor
abbrev pub is_approved_at : Facts → Records → ℕ → Scope → ℕ → Bool
is_approved_at facts r unit scope level = option_map_or (is_approved_as facts r scope) (ancestor_of (tree facts r) unit level) false

-- the least position whose level is approved, counted from 0
abbrev pub least_position : Facts → Records → ℕ → Scope → List ℕ → Option ℕ
least_position facts r unit scope levels = position_from (is_approved_at facts r unit scope) 0 levels

-- what an approval in the workflow is of, around a period
abbrev pub scope_of : Workflow → List ℕ → PeriodName → Scope
scope_of workflow attribute period = record { workflow = workflow.id; period = period; attribute = attribute }

abbrev pub approved_by : Facts → Records → ℕ → Workflow → ℕ → PeriodName → List ℕ → Option ℕ
approved_by facts r number workflow unit period attribute =
    option_and_then (λ around. least_position facts r unit (scope_of workflow attribute around) (levels_at r number))
    (containing_of workflow.period_type (first_day period) (last_day period))

-- in a workflow, the period being the one of its type that contains the value's
unfoldable pub approved_in : Facts → Records → ℕ → ℕ → PeriodName → List ℕ → Option ℕ
approved_in facts r number unit period attribute =
    option_and_then (λ (workflow : Workflow). approved_by facts r number workflow unit period attribute) (slice_get r.data_approval_workflows number)

-- in the workflow of the element
unfoldable pub approved_of : Facts → Records → ℕ → ℕ → PeriodName → List ℕ → Option ℕ
approved_of facts r element unit period attribute =
    option_and_then (λ number. approved_in facts r number unit period attribute) (workflow_of r.data_sets element)

abbrev pub approved_by_element : Facts → Records → ValueKey → ℕ → Option ℕ
approved_by_element facts r key element =
    option_and_then (λ unit. approved_of facts r element unit key.period key.attribute) (find_of r OrganisationUnit key.unit)

-- of a key; a key names objects that stand in the metadata: no such element or unit, no position
unfoldable pub approved_at : Facts → Records → ValueKey → Option ℕ
approved_at facts r key = option_and_then (approved_by_element facts r key) (find_of r DataElement key.element)
