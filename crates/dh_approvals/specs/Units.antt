-- The units below and above one that an approval depends on.
use Rattle.std.specs.Prelude.{ℕ, zero, suc, ◌==◌, ◌&&◌, Bool, true, false, List, [], Option, None, Some, length, slice_get, is_some, option_and_then, cond}
use Rattle.std.specs.Option.{option_map_or, option_or}
use Rattle.org_tree.specs.Count.{first_below}
use Rattle.org_tree.specs.Units.{is_under, level_of, ancestor_of}
use Rattle.dh_metadata.specs.declared.held.Records.{Records}
use Rattle.dh_metadata.specs.declared.records.DataSet.{DataSet}
use Rattle.dh_metadata.specs.declared.records.Unit.{Unit}
use Rattle.dh_metadata.specs.Sets.{is_assigned}
use Rattle.dh_changes.specs.Facts.{Facts}
use Rattle.dh_changes.specs.declared.said.ApprovalState.{ApprovalState}
use Rattle.dh_changes.specs.declared.said.ApprovalState.TheVariants as state
use Rattle.dh_records.specs.Access.{tree}
use Rattle.dh_records.specs.Approved.{key_of, is_approved_as}
use Rattle.dh_records.specs.declared.approved.Scope.{Scope}
use Rattle.dh_approvals.specs.declared.search.Wanted.{Wanted}
use Rattle.dh_approvals.specs.declared.search.Wanted.TheVariants.{Open, Waiting}
use Rattle.dh_approvals.specs.declared.search.Sought.{Sought}
use Rattle.dh_approvals.specs.Search.{first_unit}

-- the identifier of a unit
abbrev pub id_of : Records → ℕ → List ℕ
id_of r unit = option_map_or (λ (found : Unit). found.id) (slice_get r.organisation_units unit) []

-- how far the approval of a unit has come
abbrev pub state_at : Facts → Records → Scope → ℕ → ApprovalState
state_at facts r scope unit = facts.approval (key_of scope (id_of r unit))

-- the state is one of those that are looked for
abbrev pub is_wanted : Wanted → ApprovalState → Bool
is_wanted Open state.None = true
is_wanted Open state.Approved = false
is_wanted Open state.Accepted = false
is_wanted Waiting state.None = false
is_wanted Waiting state.Approved = true
is_wanted Waiting state.Accepted = false

-- the data set belongs to the workflow
abbrev pub uses : Records → ℕ → ℕ → Bool
uses r workflow set =
    option_map_or (λ (found : DataSet). option_map_or (λ own. own == workflow) found.workflow false) (slice_get r.data_sets set) false

-- the unit is assigned to a data set of the workflow
abbrev pub is_assigned_in : Records → ℕ → ℕ → Bool
is_assigned_in r workflow unit = is_some (first_below (λ set. uses r workflow set && is_assigned r set unit) (length r.data_sets))

-- a unit is reporting if a unit under it is assigned to a data set of the workflow
unfoldable pub is_reporting : Facts → Records → ℕ → ℕ → Bool
is_reporting facts r workflow unit =
    is_some (first_below (λ x. is_under (tree facts r) x unit && is_assigned_in r workflow x) (length (tree facts r)))

-- a reporting unit of this level, under that unit, in such a state
abbrev pub is_sought : Facts → Records → Scope → ℕ → Sought → ℕ → Bool
is_sought facts r scope workflow sought unit =
    is_under (tree facts r) unit sought.unit
    && (level_of (tree facts r) unit == sought.level
    && (is_wanted sought.wanted (state_at facts r scope unit) && is_reporting facts r workflow unit))

-- the first such unit in the order of the tree
unfoldable pub first_sought : Facts → Records → Scope → ℕ → Sought → Option ℕ
first_sought facts r scope workflow sought = first_unit (tree facts r) (is_sought facts r scope workflow sought)

-- the unit's ancestor at this level, if it is approved
abbrev pub approved_ancestor : Facts → Records → Scope → ℕ → ℕ → Option ℕ
approved_ancestor facts r scope unit level =
    option_and_then (λ above. cond (is_approved_as facts r scope above) (Some above) None) (ancestor_of (tree facts r) unit level)

-- the nearest approved ancestor at a position below this one
abbrev pub nearest_above : Facts → Records → Scope → List ℕ → ℕ → ℕ → Option ℕ
nearest_above facts r scope levels unit zero = None
nearest_above facts r scope levels unit (suc position) =
    option_or (option_and_then (approved_ancestor facts r scope unit) (slice_get levels position))
    (nearest_above facts r scope levels unit position)
