-- A worked case: a workflow with the levels of the country and of the districts, and a value at a
-- facility of a district. The least position at which an approval stands is the value's.
use Rattle.std.proofs.Common.{◌≡◌, ℕ, List, [], ◌∷◌, Some, None, refl, pos, false}
use Rattle.dh_sharing.specs.declared.rule.Sharing.{Sharing}
use Rattle.dh_base.specs.declared.plain.AggType.{AggType}
use Rattle.dh_periods.specs.declared.kind.PeriodType.{PeriodType}
use Rattle.dh_periods.specs.declared.name.PeriodName.{PeriodName}
use Rattle.dh_periods.specs.Days.{first_day, last_day}
use Rattle.dh_periods.specs.Places.{containing_of}
use Rattle.org_tree.specs.Units.{ancestor_of, level_of, level_within, climb}
use Rattle.dh_metadata.specs.declared.names.ValueType.{ValueType}
use Rattle.dh_metadata.specs.declared.held.Records.{Records}
use Rattle.dh_metadata.specs.declared.records.Unit.{Unit}
use Rattle.dh_metadata.specs.declared.records.Element.{Element}
use Rattle.dh_metadata.specs.declared.records.ApprovalLevel.{ApprovalLevel}
use Rattle.dh_metadata.specs.declared.records.Workflow.{Workflow}
use Rattle.dh_metadata.specs.declared.records.DataSet.{DataSet}
use Rattle.dh_metadata.specs.Positions.{positions_of, ordered}
use Rattle.dh_changes.specs.Facts.{Facts}
use Rattle.dh_changes.specs.declared.said.ApprovalState.TheVariants as state
use Rattle.dh_changes.specs.declared.keys.ApprovalKey.{ApprovalKey}
use Rattle.dh_changes.specs.declared.keys.ValueKey.{ValueKey}
use Rattle.dh_records.specs.Access.{tree}
use Rattle.dh_records.specs.Approved.{approved_at, approved_of, approved_in}

-- three units, each with an identifier of one byte: the country, its district and the facility
abbrev pub units : List Unit
units =
    record { id = 1 ∷ []; name = []; parent = None }
    ∷ record { id = 2 ∷ []; name = []; parent = Some 0 }
    ∷ record { id = 3 ∷ []; name = []; parent = Some 1 } ∷ []

-- the district's level has the greater number, and stands first in the list
abbrev pub levels : List ApprovalLevel
levels =
    record { id = 4 ∷ []; name = []; level = pos 2; org_unit_level = pos 2 }
    ∷ record { id = 5 ∷ []; name = []; level = pos 1; org_unit_level = pos 1 } ∷ []

abbrev pub workflows : PeriodType → List Workflow
workflows kind = record { id = 6 ∷ []; name = []; period_type = kind; data_approval_levels = 0 ∷ 1 ∷ [] } ∷ []

abbrev pub element : ValueType → AggType → Sharing → Element
element value total sharing =
    record { id = 7 ∷ []; name = []; value_type = value; aggregation_type = total; category_combo = 0; zero_is_significant = false; sharing = sharing }

abbrev pub set : PeriodType → Sharing → DataSet
set kind sharing = record {
  id = 8 ∷ [];
  name = [];
  period_type = kind;
  data_set_elements = 0 ∷ [];
  organisation_units = 2 ∷ [];
  category_combo = 0;
  workflow = Some 0;
  open_future_periods = pos 0;
  expiry_days = pos 0;
  timely_days = pos 0;
  sharing = sharing;
}

abbrev pub file : PeriodType → ValueType → AggType → Sharing → Records
file kind value total sharing = record {
  organisation_units = units;
  organisation_unit_groups = [];
  category_options = [];
  categories = [];
  category_combos = [];
  category_option_combos = [];
  data_elements = element value total sharing ∷ [];
  data_approval_levels = levels;
  data_approval_workflows = workflows kind;
  data_sets = set kind sharing ∷ [];
  constants = [];
  indicator_types = [];
  indicators = [];
  validation_rules = [];
  tracked_entity_types = [];
  tracked_entity_attributes = [];
  programs = [];
  program_stages = [];
  program_indicators = [];
  user_roles = [];
  users = [];
  user_groups = [];
  api_tokens = [];
  acceptance_required = false;
}

abbrev pub approval : PeriodName → ℕ → ApprovalKey
approval around unit = record { workflow = 6 ∷ []; period = around; unit = unit ∷ []; attribute = 9 ∷ [] }

abbrev pub key : PeriodName → ValueKey
key period = record { element = 7 ∷ []; period = period; unit = 3 ∷ []; combo = 10 ∷ []; attribute = 9 ∷ [] }

-- the district alone is approved: position 1
pub district-alone : (facts : Facts) (kind : PeriodType) (value : ValueType) (total : AggType) (sharing : Sharing) (period around : PeriodName)
    → containing_of kind (first_day period) (last_day period) ≡ Some around
    → facts.approval (approval around 1) ≡ state.None → facts.approval (approval around 2) ≡ state.Approved
    → approved_at facts (file kind value total sharing) (key period) ≡ Some 1
unfolding approved_at approved_of approved_in tree ancestor_of level_of level_within climb positions_of ordered
district-alone facts kind value total sharing period around found country district = rw found (rw country (rw district refl))

-- the country is accepted: position 0
pub country-accepted : (facts : Facts) (kind : PeriodType) (value : ValueType) (total : AggType) (sharing : Sharing) (period around : PeriodName)
    → containing_of kind (first_day period) (last_day period) ≡ Some around
    → facts.approval (approval around 1) ≡ state.Accepted
    → approved_at facts (file kind value total sharing) (key period) ≡ Some 0
unfolding approved_at approved_of approved_in tree ancestor_of level_of level_within climb positions_of ordered
country-accepted facts kind value total sharing period around found country = rw found (rw country refl)

-- no unit above is approved, nor the unit itself: no position
pub none-approved : (facts : Facts) (kind : PeriodType) (value : ValueType) (total : AggType) (sharing : Sharing) (period around : PeriodName)
    → containing_of kind (first_day period) (last_day period) ≡ Some around
    → facts.approval (approval around 1) ≡ state.None → facts.approval (approval around 2) ≡ state.None
    → approved_at facts (file kind value total sharing) (key period) ≡ None
unfolding approved_at approved_of approved_in tree ancestor_of level_of level_within climb positions_of ordered
none-approved facts kind value total sharing period around found country district = rw found (rw country (rw district refl))

-- the unit of the key isn't in the metadata: no position
pub no-unit : (facts : Facts) (kind : PeriodType) (value : ValueType) (total : AggType) (sharing : Sharing) (period : PeriodName)
    → approved_at facts (file kind value total sharing) (record (key period) { unit = 11 ∷ [] }) ≡ None
unfolding approved_at
no-unit facts kind value total sharing period = refl
