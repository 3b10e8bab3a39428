-- Approval: workflows, their positions, and what a user needs to see approved.
use Rattle.std.specs.Prelude.{ℕ, ℤ, ◌+◌, nat_le, nat_eq, min, unsigned_abs, cond, List, [], ◌∷◌, map, length, position, slice_get, Option, None, Some}
use Rattle.std.specs.Option.{option_map_or}
use lib.Chars.{codes}
use Rattle.dh_base.specs.declared.plain.Need.{Need}
use Rattle.dh_base.specs.declared.plain.Need.TheVariants.{All, Upto}
use Rattle.org_tree.specs.Units.{UnitRow, level_of}
use Rattle.dh_metadata.specs.declared.held.Records.{Records}
use Rattle.dh_metadata.specs.declared.records.Workflow.{Workflow}
use Rattle.dh_metadata.specs.Users.{has_authority, view_units_of}
use Rattle.dh_metadata.specs.Rows.{tree_rows}
use Rattle.dh_metadata.specs.Rows as rows
use Rattle.dh_metadata.specs.Positions.{positions_of}

-- a unit's identifier and its parent
abbrev pub unit_rows : Records → List UnitRow
unit_rows r = tree_rows r.organisation_units

-- an option combination's category combination and its options
abbrev pub option_combo_rows : Records → List (ℕ × List ℕ)
option_combo_rows r = rows.option_combo_rows r.category_option_combos

-- a level of the tree as a small number; those of a metadata file are from 1 to 12
abbrev pub tree_level : ℤ → ℕ
tree_level level = min (unsigned_abs level) 255

abbrev pub levels_in : Records → Workflow → List ℕ
levels_in r workflow = map tree_level (positions_of r.data_approval_levels workflow)

-- the tree levels of a workflow's levels in ascending number. A position is a place in this list
abbrev pub levels_at : Records → ℕ → List ℕ
levels_at r workflow = option_map_or (levels_in r) (slice_get r.data_approval_workflows workflow) []

-- the lower of two levels, the first of which may not be there
abbrev pub lower : Option ℕ → ℕ → Option ℕ
lower None level = Some level
lower (Some other) level = Some (min other level)

abbrev pub least_from : List UnitRow → Option ℕ → List ℕ → Option ℕ
least_from rows least [] = least
least_from rows least (unit ∷ units) = least_from rows (lower least (level_of rows unit)) units

-- the least tree level of units, None where there is none
abbrev pub least_level : List UnitRow → List ℕ → Option ℕ
least_level rows units = least_from rows None units

-- the need by the first position that is fit: All where there is none or it is the last
abbrev pub need_by : ℕ → Option ℕ → Need
need_by count None = All
need_by count (Some i) = cond (nat_eq (i + 1) count) All (Upto (i + 1))

-- the need of one whose units stand at a level or below: by the first position whose level is that one or below it
abbrev pub need_from : List ℕ → Option ℕ → Need
need_from levels None = All
need_from levels (Some least) = need_by (length levels) (position (λ level. nat_le least level) levels)

-- the authority to see what isn't approved
unfoldable pub view_unapproved : List ℕ
view_unapproved = codes "F_VIEW_UNAPPROVED_DATA"

-- what a user has to see approved in a workflow
abbrev pub need_of : Records → ℕ → ℕ → Need
need_of r user workflow =
    cond (has_authority r user view_unapproved) All
    (need_from (levels_at r workflow) (least_level (unit_rows r) (view_units_of r user)))
