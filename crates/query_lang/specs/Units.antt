-- The units of a query against metadata, for a user.
use Rattle.std.specs.Prelude.{ℕ, if◌then◌else◌, List, [], slice_get, Option, None, Some, option_map, option_and_then, Result, Ok}
use Rattle.std.specs.List.{flat_map}
use Rattle.std.specs.Option.{option_map_or}
use Rattle.dh_base.specs.declared.codes.Code.TheVariants as code
use Rattle.dh_base.specs.declared.codes.Refusal.{Refusal}
use Rattle.dh_metadata.specs.declared.held.Records.{Records}
use Rattle.dh_metadata.specs.declared.kind.Kind.TheVariants as kind
use Rattle.dh_metadata.specs.declared.records.UnitGroup.{UnitGroup}
use Rattle.dh_metadata.specs.Approval.{unit_rows}
use Rattle.dh_metadata.specs.Objects.{find_of}
use Rattle.dh_metadata.specs.Users.{view_units_of}
use Rattle.query_lang.specs.declared.item.UnitForm.{UnitForm}
use Rattle.query_lang.specs.declared.item.UnitForm.TheVariants as form
use Rattle.query_lang.specs.declared.item.UnitItem.{UnitItem}
use Rattle.query_lang.specs.Given.{or_refuse}
use Rattle.query_lang.specs.declared.part.Part.{Part}
use Rattle.query_lang.specs.declared.part.Part.TheVariants as part
use Rattle.query_lang.specs.View.{is_under_any}
use Rattle.query_lang.specs.Choice.{chosen_units}

-- the unit of that identifier, if it is under a view unit
unfoldable pub unit_seen : Records → ℕ → List ℕ → Option ℕ
unit_seen r user id =
    option_and_then (λ x. if is_under_any (unit_rows r) (view_units_of r user) x then Some x else None) (find_of r kind.OrganisationUnit id)

abbrev pub part_by : Records → ℕ → List ℕ → UnitForm → Result Part Refusal
part_by r user text (form.Unit id) = or_refuse code.F15 text (option_map (λ x. part.Unit x) (unit_seen r user id))
part_by r user text form.User = Ok part.User
part_by r user text form.Children = Ok part.Children
part_by r user text form.Grandchildren = Ok part.Grandchildren
part_by r user text (form.Level n) = Ok (part.Level n)
part_by r user text (form.Group id) = or_refuse code.F14 text (option_map (λ g. part.Group g) (find_of r kind.OrganisationUnitGroup id))

-- an item, or its refusal
unfoldable pub part_of : Records → ℕ → UnitItem → Result Part Refusal
part_of r user item = part_by r user item.text item.form

-- the units of the group
unfoldable pub group_units : Records → ℕ → List ℕ
group_units r g = option_map_or (λ (group : UnitGroup). group.organisation_units) (slice_get r.organisation_unit_groups g) []

abbrev pub part_members : Records → Part → List ℕ
part_members r (part.Unit x) = []
part_members r part.User = []
part_members r part.Children = []
part_members r part.Grandchildren = []
part_members r (part.Level n) = []
part_members r (part.Group g) = group_units r g

-- the units of the groups that are named
unfoldable pub members_of : Records → List Part → List ℕ
members_of r parts = flat_map (part_members r) parts

-- the units that the items choose
unfoldable pub units_of : Records → ℕ → List Part → List ℕ
units_of r user parts = chosen_units (unit_rows r) (view_units_of r user) (members_of r parts) parts
