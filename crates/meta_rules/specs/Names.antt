-- The objects that items name.
use Rattle.std.specs.Prelude.{◌≡◌, ℕ, ◌-◌, Bool, true, false, not, ◌||◌, List, Option, Some, None, is_some, IfSome, nat_eq, slice_get, option_and_then}
use Rattle.std.specs.Prelude.{if◌then◌else◌}
use Rattle.std.specs.Option.{option_map_or}
use Rattle.dh_metadata.specs.Places.{place_of}
use Rattle.dh_metadata.specs.Ids.{ids_at}
use Rattle.dh_metadata.specs.declared.kind.Kind.{Kind}
use Rattle.dh_metadata.specs.declared.kind.Kind.TheVariants as kind
use Rattle.expr_lang.specs.declared.tree.Item.{Item}
use Rattle.expr_lang.specs.declared.tree.Item.TheVariants as item

-- the identifiers of each kind, in the order of the kinds
abbrev pub KindIds : Type 0
KindIds = List (List (List ℕ))

-- an object of the kind has the identifier
abbrev pub is_there : KindIds → Kind → List ℕ → Bool
is_there ids which id = is_some (place_of (ids_at ids which) id)

abbrev pub is_absent_combo : KindIds → Option (List ℕ) → Bool
is_absent_combo ids combo = option_map_or (λ id. not (is_there ids kind.CategoryOptionCombo id)) combo false

-- the item names an object that isn't there
abbrev pub is_missing : KindIds → Item → Bool
is_missing ids (item.Element element combo attribute) =
    not (is_there ids kind.DataElement element) || (is_absent_combo ids combo || is_absent_combo ids attribute)
is_missing ids (item.Constant id) = not (is_there ids kind.Constant id)
is_missing ids (item.Group id) = not (is_there ids kind.OrganisationUnitGroup id)
is_missing ids (item.Rate set rate) = not (is_there ids kind.DataSet set)
is_missing ids (item.StageElement stage element) =
    not (is_there ids kind.ProgramStage stage) || not (is_there ids kind.DataElement element)
is_missing ids (item.Attribute id) = not (is_there ids kind.TrackedEntityAttribute id)
is_missing ids item.Days = false
is_missing ids item.EventDate = false
is_missing ids item.EnrollmentDate = false
is_missing ids item.EventCount = false
is_missing ids item.EnrollmentCount = false
is_missing ids item.EntityCount = false

-- the stage that an item names, and the one before a place
abbrev pub stage_named : Item → Option (List ℕ)
stage_named (item.StageElement stage element) = Some stage
stage_named _ = None

unfoldable pub stage_before : List Item → ℕ → Option (List ℕ)
stage_before items n = if nat_eq n 0 then None else option_and_then stage_named (slice_get items (n - 1))

-- a stage is there, if one is known
abbrev pub IsStageThere : KindIds → Option (List ℕ) → Type 0
IsStageThere ids known = IfSome known (λ stage. is_there ids kind.ProgramStage stage ≡ true)
