-- The units that single items stand for.
use Rattle.std.specs.Prelude.{ℕ, nat_lt, Bool, true, false, if◌then◌else◌, List, [], ◌∷◌, length, filter, Option, None, Some}
use Rattle.std.specs.List.{filter_map}
use Rattle.std.specs.Option.{option_map_or}
use Rattle.org_tree.specs.Units.{UnitRow, climb}
use Rattle.query_lang.specs.declared.part.Part.{Part}
use Rattle.query_lang.specs.declared.part.Part.TheVariants as part
use Rattle.query_lang.specs.Walk.{walk_of, has}

-- the unit that many steps above is one of the view units
abbrev pub is_kin : List UnitRow → List ℕ → ℕ → ℕ → Bool
is_kin us views degree x = option_map_or (has views) (climb degree us x) false

-- the units so many steps below the view units, in the order of the tree
unfoldable pub kin_of : List UnitRow → List ℕ → ℕ → List ℕ
kin_of us views degree = filter (is_kin us views degree) (walk_of us)

-- the units that an item stands for on its own
abbrev pub part_units : List UnitRow → List ℕ → Part → List ℕ
part_units us views (part.Unit x) = if nat_lt x (length us) then x ∷ [] else []
part_units us views part.User = kin_of us views 0
part_units us views part.Children = kin_of us views 1
part_units us views part.Grandchildren = kin_of us views 2
part_units us views (part.Level n) = []
part_units us views (part.Group g) = []

abbrev pub level_in : Part → Option ℕ
level_in (part.Unit x) = None
level_in part.User = None
level_in part.Children = None
level_in part.Grandchildren = None
level_in (part.Level n) = Some n
level_in (part.Group g) = None

-- the levels that are named
unfoldable pub levels_of : List Part → List ℕ
levels_of parts = filter_map level_in parts

abbrev pub is_group : Part → Bool
is_group (part.Unit x) = false
is_group part.User = false
is_group part.Children = false
is_group part.Grandchildren = false
is_group (part.Level n) = false
is_group (part.Group g) = true

-- the item chooses among the units under others
abbrev pub is_narrowing : Part → Bool
is_narrowing (part.Unit x) = false
is_narrowing part.User = false
is_narrowing part.Children = false
is_narrowing part.Grandchildren = false
is_narrowing (part.Level n) = true
is_narrowing (part.Group g) = true
