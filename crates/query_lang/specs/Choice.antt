-- The units that all items choose together.
use Rattle.std.specs.Prelude.{ℕ, Bool, not, ◌&&◌, ◌||◌, ◌==◌, if◌then◌else◌, List, [], length, filter, nat_eq}
use Rattle.std.specs.List.{list_any, list_all, flat_map}
use Rattle.org_tree.specs.Units.{UnitRow, level_of}
use Rattle.query_lang.specs.Once.{once_from}
use Rattle.query_lang.specs.declared.part.Part.{Part}
use Rattle.query_lang.specs.Walk.{walk_of, has}
use Rattle.query_lang.specs.View.{is_under_any}
use Rattle.query_lang.specs.Parts.{part_units, levels_of, is_group, is_narrowing}

-- the units of the items, one item after the other
unfoldable pub parts_units : List UnitRow → List ℕ → List Part → List ℕ
parts_units us views parts = flat_map (part_units us views) parts

-- each once
unfoldable pub listed_units : List UnitRow → List ℕ → List Part → List ℕ
listed_units us views parts = once_from nat_eq [] (parts_units us views parts)

-- the bounds are the other items' units, or the view units where no other item stands
unfoldable pub bounds_of : List UnitRow → List ℕ → List Part → List ℕ
bounds_of us views parts = if list_all is_narrowing parts then views else parts_units us views parts

-- under a bound, at a level if one is named, in a group if one is named
unfoldable pub is_chosen : List UnitRow → List ℕ → List ℕ → Bool → List ℕ → ℕ → Bool
is_chosen us bounds levels grouped members x =
    is_under_any us bounds x && ((length levels == 0) || has levels (level_of us x)) && (not grouped || has members x)

unfoldable pub narrowed_units : List UnitRow → List ℕ → List ℕ → List Part → List ℕ
narrowed_units us views members parts =
    filter (is_chosen us (bounds_of us views parts) (levels_of parts) (list_any is_group parts) members) (walk_of us)

-- the units of a query, where the groups that it names have these members: where a level or a group stands, those
-- that it leaves of the other items' units and all under these
unfoldable pub chosen_units : List UnitRow → List ℕ → List ℕ → List Part → List ℕ
chosen_units us views members parts =
    if list_any is_narrowing parts then narrowed_units us views members parts else listed_units us views parts
