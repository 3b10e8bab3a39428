-- The data that trees over their texts stand for.
use Rattle.std.specs.Prelude.{ℕ, List, [], ◌∷◌, map}
use Rattle.std.specs.Borrow.{Bor}
use Rattle.std.specs.declared.alloc.Global.{Global}
use Rattle.json.specs.Value.{value_view}
use Rattle.json.specs.declared.value.Value.{Value}
use Rattle.serde_json.specs.Data.{Data, Items, Members, no_members, member}
use Rattle.serde_json.specs.View.{items_of}
use Rattle.json_read.specs.Meant.{meant}

abbrev pub data_of : Value Global → Data
data_of value = meant (value_view value)

-- the data of the items of a list
abbrev pub items_data : List (Value Global) → Items
items_data values = items_of (map data_of values)

-- the data of the members of an object, as a map from keys holds them
abbrev pub members_data : List (Bor (List ℕ) × Bor (Value Global)) → Members
members_data [] = no_members
members_data (entry ∷ entries) = member entry.0.now (data_of entry.1.now) (members_data entries)
