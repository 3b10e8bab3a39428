-- What a tree over its text means as data: a number is what its text writes, and of equal keys the last counts.
use Rattle.std.specs.Prelude.{ℕ, Bool, true, ◌&&◌, List, is_some}
use Rattle.std.specs.Option.{option_map_or}
use Rattle.json.specs.Json as json
use Rattle.serde_json.specs.Data.{Num, unsigned, Data, null, boolean, number, string, array, object, Items, no_items, item, Members, no_members, put}
use Rattle.serde_json.specs.Read.{number_of}

-- each number is within the range of a float
abbrev mutual
  pub is_within : json.Json → Bool
  is_within json.null = true
  is_within (json.boolean b) = true
  is_within (json.number s) = is_some (number_of s)
  is_within (json.string s) = true
  is_within (json.array js) = are_items_within js
  is_within (json.object ms) = are_members_within ms

  pub are_items_within : json.Items → Bool
  are_items_within json.no_items = true
  are_items_within (json.item j js) = is_within j && are_items_within js

  pub are_members_within : json.Members → Bool
  are_members_within json.no_members = true
  are_members_within (json.member k j ms) = is_within j && are_members_within ms

-- the number that a text writes, or 0 where it is beyond the range of a float
abbrev pub number_or_0 : List ℕ → Num
number_or_0 s = option_map_or (λ n. n) (number_of s) (unsigned 0)

abbrev mutual
  pub meant : json.Json → Data
  meant json.null = null
  meant (json.boolean b) = boolean b
  meant (json.number s) = number (number_or_0 s)
  meant (json.string s) = string s
  meant (json.array js) = array (items_meant js)
  meant (json.object ms) = object (members_meant ms no_members)

  pub items_meant : json.Items → Items
  items_meant json.no_items = no_items
  items_meant (json.item j js) = item (meant j) (items_meant js)

  -- the members go in one after another
  pub members_meant : json.Members → Members → Members
  members_meant json.no_members found = found
  members_meant (json.member k j ms) found = members_meant ms (put k (meant j) found)
