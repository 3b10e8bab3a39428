-- Data sets, their elements and their units.
use Rattle.std.specs.Prelude.{ℕ, ◌+◌, Bool, false, List, [], ◌∷◌, map, slice_get}
use Rattle.std.specs.Option.{option_map_or}
use Rattle.std.specs.Ordering.{nat_cmp}
use Rattle.std.specs.BTreeMap.{insert_entry}
use Rattle.std.specs.Cmp.Lexicographic.{slice_cmp}
use Rattle.dh_metadata.specs.declared.held.Records.{Records}
use Rattle.dh_metadata.specs.declared.records.DataSet.{DataSet}
use Rattle.dh_metadata.specs.Members.{has, holders}

-- identifiers with their numbers from a first one on, put among others in the order of their bytes
abbrev pub put_by_id : List (List ℕ × ℕ) → ℕ → List (List ℕ) → List (List ℕ × ℕ)
put_by_id entries number [] = entries
put_by_id entries number (id ∷ ids) = put_by_id (insert_entry (slice_cmp nat_cmp) entries id number) (number + 1) ids

-- the numbers of identifiers, in the order of their bytes
unfoldable pub by_id : List (List ℕ) → List ℕ
by_id ids = map (λ entry. entry.1) (put_by_id [] 0 ids)

abbrev pub element_lists : List DataSet → List (List ℕ)
element_lists sets = map (λ (set : DataSet). set.data_set_elements) sets

abbrev pub unit_lists : List DataSet → List (List ℕ)
unit_lists sets = map (λ (set : DataSet). set.organisation_units) sets

abbrev pub set_ids : List DataSet → List (List ℕ)
set_ids sets = map (λ (set : DataSet). set.id) sets

-- the element is in the data set
abbrev pub has_element : Records → ℕ → ℕ → Bool
has_element r set element = option_map_or (λ (found : DataSet). has found.data_set_elements element) (slice_get r.data_sets set) false

-- the unit is assigned to the data set
abbrev pub is_assigned : Records → ℕ → ℕ → Bool
is_assigned r set unit = option_map_or (λ (found : DataSet). has found.organisation_units unit) (slice_get r.data_sets set) false

-- the data sets with the element, in the order of the bytes of their identifiers
abbrev pub sets_with : Records → ℕ → List ℕ
sets_with r element = holders (element_lists r.data_sets) (by_id (set_ids r.data_sets)) element
