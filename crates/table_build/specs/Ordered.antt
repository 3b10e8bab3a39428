-- Lists in the order of a key, in which each key stands once.
use Rattle.std.specs.Prelude.{List, [], ◌∷◌}
use Rattle.std.specs.declared.cmp.Ordering.{Ordering}
use Rattle.std.specs.BTreeMap.{insert_entry}
use Rattle.std.specs.Map.{values_of}

-- entries with the members of a list put among them, one after the other: a new key goes to its place, and one that is there takes the member
abbrev pub put_all : {K X : Type 0} → (K → K → Ordering) → (X → K) → List (K × X) → List X → List (K × X)
put_all cmp key entries [] = entries
put_all cmp key entries (x ∷ xs) = put_all cmp key (insert_entry cmp entries (key x) x) xs

-- the members of a list by their keys, ascending; of those with one key the last
abbrev pub in_order : {K X : Type 0} → (K → K → Ordering) → (X → K) → List X → List X
in_order cmp key xs = values_of (put_all cmp key [] xs)

-- entries with a value put at the key of each member of a list, one after the other
abbrev pub put_each : {K X V : Type 0} → (K → K → Ordering) → (X → K) → (X → V) → List (K × V) → List X → List (K × V)
put_each cmp key value entries [] = entries
put_each cmp key value entries (x ∷ xs) = put_each cmp key value (insert_entry cmp entries (key x) (value x)) xs
