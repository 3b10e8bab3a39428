-- Of a list in the order of a key, the last member of each key.
use Rattle.std.specs.Prelude.{Bool, false, cond, List, [], ◌∷◌}
use Rattle.std.specs.declared.cmp.Ordering.{Ordering}
use Rattle.std.specs.Ordering.{is_eq}

-- the next member has the same key
abbrev pub is_again : {K X : Type 0} → (K → K → Ordering) → (X → K) → X → List X → Bool
is_again cmp key x [] = false
is_again cmp key x (y ∷ ys) = is_eq (cmp (key x) (key y))

-- the keys with the values of the members that none of the same key follows
abbrev pub last_of_each : {K X V : Type 0} → (K → K → Ordering) → (X → K) → (X → V) → List X → List (K × V)
last_of_each cmp key value [] = []
last_of_each cmp key value (x ∷ xs) =
    cond (is_again cmp key x xs) (last_of_each cmp key value xs) ((key x, value x) ∷ last_of_each cmp key value xs)
