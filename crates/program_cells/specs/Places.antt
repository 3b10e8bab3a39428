-- Where the events of a unit stand among others.
use Rattle.std.specs.Prelude.{◌≡◌, ℕ, ◌<◌, suc, Bool, false, ◌&&◌, nat_eq, nat_le, nat_lt, if◌then◌else◌, List, [], ◌∷◌, length, get_or, slice_get}
use Rattle.std.specs.List.{filter_map}
use Rattle.std.specs.Option.{option_map_or}
use Rattle.table_rows.specs.declared.event.EventRow.{EventRow}

-- the places of those that pass, of which the first in the list is at n
abbrev pub places_from : {X : Type 0} → ℕ → (X → Bool) → List X → List ℕ
places_from n test [] = []
places_from n test (x ∷ xs) = if test x then n ∷ places_from (suc n) test xs else places_from (suc n) test xs

-- for each of the first numbers, the places of those that have it
pub record ArePlaces {X : Type 0} (number : X → ℕ) (xs : List X) (places : List (List ℕ)) : Type 0 where
  pub each : (n : ℕ) (d : List ℕ) → n < length places → get_or places n d ≡ places_from 0 (λ x. nat_eq (number x) n) xs

abbrev pub order_of : EventRow → ℕ
order_of event = event.order

-- the place is that of a member that passes
abbrev pub passes_at : {X : Type 0} → (X → Bool) → List X → ℕ → Bool
passes_at test xs place = option_map_or test (slice_get xs place) false

-- the number lies from the one up to below the other
abbrev pub is_between : ℕ → ℕ → ℕ → Bool
is_between from to n = nat_le from n && nat_lt n to

-- of a list with an item for each member, the items of the members that pass
abbrev pub items_of : {X T : Type 0} → (X → Bool) → List X → List T → List T
items_of test xs items = filter_map (slice_get items) (places_from 0 test xs)
