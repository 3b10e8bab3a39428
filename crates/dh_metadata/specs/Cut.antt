-- A list cut into lists that stand one after the other.
use Rattle.std.specs.Prelude.{◌≡◌, ℕ, ◌-◌, ◌≤◌, ◌<◌, ◌^◌, ◌&&◌, cond, nat_le, nat_lt, List, [], ◌∷◌, take, drop, length, Option, None, Some}
use Rattle.dh_metadata.specs.Places.{repeat_of}

-- from one place up to another
abbrev pub piece : {A : Type 0} → ℕ → ℕ → List A → List A
piece from end xs = take (end - from) (drop from xs)

-- the pieces that end at these places, each beginning where the one before it ends
abbrev pub cut : {A : Type 0} → ℕ → List ℕ → List A → List (List A)
cut from [] xs = []
cut from (end ∷ ends) xs = piece from end xs ∷ cut end ends xs

-- places that don't fall, the last of which is a given one
abbrev pub AreEnds : ℕ → List ℕ → ℕ → Type 0
AreEnds from [] last = from ≡ last
AreEnds from (end ∷ ends) last = (from ≤ end) × AreEnds end ends last

-- the pieces of an index of identifiers: one for each of the 22 kinds
pub record AreKinds (ends : List ℕ) (ids : List (List ℕ)) : Type 0 where
  pub differ : repeat_of ids ≡ None
  pub numbered : length ids < 2 ^ 32
  pub joined : AreEnds 0 ends (length ids)
  pub number : length ends ≡ 22

-- a place of the whole list as a place of the piece
abbrev pub in_piece : ℕ → ℕ → Option ℕ → Option ℕ
in_piece from end None = None
in_piece from end (Some place) = cond (nat_le from place && nat_lt place end) (Some (place - from)) None
