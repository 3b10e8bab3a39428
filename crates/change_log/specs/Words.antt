-- The words that records are written in. Numbers are big-endian.
use Rattle.std.specs.Prelude.{ℕ, ◌<◌, ◌^◌, ◌-◌, min, IsTrue, List, [], ◌∷◌, ◌++◌, length, Option, None, Some, ℤ}
use Rattle.std.specs.List.{flat_map}
use Rattle.dh_base.specs.Uid.{is_uid}
use Rattle.std.specs.Int.{Width, w16, to_be_bytes, cast_unsigned}

-- a number in all bytes of its width
abbrev pub number : Width → ℕ → List ℕ
number w n = to_be_bytes w n

-- a number that may be negative, in two's complement
abbrev pub signed : Width → ℤ → List ℕ
signed w z = to_be_bytes w (cast_unsigned w z)

-- a text after its length
abbrev pub text : Width → List ℕ → List ℕ
text w bytes = number w (length bytes) ++ bytes

-- a list after its count
abbrev pub listed : {A : Type 0} → Width → (A → List ℕ) → List A → List ℕ
listed w each items = number w (length items) ++ flat_map each items

-- eleven zero bytes in the place of an identifier
abbrev pub no_id : List ℕ
no_id = 0 ∷ 0 ∷ 0 ∷ 0 ∷ 0 ∷ 0 ∷ 0 ∷ 0 ∷ 0 ∷ 0 ∷ 0 ∷ []

-- an identifier, or zeros where there is none
abbrev pub optional_id : Option (List ℕ) → List ℕ
optional_id None = no_id
optional_id (Some id) = id

-- an item's identifier and its value
abbrev pub id_text : List ℕ × List ℕ → List ℕ
id_text pair = pair.0 ++ text w16 pair.1

-- what is an identifier, and an item's identifier and a value that has a length of two bytes
abbrev pub IsId : List ℕ → Type 0
IsId id = IsTrue (is_uid id)

abbrev pub IsIdText : List ℕ × List ℕ → Type 0
IsIdText pair = IsId pair.0 × (length pair.1 < 2 ^ 16)

-- a length, or the largest number of eight bytes where it is larger
abbrev pub capped : ℕ → ℕ
capped n = min n (2 ^ 64 - 1)
