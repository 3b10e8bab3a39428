-- What the bytes of a log begin with.
use Rattle.std.specs.Prelude.{◌≡◌, ℕ, ◌+◌, Bool, ◌||◌, IsTrue, nat_lt, ⊤, List, ◌++◌, length, take, Option, None, Some, Result, Ok, Err}
use Rattle.std.specs.Int.{w32, from_be_bytes}
use Rattle.dh_base.specs.declared.memory.Memory.{Memory}
use Rattle.dh_changes.specs.declared.change.Change.{Change}
use Rattle.change_log.specs.declared.decoded.Decoded.{Decoded}
use Rattle.change_log.specs.declared.decoded.Decoded.TheVariants.{Whole, Short, Bad}
use Rattle.change_log.specs.ReadWords.{text_at}
use Rattle.change_log.specs.Bytes.{change_bytes}
use Rattle.change_log.specs.Forms.{IsChange}
use Rattle.change_log.specs.Reading.{change_of}

-- there are fewer than four bytes, or fewer after them than these four say
abbrev pub is_short : List ℕ → Bool
is_short bytes = nat_lt (length bytes) 4 || nat_lt (length bytes) (4 + from_be_bytes w32 (take 4 bytes))

-- the bytes begin with those of a change under that number
abbrev pub Begins : ℕ → Change → List ℕ → Type 0
Begins n change bytes = (rest : List ℕ) × IsChange n change × (bytes ≡ change_bytes n change ++ rest)

abbrev pub Decodes : ℕ → List ℕ → Result Decoded Memory → Type 0
Decodes n bytes (Ok (Whole change used)) = Begins n change bytes × (used ≡ length (change_bytes n change))
Decodes n bytes (Ok Short) = IsTrue (is_short bytes)
Decodes n bytes (Ok Bad) = ¬ IsTrue (is_short bytes) × ((change : Change) → ¬ Begins n change bytes)
Decodes n bytes (Err _) = ⊤

-- what is read after the length: a change, or bytes out of form
abbrev pub read_as : List ℕ → Option Change → Decoded
read_as body (Some change) = Whole change (4 + length body)
read_as body None = Bad

abbrev pub framed_as : ℕ → Option (List ℕ × List ℕ) → Decoded
framed_as n None = Short
framed_as n (Some framed) = read_as framed.0 (change_of n framed.0)

unfoldable pub decoded_of : ℕ → List ℕ → Decoded
decoded_of n bytes = framed_as n (text_at w32 bytes)
