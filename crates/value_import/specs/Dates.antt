-- The date of a completion.
use Rattle.std.specs.Prelude.{ℕ, ℤ, Bool, true, ◌==◌, cond, List, [], ◌∷◌, take, drop, Option, Some, None}
use Rattle.dh_periods.specs.Civil.{civil_of}

-- what follows a date begins with `T`
abbrev pub is_time : List ℕ → Bool
is_time [] = true
is_time (byte ∷ more) = byte == 84

-- the day of a text whose first ten bytes are a date, and whose bytes after them, if there are any, begin with `T`
unfoldable pub dated : List ℕ → Option ℤ
dated text = cond (is_time (drop 10 text)) (civil_of (take 10 text)) None

-- an absent date is today
unfoldable pub day_told : ℤ → Option (List ℕ) → Option ℤ
day_told today None = Some today
day_told today (Some text) = dated text
