-- What an object outside this program tells of its failures: a count that never falls.
use Rattle.std.specs.Prelude.{◌<◌, ◌≤◌, ◌+◌, ◌⊎◌, ℕ, ◌-◌, ◌^◌, min}

-- the count rose, or stands at the last value that it can have
abbrev pub Rose : ℕ → ℕ → Type 0
Rose old new = (old < new) ⊎ (2 ^ 64 - 1 ≤ new)

-- one more, as a count of 64 bits shows it
abbrev pub one_more : ℕ → ℕ
one_more n = min (n + 1) (2 ^ 64 - 1)
