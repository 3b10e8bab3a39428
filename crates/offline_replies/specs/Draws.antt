-- Samples of values at facilities in months, drawn by a linear congruential generator. Its state is a number below 2 ^ 31.
use Rattle.std.specs.Prelude.{ℕ, zero, suc, ◌+◌, ◌*◌, ◌/◌, ◌%◌, List, [], ◌∷◌}
use Rattle.offline_replies.specs.declared.samples.draws.Sample.{Sample}

abbrev pub start : ℕ
start = 1

-- a draw takes a state to the next
unfoldable pub next : ℕ → ℕ
next x = (1103515245 * x + 12345) % 2147483648

-- and gives the upper part of that
unfoldable pub drawn : ℕ → ℕ
drawn x = next x / 65536

-- a sample is made of three draws
unfoldable pub sample_from : ℕ → Sample
sample_from x = record { facility = drawn x % 100; month = drawn (next x) % 24; amount = 1 + drawn (next (next x)) % 1000 }

unfoldable pub after_sample : ℕ → ℕ
after_sample x = next (next (next x))

-- so many samples from a state on
abbrev pub samples : ℕ → ℕ → List Sample
samples zero x = []
samples (suc n) x = sample_from x ∷ samples n (after_sample x)

-- the state after them
abbrev pub after_samples : ℕ → ℕ → ℕ
after_samples zero x = x
after_samples (suc n) x = after_samples n (after_sample x)
