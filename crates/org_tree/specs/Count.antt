-- Numbers below a bound: how many pass a test, and the first that does.
use Rattle.std.specs.Prelude.{ℕ, zero, suc, ◌+◌, Bool, cond, Option, Some, None}

-- how many of the numbers below n pass the test
abbrev pub count_below : (ℕ → Bool) → ℕ → ℕ
count_below test zero = 0
count_below test (suc n) = count_below test n + cond (test n) 1 0

-- the first of two answers that is there
abbrev pub or_else : {T : Type 0} → Option T → Option T → Option T
or_else None other = other
or_else (Some found) other = Some found

-- the first number below n that passes the test
abbrev pub first_below : (ℕ → Bool) → ℕ → Option ℕ
first_below test zero = None
first_below test (suc n) = or_else (first_below test n) (cond (test n) (Some n) None)
