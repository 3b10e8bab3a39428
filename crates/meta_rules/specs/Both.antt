-- Two answers as one.
use Rattle.std.specs.Prelude.{◌≡◌, Result, Ok, Err}

-- both values, or the fault of the first that has one
abbrev pub IsBoth : {A B F : Type 0} → Result A F → Result B F → Result (A × B) F → Type 0
IsBoth (Ok a) (Ok b) result = result ≡ Ok (a, b)
IsBoth (Ok a) (Err fault) result = result ≡ Err fault
IsBoth (Err fault) second result = result ≡ Err fault
