-- Two readings, one after the other.
use Rattle.std.specs.Prelude.{◌≡◌, Result, Ok, Err}
use Rattle.json_read.specs.Forms.{Formed, and_then}

-- what both stand for, or the fault of the first that has one
infixr 20 ◌⊗◌
unfoldable pub ◌⊗◌ : {A B : Type 0} → Formed A → Formed B → Formed (A × B)
first ⊗ second = and_then first (λ a. and_then second (λ b. Ok (a, b)))

-- both values, or the fault of the first that has one
abbrev pub IsBoth : {A B E : Type 0} → Result A E → Result B E → Result (A × B) E → Type 0
IsBoth (Ok a) (Ok b) result = result ≡ Ok (a, b)
IsBoth (Ok a) (Err fault) result = result ≡ Err fault
IsBoth (Err fault) second result = result ≡ Err fault
