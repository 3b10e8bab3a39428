-- Two forms of the same data, one after the other.
use Rattle.std.specs.Prelude.{Ok}
use Rattle.json_read.specs.Forms.{Formed, and_then}

-- what both stand for, or the fault of the first that has one
infixl 20 ◌⊗◌
unfoldable pub ◌⊗◌ : {A B : Type 0} → Formed A → Formed B → Formed (A × B)
first ⊗ second = and_then first (λ a. and_then second (λ b. Ok (a, b)))
